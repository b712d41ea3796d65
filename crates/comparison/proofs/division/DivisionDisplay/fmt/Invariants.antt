use Rattle.std.proofs.Common.{◌++◌, take, codes}
use Rattle.std.specs.Fmt.{HasWritten, IsPlainFormatter}
use Rattle.std.specs.List.{flat_map}
use Rattle.comparison.specs.Report.{place_text}
use Rattle.comparison.proofs.division.DivisionDisplay.fmt.Given as goal

-- The places so far are written.
abbrev pub invariant-loop-place : goal.invariant-loop-place
invariant-loop-place g l =
    IsPlainFormatter l.initial.f → HasWritten g.W.Write.write_str_gives l.initial.f (flat_map (λ place. place_text place ++ codes "\n") (take l.place-index l.place-items)) l.f
