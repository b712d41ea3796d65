use Rattle.std.specs.Fmt.{HasWritten, IsPlainFormatter}
use Rattle.std.specs.List.{range_with_len, flat_map}
use Rattle.day_list.specs.Listing.{day_text}
use Rattle.day_list.proofs.days.DayListDisplay.fmt.Given as goal

abbrev pub invariant-loop-number : goal.invariant-loop-number
invariant-loop-number g l =
    IsPlainFormatter l.initial.f → HasWritten g.W.Write.write_str_gives l.initial.f (flat_map (day_text l.self.0.terms) (range_with_len 0 l.number)) l.f
