use Rattle.std.proofs.Common.{◌≡◌, drop}
use Rattle.lines.specs.Decimals.{digits_on}
use Rattle.lines.proofs.digits.Given as goal

abbrev pub invariant-loop-byte : goal.invariant-loop-byte
invariant-loop-byte l = digits_on l.value (drop l.byte-index l.text) ≡ digits_on 0 l.text
