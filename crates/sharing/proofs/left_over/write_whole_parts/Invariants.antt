use Rattle.std.proofs.Common.{◌≡◌, ℕ, ◌+◌, ◌<◌, get_or, take, sum}
use Rattle.sharing.specs.LeftOver.{whole_parts, remainders}
use Rattle.sharing.proofs.left_over.write_whole_parts.Given as goal

abbrev pub invariant-loop-i : goal.invariant-loop-i
invariant-loop-i l = record {
  left : l.left + sum (take l.i (whole_parts l.division.amount l.division.weights.now)) ≡ l.division.amount;
  parts : (k : ℕ) → k < l.i → get_or l.shares k 0 ≡ get_or (whole_parts l.division.amount l.division.weights.now) k 0;
  rests : (k : ℕ) → k < l.i → get_or l.rests k 0 ≡ get_or (remainders l.division.amount l.division.weights.now) k 0;
}
