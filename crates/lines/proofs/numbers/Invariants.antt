use Rattle.std.proofs.Common.{◌≡◌, false, length, drop, vec_items}
use Rattle.lines.specs.Cuts.{pieces}
use Rattle.lines.specs.Numbers.{numbers_in}
use Rattle.lines.proofs.NumberLines.{numbers_on}
use Rattle.std.specs.Slice.Iter.{split_rest, split_done}
use Rattle.lines.proofs.numbers.Given as goal

abbrev pub invariant-loop-piece : goal.invariant-loop-piece
invariant-loop-piece l = record {
  whole_line : split_rest l.initial.piece-iterator ≡ l.line;
  from_start : split_done l.initial.piece-iterator ≡ false;
  so_far : numbers_on (vec_items l.found) (drop (length l.yielded) (pieces 32 l.line)) ≡ numbers_in l.line;
}
