use Rattle.std.proofs.Common.{◌≡◌, take}
use Rattle.sharing.specs.LeftOver.{peak, foremost}
use Rattle.sharing.proofs.left_over.place_of_largest.Given as goal

abbrev pub invariant-loop-place : goal.invariant-loop-place
invariant-loop-place l = record {
  first : l.first ≡ foremost (take l.place l.rests);
  largest : l.largest ≡ peak (take l.place l.rests);
}
