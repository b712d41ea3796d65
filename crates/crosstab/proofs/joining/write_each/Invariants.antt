use Rattle.std.proofs.Common.{ℕ, ◌<◌, get_or}
use Rattle.crosstab.proofs.joining.write_each.Given as goal

abbrev pub invariant-loop-i : goal.invariant-loop-i
invariant-loop-i g l = (k : ℕ) → k < l.i → goal.F-post g l.card_at k (get_or l.places k g.C.Card.blank)
