use Rattle.std.proofs.Common.{◌≡◌, ℕ, ◌<◌, get_or, take, sum}
use Rattle.sharing.specs.RunningTotal.{together, running_share}
use Rattle.sharing.proofs.running_total.write_running_totals.Given as goal

abbrev pub invariant-loop-i : goal.invariant-loop-i
invariant-loop-i l = record {
  reached : l.reached ≡ sum (take l.i l.division.weights.now);
  given : l.given ≡ together l.division.amount l.division.weights.now l.i;
  shares : (k : ℕ) → k < l.i → get_or l.shares k 0 ≡ running_share l.division.amount l.division.weights.now k;
}
