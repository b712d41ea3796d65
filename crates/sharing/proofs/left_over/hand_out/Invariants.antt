use Rattle.std.proofs.Common.{◌≡◌, ◌+◌, ◌-◌, ◌≤◌, sum}
use Rattle.sharing.specs.LeftOver.{hand_out}
use Rattle.sharing.proofs.left_over.hand_out.Given as goal

abbrev pub invariant-loop : goal.invariant-loop
invariant-loop l =
    (sum l.shares + (l.left - l.counter) ≤ sum l.initial.shares + l.left)
    × (hand_out (l.left - l.counter) l.rests l.shares ≡ hand_out l.left l.initial.rests l.initial.shares)
