use Rattle.std.proofs.Common.{◌≡◌, ◌-◌, ◌<◌, length, arith}
use Rattle.std.proofs.lemmas.List.FromFn.{fill_by_all}
use Rattle.std.proofs.lemmas.List.Edits.{fill_by_more}
use Rattle.sharing.specs.RunningTotal.{running_share}
use Rattle.sharing.specs.RunningLaws.{sum_more}
use Rattle.sharing.proofs.RunningOnly.{the_one_by_running_totals}
use Rattle.sharing.proofs.running_total.write_running_totals.Goals as goal

pub loop-i-preserved : goal.loop-i-preserved
loop-i-preserved c =
    let a = c.args.division.now.amount in
    let ws = c.args.division.now.weights.now in
    let i = c.loop-i.i in
    let before = c.loop-i.invariant in
    let total = c.args.division.now.admitted.total_is in
    let share : c.units_together-together.result - c.loop-i.given ≡ running_share a ws i = grind (arith, sum_more) in
    let inside : i < length c.loop-i.shares = omega arith in
    record {
      reached = grind (arith, sum_more);
      given = grind (arith, sum_more);
      shares = simp share (fill_by_more (running_share a ws) c.loop-i.shares i 0 inside before.shares);
    }

pub returns : goal.returns
returns c =
    let a = c.args.division.now.amount in
    let ws = c.args.division.now.weights.now in
    let long : length c.loop-i.shares ≡ length ws = omega arith in
    let filled = fill_by_all (running_share a ws) c.loop-i.shares (length ws) 0 long (λ k h. c.loop-i.invariant.shares k (omega arith)) in
    record { shares = filled; by_running_totals = the_one_by_running_totals a ws c.loop-i.shares filled }
