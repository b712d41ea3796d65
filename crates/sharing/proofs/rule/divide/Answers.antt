use Rattle.sharing.proofs.Admitting.{answered_whole, answered_near}
use Rattle.sharing.proofs.rule.divide.Goals as goal

pub returns-clause-nothing_lost : goal.returns-clause-nothing_lost
returns-clause-nothing_lost g c = answered_whole (g.met.R.SharingRule.laws c.args.rule.now) c.args.amount c.args.weights.now g.row.N _ c.array_of_shares.ensures

pub returns-clause-near_exact : goal.returns-clause-near_exact
returns-clause-near_exact g c = answered_near (g.met.R.SharingRule.laws c.args.rule.now) c.args.amount c.args.weights.now g.row.N _ c.array_of_shares.ensures
