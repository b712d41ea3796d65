use Rattle.std.proofs.Common.{◌∙◌, rules}
use Rattle.crosstab.proofs.Totals.{joined_by_fold}
use Rattle.crosstab.proofs.joining.joined.Goals as goal

pub returns : goal.returns
returns g c =
    let run = c.fold.ensures.runs in
    let folded = rw c.empty.ensures.answer at run.3 g.C.Card.joined (λ all card r f' call. search rules) in
    (run.0, run.1, run.2, folded ∙ joined_by_fold g.met.C.Card.laws _)
