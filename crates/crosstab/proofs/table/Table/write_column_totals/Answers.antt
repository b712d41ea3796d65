use Rattle.std.proofs.Common.{◌∙◌, rules, arith}
use Rattle.std.proofs.lemmas.List.FromFn.{fill_by_all}
use Rattle.crosstab.proofs.table.Table.write_column_totals.Goals as goal

pub returns : goal.returns
returns g c =
    fill_by_all _ _ _ g.C.Card.blank (c.write_each.ensures.places ∙ c.requires) (λ k below. search (rules, c.write_each.ensures.written k (omega arith)))
