use Rattle.crosstab.proofs.SameWhole.{same_whole}
use Rattle.crosstab.proofs.cross.cross_table.Goals as goal

pub returns-clause-same_whole : goal.returns-clause-same_whole
returns-clause-same_whole g c =
    let table = c.in_ok-table.table in
    let whole = same_whole g.met.C.Card.laws table.cards.now table.rows table.columns table.filled in
    let written = c.write_both_totals.ensures in
    rw (written.row_totals, written.column_totals, written.whole) whole
