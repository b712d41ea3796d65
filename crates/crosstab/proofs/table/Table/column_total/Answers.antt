use Rattle.std.proofs.Common.{◌<◌, ◌∙◌, ap, subst, sym, rules, arith}
use Rattle.std.specs.Iterator.Runs.{IsChunksExactRun}
use Rattle.std.specs.Slice.Iter.{chunks_exact_rest, chunks_exact_size}
use Rattle.crosstab.specs.Cards.{joined_all}
use Rattle.crosstab.proofs.Lines.{column_by_chunks}
use Rattle.crosstab.proofs.table.Table.column_total.Goals as goal

pub returns : goal.returns
returns g c =
    let kind = g.C.Card in
    let table = c.args.self.now in
    let chunked = c.each_row.ensures in
    let run = c.joined.ensures in
    let mapped = c.map.ensures.runs run.0 run.0.seen run.1 in
    let rows = mapped.0 in
    let sized = subst (λ s. 0 < chunks_exact_size s → IsChunksExactRun rows (chunks_exact_size s) (chunks_exact_rest s)) mapped.1 (chunked.runs rows rows.seen) in
    let parts = subst (λ n. 0 < n → IsChunksExactRun rows n (chunks_exact_rest c.each_row.result)) chunked.size sized in
    let whole = subst (λ xs. IsChunksExactRun rows table.columns xs) chunked.cards (parts (omega (arith, c.requires))) in
    let related = mapped.2.2 (λ a r f' call. search rules) in
    run.3 ∙ sym (ap (joined_all kind.blank kind.joined) (column_by_chunks kind.blank table.cards.now table.rows table.columns c.args.c table.filled c.requires run.0 rows _ (λ x y below call. search rules) run.2 mapped.2.0 mapped.2.1 related.1 whole))
