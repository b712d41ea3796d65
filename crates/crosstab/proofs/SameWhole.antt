-- Row totals and column totals join to the same whole, for every kind that keeps the laws. Assumes nothing.
use Rattle.std.proofs.Common.{◌≡◌, ℕ, zero, suc, ◌+◌, ◌*◌, ◌-◌, ◌≤◌, List, map, length, take, drop, sym, ap, ◌∙◌, zero-mul, arith}
use Rattle.std.specs.List.{range_with_len}
use Rattle.std.proofs.Math.Seq.{take-add}
use Rattle.std.proofs.lemmas.List.{take_all, drop-drop}
use Rattle.crosstab.specs.Cards.{Laws, joined_all}
use Rattle.crosstab.specs.Tables.{card_at, row, totals_by_row, totals_by_column, SameWhole}
use Rattle.crosstab.proofs.Lines.{row_by_range}
use Rattle.crosstab.proofs.Totals.{joined_all-append, either_order}

module _ {C : Type 0} {empty : C} {joined : C → C → C} (laws : Laws empty joined) (cards : List C) (h w : ℕ) (filled : length cards ≡ h * w) where
  -- The totals of n rows from row a on join to what the cards of those rows join to.
  rows_from : (a n : ℕ) → a + n ≤ h → joined_all empty joined (map (λ r. joined_all empty joined (row empty cards w r)) (range_with_len a n)) ≡ joined_all empty joined (take (n * w) (drop (a * w) cards))
  rows_from a zero within = rw zero-mul
  rows_from a (suc n) within =
      let from = drop (a * w) cards in
      let next : (a + 1) * w ≡ a * w + w = omega arith in
      let size : a * w + w - a * w ≡ w = omega arith in
      let sizes : suc n * w ≡ w + n * w = omega arith in
      let first = row_by_range empty cards h w a filled (omega arith) in
      let others = rows_from (a + 1) n (omega arith) in
      cc (first, others, next, size, sizes, drop-drop w (a * w) cards, take-add w (n * w) from, joined_all-append laws (take w from) (take (n * w) (drop w from)))

  pub same_whole : SameWhole empty joined (totals_by_row empty joined cards h w) (totals_by_column empty joined cards h w) (joined_all empty joined cards)
  same_whole =
      let all : take (h * w) (drop (0 * w) cards) ≡ cards = rw zero-mul (take_all (h * w) cards (omega arith)) in
      let by_rows : joined_all empty joined (totals_by_row empty joined cards h w) ≡ joined_all empty joined cards = rows_from 0 h (omega arith) ∙ ap (joined_all empty joined) all in
      record {
        rows_join_to_it = by_rows;
        columns_join_to_it = sym (either_order laws (λ r c. card_at empty cards w r c) (range_with_len 0 h) (range_with_len 0 w)) ∙ by_rows;
      }
