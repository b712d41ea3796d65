-- The totals of a table of cards that lie by rows, and which calls are refused. Assumes nothing.
use Rattle.std.specs.Prelude.{◌≡◌, ℕ, ◌+◌, ◌*◌, Bool, not, ◌&&◌, List, [], ◌∷◌, map, ◌==◌, slice_index_or}
use Rattle.std.specs.List.{range_with_len}
use Rattle.refusals.specs.declared.Refusal.TheVariants.{UnlikeLengths}
use Rattle.refusals.specs.First.{Reason}
use Rattle.crosstab.specs.Cards.{joined_all}

-- The card in row r and column c; rows and columns are counted from 0.
abbrev pub card_at : {C : Type 0} → C → List C → ℕ → ℕ → ℕ → C
card_at empty cards columns r c = slice_index_or cards (r * columns + c) empty

abbrev pub row : {C : Type 0} → C → List C → ℕ → ℕ → List C
row empty cards columns r = map (λ c. card_at empty cards columns r c) (range_with_len 0 columns)

abbrev pub column : {C : Type 0} → C → List C → ℕ → ℕ → ℕ → List C
column empty cards rows columns c = map (λ r. card_at empty cards columns r c) (range_with_len 0 rows)

-- A total for each row, and a total for each column.
abbrev pub totals_by_row : {C : Type 0} → C → (C → C → C) → List C → ℕ → ℕ → List C
totals_by_row empty joined cards rows columns = map (λ r. joined_all empty joined (row empty cards columns r)) (range_with_len 0 rows)

abbrev pub totals_by_column : {C : Type 0} → C → (C → C → C) → List C → ℕ → ℕ → List C
totals_by_column empty joined cards rows columns = map (λ c. joined_all empty joined (column empty cards rows columns c)) (range_with_len 0 columns)

-- The row totals join to the whole, and the column totals join to the same.
pub record SameWhole {C : Type 0} (empty : C) (joined : C → C → C) (by_rows by_columns : List C) (whole : C) : Type 0 where
  pub rows_join_to_it : joined_all empty joined by_rows ≡ whole
  pub columns_join_to_it : joined_all empty joined by_columns ≡ whole

-- A call is refused unless there are rows × columns cards, and a place for each total.
abbrev pub unless : Bool → List Reason
unless right = record { met = not right; refusal = UnlikeLengths } ∷ []

abbrev pub whole_reasons : ℕ → ℕ → ℕ → List Reason
whole_reasons cards rows columns = unless (cards == rows * columns)

abbrev pub row_reasons : ℕ → ℕ → ℕ → ℕ → List Reason
row_reasons cards rows columns places = unless (cards == rows * columns && places == rows)

abbrev pub column_reasons : ℕ → ℕ → ℕ → ℕ → List Reason
column_reasons cards rows columns places = unless (cards == rows * columns && places == columns)

abbrev pub cross_reasons : ℕ → ℕ → ℕ → ℕ → ℕ → List Reason
cross_reasons cards rows columns row_places column_places =
    unless (cards == rows * columns && (row_places == rows && column_places == columns))
