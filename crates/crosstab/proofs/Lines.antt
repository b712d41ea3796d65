-- The cards of a row as a part of all cards, and those of a column as what a chain gives. Assumes nothing.
use Rattle.std.proofs.Common.{◌≡◌, ℕ, ◌+◌, ◌-◌, ◌*◌, ◌<◌, ◌/◌, List, Option, None, Some, Bor, true, ap, length, get_or, ◌≤◌, take, drop, sym, arith, length-drop, length-take, get_or-drop, get_or-take, ◌∙◌}
use Rattle.std.specs.List.{slice_range, IsSubsliceAt}
use Rattle.std.specs.Iterator.Runs.{Run, IsChunksExactRun}
use Rattle.std.specs.Prelude.{IfSome, IsSomeAnd}
use Rattle.std.proofs.Math.Nat.{mul-div_cancel}
use Rattle.std.proofs.lemmas.List.FromFn.{fill_by_all}
use Rattle.std.proofs.lemmas.Nat.{row_fits}
use Rattle.crosstab.specs.Tables.{card_at, row, column}

-- A row that lies within the cards is a part of them.
pub row_is_part : {C : Type 0} (empty : C) (cards : List C) (w r : ℕ) → r * w + w ≤ length cards → take w (drop (r * w) cards) ≡ row empty cards w r
row_is_part empty cards w r within =
    fill_by_all (λ c. card_at empty cards w r c) (take w (drop (r * w) cards)) w empty
    (simp (length-take, length-drop) (omega arith))
    (λ c below. get_or-take w (drop (r * w) cards) c empty below ∙ get_or-drop (r * w) cards c empty)

-- Row r of h rows of w cards.
pub row_by_range : {C : Type 0} (empty : C) (cards : List C) (h w r : ℕ) → length cards ≡ h * w → r < h → row empty cards w r ≡ slice_range cards (r * w) (r * w + w)
row_by_range empty cards h w r filled below =
    let within = row_fits r w h w below (omega arith) in
    let size : w ≡ r * w + w - r * w = omega arith in
    sym (row_is_part empty cards w r (omega (arith, filled, within))) ∙ ap (λ n. take n (drop (r * w) cards)) size

-- A run that gives the cards of column c, told place by place.
pub column_by_place : {S C : Type 0} {steps : S → Option C → S → Type 0} (empty : C) (cards : List C) (rows w c : ℕ) (p : Run steps)
    → length cards ≡ rows * w → c < w → p.whole ≡ true → p.len ≡ length cards / w → ((k : ℕ) → k < rows → p.at k ≡ Some (card_at empty cards w k c)) → column empty cards rows w c ≡ p.items
column_by_place empty cards rows w c p filled within whole len each =
    let rows_there : p.len ≡ rows = len ∙ ap (λ n. n / w) filled ∙ mul-div_cancel rows (omega arith) in
    sym (fill_by_all (λ r. card_at empty cards w r c) p.items rows empty (sym p.long ∙ rows_there) (λ k below.
    let read = p.reads k empty (omega (arith, rows_there)) in
    let is = each k below in
    grind arith))

module _ {S T C : Type 0} {steps : S → Option C → S → Type 0} {chunks : T → Option (Bor (List C)) → T → Type 0}
    (empty : C) (cards : List C) (rows w c : ℕ) (filled : length cards ≡ rows * w) (within : c < w)
    (p : Run steps) (q : Run chunks) (R : Bor (List C) → C → Type 0) (reads : (x : Bor (List C)) (y : C) → c < length x.now → R x y → y ≡ get_or x.now c empty) where
  card_of : (k : ℕ) (o : Option C) (o' : Option (Bor (List C))) (y : C) → o ≡ Some y → IfSome o (λ z. IsSomeAnd o' (λ x. R x z))
      → IfSome o' (λ x. (length x.now ≡ w) × (k * w + w ≤ length cards) × IsSubsliceAt w cards (k * w) x.now) → o ≡ Some (card_at empty cards w k c)
  card_of k None o' y is related part = grind arith
  card_of k (Some z) None y is related part = absurd related
  card_of k (Some z) (Some x) y is related part = ap Some (reads x z (omega (arith, part.0)) related ∙ part.2.2 c empty within)

  -- The c-th card of each chunk of w cards is a card of column c.
  pub column_by_chunks : p.whole ≡ true → q.whole ≡ p.whole → p.len ≡ q.len → ((k : ℕ) → IfSome (p.at k) (λ y. IsSomeAnd (q.at k) (λ x. R x y))) → IsChunksExactRun q w cards → column empty cards rows w c ≡ p.items
  column_by_chunks whole both same related parts =
      column_by_place empty cards rows w c p filled within whole (same ∙ parts.1 (both ∙ whole)) (λ k below.
      let there : k < p.len = omega (arith, same, parts.1 (both ∙ whole), ap (λ n. n / w) filled, mul-div_cancel rows {n = w} (omega arith)) in
      card_of k (p.at k) (q.at k) (get_or p.items k empty) (grind (arith, p.reads k empty there)) (related k) (parts.2 k))
