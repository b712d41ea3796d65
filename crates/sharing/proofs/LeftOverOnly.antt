-- No two lists are told alike by the remainders. Assumes nothing.
use Rattle.std.proofs.Common.{◌≡◌, ℕ, zero, suc, ◌+◌, ◌*◌, ◌/◌, ◌<◌, ◌≤◌, ◌⊎◌, List, [], ◌∷◌, length, get_or, sum, sym, refl, ap, ◌∙◌, subst, inl, inr, arith}
use Rattle.std.proofs.lemmas.List.Sums.{sum_by-cons}
use Rattle.std.proofs.lemmas.Bool.{cases_lt}
use Rattle.sharing.specs.Rule.{TheOne}
use Rattle.sharing.specs.LeftOver.{left_over, ByRemainders}
use Rattle.sharing.specs.LeftOverLaws.{length_of_left_over}
use Rattle.sharing.proofs.LeftOverOrder.{by_remainders}

-- No number of xs is above that of ys at its place.
abbrev Below : List ℕ → List ℕ → Type 0
Below xs ys = (k : ℕ) → get_or xs k 0 ≤ get_or ys k 0

-- A place at which xs is above ys.
abbrev Above : List ℕ → List ℕ → Type 0
Above xs ys = (k : ℕ) × (k < length xs) × (get_or ys k 0 < get_or xs k 0)

below_more : (x y : ℕ) (xs ys : List ℕ) → x ≤ y → Below xs ys → Below (x ∷ xs) (y ∷ ys)
below_more x y xs ys h below zero = h
below_more x y xs ys h below (suc k) = below k

below_or_above : (xs ys : List ℕ) → length xs ≡ length ys → Below xs ys ⊎ Above xs ys
below_or_above [] ys long = inl (λ k. omega arith)
below_or_above (x ∷ xs) [] long = absurd (omega arith)
below_or_above (x ∷ xs) (y ∷ ys) long =
    elim (cases_lt y x) [
      | inl more ↦ inr (0, omega arith, more)
      | inr less ↦ elim (below_or_above xs ys (omega arith)) [
        | inl below ↦ inl (below_more x y xs ys less below)
        | inr above ↦ inr (suc above.0, omega (arith, above.1), above.2)
      ]
    ]

sum_below : (xs ys : List ℕ) → length xs ≡ length ys → Below xs ys → sum xs ≤ sum ys
sum_below [] [] long below = omega arith
sum_below [] (y ∷ ys) long below = absurd (omega arith)
sum_below (x ∷ xs) [] long below = absurd (omega arith)
sum_below (x ∷ xs) (y ∷ ys) long below =
    omega (arith, sum_by-cons (λ n. n) x xs, sum_by-cons (λ n. n) y ys, below 0, sum_below xs ys (omega arith) (λ k. below (suc k)))

-- Lists with one sum, of which one is nowhere above the other, are the same.
same_if_below : (xs ys : List ℕ) → length xs ≡ length ys → sum xs ≡ sum ys → Below xs ys → xs ≡ ys
same_if_below [] [] long same below = refl
same_if_below [] (y ∷ ys) long same below = absurd (omega arith)
same_if_below (x ∷ xs) [] long same below = absurd (omega arith)
same_if_below (x ∷ xs) (y ∷ ys) long same below =
    let rest = sum_below xs ys (omega arith) (λ k. below (suc k)) in
    let head : x ≡ y = omega (arith, sum_by-cons (λ n. n) x xs, sum_by-cons (λ n. n) y ys, below 0) in
    let tail = same_if_below xs ys (omega arith) (omega (arith, sum_by-cons (λ n. n) x xs, sum_by-cons (λ n. n) y ys)) (λ k. below (suc k)) in
    ap (λ n. n ∷ xs) head ∙ ap (λ ns. y ∷ ns) tail

module _ (a : ℕ) (ws xs ys : List ℕ) (x : ByRemainders a ws xs) (y : ByRemainders a ws ys) where
  -- Where xs has more, it has the unit and ys has not.
  has_unit : (k : ℕ) → get_or ys k 0 < get_or xs k 0 → (get_or xs k 0 ≡ a * get_or ws k 0 / sum ws + 1) × (get_or ys k 0 ≡ a * get_or ws k 0 / sum ws)
  has_unit k more = let p = x.part_or_one_more k in let q = y.part_or_one_more k in (grind arith, grind arith)

-- Two places cannot each go before the other.
not_both : (rj rk j k : ℕ) → (rk < rj) ⊎ ((rk ≡ rj) × (j < k)) → (rj < rk) ⊎ ((rj ≡ rk) × (k < j)) → ⊥
not_both rj rk j k first second = grind arith

told_alike : (a : ℕ) (ws xs ys : List ℕ) → length xs ≡ length ws → length ys ≡ length ws → ByRemainders a ws xs → ByRemainders a ws ys → xs ≡ ys
told_alike a ws xs ys long also x y =
    elim (below_or_above xs ys (omega arith)) [
      | inl below ↦ same_if_below xs ys (omega arith) (omega (arith, x.all_units, y.all_units)) below
      | inr j ↦ elim (below_or_above ys xs (omega arith)) [
        | inl below ↦ sym (same_if_below ys xs (omega arith) (omega (arith, x.all_units, y.all_units)) below)
        | inr k ↦
            let p = has_unit a ws xs ys x y j.0 j.2 in
            let q = has_unit a ws ys xs y x k.0 k.2 in
            absurd (not_both _ _ j.0 k.0
            (x.largest_first j.0 k.0 (omega (arith, k.1)) p.0 q.1)
            (y.largest_first k.0 j.0 (omega (arith, j.1)) q.0 p.1))
      ]
    ]

pub the_one_by_remainders : (a : ℕ) (ws shares : List ℕ) → (sum ws ≡ 0 → a ≡ 0) → shares ≡ left_over a ws → TheOne (ByRemainders a ws) (length ws) shares
the_one_by_remainders a ws shares nothing e = subst (TheOne (ByRemainders a ws) (length ws)) (sym e) (record {
  told = by_remainders a ws nothing;
  no_other = λ other long told. told_alike a ws other (left_over a ws) long (length_of_left_over a ws) told (by_remainders a ws nothing);
})
