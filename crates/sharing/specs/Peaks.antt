-- The largest number of a list, and its earliest place. Assumes nothing.
use Rattle.std.specs.Prelude.{◌≡◌, ℕ, suc, ◌<◌, ◌≤◌, List, [], ◌∷◌, sum, nat_le, slice_index, refl}
use Rattle.std.proofs.Common.{ap, ◌∙◌, inl, inr, arith}
use Rattle.std.proofs.lemmas.List.Sums.{sum_by-cons}
use Rattle.std.proofs.lemmas.Bool.{cases_lt, le-leb, lt-leb, cond-true, cond-false}
use Rattle.sharing.specs.LeftOver.{peak, foremost}

pub here : (x : ℕ) (xs : List ℕ) → peak xs ≤ x → foremost (x ∷ xs) ≡ 0
here x xs h = cond-true (nat_le (peak xs) x) 0 (suc (foremost xs)) (le-leb (peak xs) x h)

pub later : (x : ℕ) (xs : List ℕ) → x < peak xs → foremost (x ∷ xs) ≡ suc (foremost xs)
later x xs h = cond-false (nat_le (peak xs) x) 0 (suc (foremost xs)) (lt-leb (peak xs) x h)

pub get_or-foremost : (xs : List ℕ) → slice_index xs (foremost xs) ≡ peak xs
get_or-foremost [] = refl
get_or-foremost (x ∷ xs) =
    elim (cases_lt x (peak xs)) [
      | inl h ↦ ap (λ k. slice_index (x ∷ xs) k) (later x xs h) ∙ get_or-foremost xs ∙ omega arith
      | inr h ↦ ap (λ k. slice_index (x ∷ xs) k) (here x xs h) ∙ omega arith
    ]

pub sum_none : (xs : List ℕ) → peak xs ≡ 0 → sum xs ≡ 0
sum_none [] e = refl
sum_none (x ∷ xs) e = omega (arith, sum_by-cons (λ y. y) x xs, sum_none xs (omega arith))
