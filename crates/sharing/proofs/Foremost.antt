-- The largest number of a list and its earliest place, as code finds them. Assumes nothing.
use Rattle.std.proofs.Common.{◌≡◌, ℕ, zero, suc, ◌+◌, ◌<◌, ◌≤◌, ◌==◌, max, unwrap_or, MatchOption, List, [], ◌∷◌, ◌++◌, length, get_or, position, take, sym, refl, ap, inl, inr, arith, take_all}
use Rattle.std.specs.List.{fold, reduce}
use Rattle.std.proofs.lemmas.List.{take_more, length-take-le}
use Rattle.std.proofs.lemmas.List.Sums.{position_or_len_is}
use Rattle.std.proofs.lemmas.Bool.{cases_lt, lt-ltb}
use Rattle.std.proofs.lemmas.Bool.Decides.{nat_tests}
use Rattle.sharing.specs.LeftOver.{peak, foremost}
use Rattle.sharing.specs.Peaks.{here, later, get_or-foremost}

pub get_or-le_peak : (xs : List ℕ) (k : ℕ) → get_or xs k 0 ≤ peak xs
get_or-le_peak [] k = omega arith
get_or-le_peak (x ∷ xs) zero = omega arith
get_or-le_peak (x ∷ xs) (suc k) = omega (arith, get_or-le_peak xs k)

largest_of : (x : ℕ) (xs : List ℕ) → fold max x xs ≡ max x (peak xs)
largest_of x [] = omega arith
largest_of x (y ∷ ys) = omega (arith, largest_of (max x y) ys)

-- what `max` answers
pub peak_is : (xs : List ℕ) → unwrap_or (reduce max xs) 0 ≡ peak xs
peak_is [] = refl
peak_is (x ∷ xs) = largest_of x xs

foremost_inside : (x : ℕ) (xs : List ℕ) → foremost (x ∷ xs) ≤ length xs
foremost_inside x [] = omega (arith, here x [] (omega arith))
foremost_inside x (y ∷ ys) =
    elim (cases_lt x (peak (y ∷ ys))) [
      | inl up ↦ omega (arith, later x (y ∷ ys) up, foremost_inside y ys)
      | inr down ↦ omega (arith, here x (y ∷ ys) down)
    ]

pub foremost_first : (xs : List ℕ) (k : ℕ) → k < foremost xs → get_or xs k 0 < get_or xs (foremost xs) 0
foremost_first [] k h = omega arith
foremost_first (x ∷ xs) zero h =
    elim (cases_lt x (peak xs)) [
      | inl up ↦ omega (arith, get_or-foremost (x ∷ xs))
      | inr down ↦ omega (arith, here x xs down)
    ]
foremost_first (x ∷ xs) (suc k) h =
    elim (cases_lt x (peak xs)) [
      | inl up ↦ omega (arith, get_or-foremost (x ∷ xs), get_or-foremost xs, foremost_first xs k (omega (arith, later x xs up)))
      | inr down ↦ omega (arith, here x xs down)
    ]

pub foremost_within : (xs : List ℕ) → 0 < length xs → foremost xs < length xs
foremost_within [] some = omega arith
foremost_within (x ∷ xs) some = omega (arith, foremost_inside x xs)

-- The first place of the largest number, in a list of n.
pub place_of_peak : (xs : List ℕ) (n : ℕ) → length xs ≡ n → MatchOption (position (λ x. x == peak xs) xs) (n ≡ 0) (λ k. (k ≡ foremost xs) × (k < n))
place_of_peak [] n long = sym long
place_of_peak (x ∷ xs) n long =
    let inside = foremost_within (x ∷ xs) (omega arith) in
    let first = position_or_len_is (λ y. y == peak (x ∷ xs)) (x ∷ xs) (foremost (x ∷ xs)) 0 (omega arith)
    (λ k h. grind (arith, nat_tests, foremost_first (x ∷ xs) k h, get_or-foremost (x ∷ xs)))
    (λ h. grind (arith, nat_tests, get_or-foremost (x ∷ xs))) in
    rw (first, lt-ltb (foremost (x ∷ xs)) (length (x ∷ xs)) inside) (refl, omega arith)

-- one number more at the end
peak-push : (xs : List ℕ) (y : ℕ) → peak (xs ++ y ∷ []) ≡ max (peak xs) y
peak-push [] y = omega arith
peak-push (x ∷ xs) y = omega (arith, peak-push xs y)

foremost-push_larger : (xs : List ℕ) (y : ℕ) → peak xs < y → foremost (xs ++ y ∷ []) ≡ length xs
foremost-push_larger [] y more = here y [] (omega arith)
foremost-push_larger (x ∷ xs) y more =
    omega (arith, later x (xs ++ y ∷ []) (omega (arith, peak-push xs y)), foremost-push_larger xs y (omega arith))

foremost-push_other : (xs : List ℕ) (y : ℕ) → y ≤ peak xs → foremost (xs ++ y ∷ []) ≡ foremost xs
foremost-push_other [] y less = here y [] (omega arith)
foremost-push_other (x ∷ xs) y less =
    elim (cases_lt x (peak xs)) [
      | inl up ↦ omega (arith, later x xs up, later x (xs ++ y ∷ []) (omega (arith, peak-push xs y)), foremost-push_other xs y (omega arith))
      | inr down ↦ omega (arith, here x xs down, here x (xs ++ y ∷ []) (omega (arith, peak-push xs y)))
    ]

-- The largest number and its place in the first i + 1 of a list, from those in the first i.
pub peak_larger : (xs : List ℕ) (i : ℕ) → i < length xs → peak (take i xs) < get_or xs i 0 → peak (take (i + 1) xs) ≡ get_or xs i 0
peak_larger xs i inside more = omega (arith, ap peak (take_more xs i 0 inside), peak-push (take i xs) (get_or xs i 0))

pub peak_other : (xs : List ℕ) (i : ℕ) → i < length xs → get_or xs i 0 ≤ peak (take i xs) → peak (take (i + 1) xs) ≡ peak (take i xs)
peak_other xs i inside less = omega (arith, ap peak (take_more xs i 0 inside), peak-push (take i xs) (get_or xs i 0))

pub foremost_larger : (xs : List ℕ) (i : ℕ) → i < length xs → peak (take i xs) < get_or xs i 0 → foremost (take (i + 1) xs) ≡ i
foremost_larger xs i inside more =
    omega (arith, ap foremost (take_more xs i 0 inside), foremost-push_larger (take i xs) (get_or xs i 0) more, length-take-le i xs (omega arith))

pub foremost_other : (xs : List ℕ) (i : ℕ) → i < length xs → get_or xs i 0 ≤ peak (take i xs) → foremost (take (i + 1) xs) ≡ foremost (take i xs)
foremost_other xs i inside less =
    omega (arith, ap foremost (take_more xs i 0 inside), foremost-push_other (take i xs) (get_or xs i 0) less)

pub foremost_all : (xs : List ℕ) (i : ℕ) → length xs ≤ i → foremost (take i xs) ≡ foremost xs
foremost_all xs i all = ap foremost (take_all i xs all)

-- what a loop over a list needs that looks for the place
pub ruleset scan = (peak_larger, peak_other, foremost_larger, foremost_other, foremost_all, foremost_within)
