-- The shares of the left-over rule. Assumes nothing.
use Rattle.std.specs.Prelude.{◌≡◌, ℕ, zero, suc, ◌+◌, ◌-◌, ◌*◌, ◌/◌, ◌%◌, ◌<◌, max, cond, ◌⊎◌, List, [], ◌∷◌, map, length, sum, ◌==◌, nat_le, slice_index, slice_set}

-- The whole part of amount × weight / all weights at each place, and what remains of the product.
abbrev pub whole_parts : ℕ → List ℕ → List ℕ
whole_parts amount weights = map (λ w. amount * w / sum weights) weights

abbrev pub remainders : ℕ → List ℕ → List ℕ
remainders amount weights = map (λ w. amount * w % sum weights) weights

-- The units that the whole parts leave. Without weight nothing is shared, so nothing is left.
abbrev pub units_left : ℕ → List ℕ → ℕ
units_left amount weights = cond (sum weights == 0) 0 (amount - sum (whole_parts amount weights))

abbrev pub peak : List ℕ → ℕ
peak [] = 0
peak (x ∷ xs) = max x (peak xs)

-- The earliest place of the largest number.
abbrev pub foremost : List ℕ → ℕ
foremost [] = 0
foremost (x ∷ xs) = cond (nat_le (peak xs) x) 0 (suc (foremost xs))

-- One unit each to the largest remainders, the earlier place first among equals. A place that has had its unit has nothing remaining.
abbrev pub hand_out : ℕ → List ℕ → List ℕ → List ℕ
hand_out zero rests shares = shares
hand_out (suc left) rests shares =
    hand_out left (slice_set rests (foremost rests) 0) (slice_set shares (foremost rests) (slice_index shares (foremost rests) + 1))

abbrev pub left_over : ℕ → List ℕ → List ℕ
left_over amount weights = hand_out (units_left amount weights) (remainders amount weights) (whole_parts amount weights)

-- The same told without its steps: each place has its whole part or one unit more, all add up to the amount, and a place
-- that has one more has the larger remainder, or an equal one and the earlier place, than each place that has not.
pub record ByRemainders (amount : ℕ) (weights shares : List ℕ) : Type 0 where
  pub part_or_one_more : (k : ℕ) →
      (slice_index shares k ≡ amount * slice_index weights k / sum weights) ⊎ (slice_index shares k ≡ amount * slice_index weights k / sum weights + 1)
  pub all_units : sum shares ≡ amount
  pub largest_first : (j k : ℕ) → k < length weights →
      slice_index shares j ≡ amount * slice_index weights j / sum weights + 1 →
      slice_index shares k ≡ amount * slice_index weights k / sum weights →
      (amount * slice_index weights k % sum weights < amount * slice_index weights j % sum weights)
      ⊎ ((amount * slice_index weights k % sum weights ≡ amount * slice_index weights j % sum weights) × (j < k))
