-- What a sharing rule promises, and which calls it refuses. Assumes nothing.
use Rattle.std.specs.Prelude.{◌≡◌, ℕ, ◌+◌, ◌*◌, ◌<◌, ◌≤◌, not, ◌&&◌, ◌||◌, List, [], ◌∷◌, length, sum, ◌==◌, nat_lt, slice_index}
use Rattle.refusals.specs.declared.Refusal.TheVariants.{UnlikeLengths, AmountTooLarge, NoWeight}
use Rattle.refusals.specs.First.{Reason}

-- The laws of a rule that gives one list of shares for each amount and each list of weights.
-- A place past the end has weight 0 and share 0.
pub record Laws (shares : ℕ → List ℕ → List ℕ) (tolerance : ℕ) : Type 0 where
  pub one_share_each : (amount : ℕ) (weights : List ℕ) → length (shares amount weights) ≡ length weights
  -- Nothing is kept back and nothing is added; without weight there is nothing to share.
  pub nothing_lost : (amount : ℕ) (weights : List ℕ) → 0 < sum weights → sum (shares amount weights) ≡ amount
  pub no_weight : (amount : ℕ) (weights : List ℕ) → sum weights ≡ 0 → (k : ℕ) → slice_index (shares amount weights) k ≡ 0
  pub zero_gets_zero : (amount : ℕ) (weights : List ℕ) (k : ℕ) → slice_index weights k ≡ 0 → slice_index (shares amount weights) k ≡ 0
  pub at_most_its_weight : (amount : ℕ) (weights : List ℕ) (k : ℕ) → amount ≤ sum weights → slice_index (shares amount weights) k ≤ slice_index weights k
  -- A share lies less than the tolerance above the exact part amount × weight / sum, and less than the tolerance below it.
  pub not_over : (amount : ℕ) (weights : List ℕ) (k : ℕ) → 0 < sum weights → slice_index (shares amount weights) k * sum weights < amount * slice_index weights k + tolerance * sum weights
  pub not_under : (amount : ℕ) (weights : List ℕ) (k : ℕ) → 0 < sum weights → amount * slice_index weights k < slice_index (shares amount weights) k * sum weights + tolerance * sum weights
  pub one_or_more : 1 ≤ tolerance

-- The largest amount, and the largest sum of weights; the most weights.
abbrev pub largest : ℕ
largest = 4000000000

abbrev pub most_weights : ℕ
most_weights = 16

-- The reasons to refuse a call over so many places for the shares.
abbrev pub reasons : ℕ → List ℕ → ℕ → List Reason
reasons amount weights places =
    record { met = not (length weights == places) || nat_lt most_weights (length weights); refusal = UnlikeLengths }
    ∷ record { met = nat_lt largest amount || nat_lt largest (sum weights); refusal = AmountTooLarge }
    ∷ record { met = sum weights == 0 && not (amount == 0); refusal = NoWeight }
    ∷ []

-- What is known of a call that meets none of them, and of the sum of its weights.
pub record Admitted (amount : ℕ) (weights : List ℕ) (places total : ℕ) : Type 0 where
  pub alike : length weights ≡ places
  pub few : length weights ≤ most_weights
  pub amount_small : amount ≤ largest
  pub total_is : total ≡ sum weights
  pub total_small : sum weights ≤ largest
  pub nothing : sum weights ≡ 0 → amount ≡ 0

-- The shares of one call, told without the rule: nothing where the weight is 0, no more than the weights where they suffice,
-- and less than the tolerance from the exact part, above or below.
pub record NearExact (tolerance amount : ℕ) (weights shares : List ℕ) : Type 0 where
  pub nothing_for_nothing : (k : ℕ) → slice_index weights k ≡ 0 → slice_index shares k ≡ 0
  pub within_the_weights : amount ≤ sum weights → (k : ℕ) → slice_index shares k ≤ slice_index weights k
  pub not_above : 0 < sum weights → (k : ℕ) → slice_index shares k * sum weights < amount * slice_index weights k + tolerance * sum weights
  pub not_below : 0 < sum weights → (k : ℕ) → amount * slice_index weights k < slice_index shares k * sum weights + tolerance * sum weights

-- The one list of so many shares that is told so.
pub record TheOne (Told : List ℕ → Type 0) (places : ℕ) (shares : List ℕ) : Type 0 where
  pub told : Told shares
  pub no_other : (other : List ℕ) → length other ≡ places → Told other → other ≡ shares
