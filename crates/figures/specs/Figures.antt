-- Figures worked by hand, from the definitions. Assumes nothing.
use Rattle.std.specs.Prelude.{◌≡◌, ℕ, ◌-◌, List, [], ◌∷◌, replicate, Ok, Err, Result}
use Rattle.refusals.specs.declared.Refusal.{Refusal}
use Rattle.refusals.specs.declared.Refusal.TheVariants.{UnlikeLengths, AmountTooLarge, NoWeight}
use Rattle.refusals.specs.First.{first_met}
use Rattle.sharing.specs.Rule.{reasons}
use Rattle.sharing.specs.RunningTotal.{running}
use Rattle.sharing.specs.LeftOver.{left_over}

-- What is left of each amount, place by place.
abbrev pub less : List ℕ → List ℕ → List ℕ
less [] taken = []
less (x ∷ xs) [] = x ∷ xs
less (x ∷ xs) (y ∷ ys) = (x - y) ∷ less xs ys

-- The parts of each credit in turn, shared by a rule over what the earlier credits left of the generators' amounts.
abbrev pub parts : (ℕ → List ℕ → List ℕ) → List ℕ → List ℕ → List (List ℕ)
parts share amounts [] = []
parts share amounts (credit ∷ credits) = share credit amounts ∷ parts share (less amounts (share credit amounts)) credits

-- What a rule answers to an amount over so many weights that are all the same.
abbrev pub answer : ℕ → ℕ → ℕ → Result (Unit {0}) Refusal
answer amount places weight = first_met (reasons amount (replicate places weight) places) tt

pub record Figures : Type 0 where
  -- ten units over three equal weights
  pub thirds_by_running_total : running 10 (1 ∷ 1 ∷ 1 ∷ []) ≡ 3 ∷ 3 ∷ 4 ∷ []
  pub thirds_by_left_over : left_over 10 (1 ∷ 1 ∷ 1 ∷ []) ≡ 4 ∷ 3 ∷ 3 ∷ []
  -- a reading over ratios of 33.33 % and 66.67 %, two contracts not joined, and nothing outside
  pub ratios_by_running_total : running 1001 (3333 ∷ 6667 ∷ 0 ∷ 0 ∷ 0 ∷ []) ≡ 333 ∷ 668 ∷ 0 ∷ 0 ∷ 0 ∷ []
  pub ratios_by_left_over : left_over 1001 (3333 ∷ 6667 ∷ 0 ∷ 0 ∷ 0 ∷ []) ≡ 334 ∷ 667 ∷ 0 ∷ 0 ∷ 0 ∷ []
  -- a contract's credit over two loads
  pub loads_by_running_total : running 400 (500 ∷ 50 ∷ []) ≡ 363 ∷ 37 ∷ []
  pub loads_by_left_over : left_over 400 (500 ∷ 50 ∷ []) ≡ 364 ∷ 36 ∷ []
  -- two generators of one unit each and two credits of one unit: the second load takes what the first has left
  pub second_load_takes_what_is_left : parts running (1 ∷ 1 ∷ []) (1 ∷ 1 ∷ []) ≡ (0 ∷ 1 ∷ []) ∷ (1 ∷ 0 ∷ []) ∷ []
  -- the limits: 16 weights, an amount and a sum of weights of 4,000,000,000, and an amount that has a weight
  pub sixteen_weights : answer 1 16 1 ≡ Ok tt
  pub seventeen_weights : answer 1 17 1 ≡ Err UnlikeLengths
  pub largest_amount_and_sum : answer 4000000000 16 250000000 ≡ Ok tt
  pub amount_too_large : answer 4000000001 16 250000000 ≡ Err AmountTooLarge
  pub sum_too_large : answer 1 1 4000000001 ≡ Err AmountTooLarge
  pub nothing_without_weight : answer 0 1 0 ≡ Ok tt
  pub amount_without_weight : answer 1 1 0 ≡ Err NoWeight
  -- of several reasons the smallest number decides
  pub too_many_and_too_large : answer 4000000001 17 0 ≡ Err UnlikeLengths
  pub too_large_and_no_weight : answer 4000000001 1 0 ≡ Err AmountTooLarge
