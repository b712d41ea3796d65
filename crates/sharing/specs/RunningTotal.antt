-- The shares of the running-total rule. Assumes nothing.
use Rattle.std.specs.Prelude.{◌≡◌, ℕ, ◌+◌, ◌-◌, ◌*◌, ◌/◌, List, map, length, take, sum}
use Rattle.std.specs.List.{range_with_len}

-- What the first places together have of the amount: the whole part of amount × their weights / all weights, and 0 without weight.
abbrev pub together : ℕ → List ℕ → ℕ → ℕ
together amount weights places = amount * sum (take places weights) / sum weights

abbrev pub running_share : ℕ → List ℕ → ℕ → ℕ
running_share amount weights j = together amount weights (j + 1) - together amount weights j

abbrev pub running : ℕ → List ℕ → List ℕ
running amount weights = map (running_share amount weights) (range_with_len 0 (length weights))

-- The same told of any first places: their shares add up to the whole part of amount × their weights / all weights.
abbrev pub ByRunningTotals : ℕ → List ℕ → List ℕ → Type 0
ByRunningTotals amount weights shares = (places : ℕ) → sum (take places shares) ≡ amount * sum (take places weights) / sum weights
