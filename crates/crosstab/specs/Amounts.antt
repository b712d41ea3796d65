-- Four amounts or charges of a card, and the sum that joins two. Assumes nothing.
use Rattle.std.specs.Prelude.{ℕ, ◌+◌, ◌-◌, ◌^◌, ◌≤◌, min, Bool, ◌||◌, nat_lt}
use Rattle.std.proofs.Common.{arith, lit≤}
use Rattle.crosstab.specs.declared.charges.Charges.{Charges}

-- 18,446,744,073,709,551,615, the largest number of 64 bits.
abbrev pub largest : ℕ
largest = 2 ^ 64 - 1

-- A sum that stops at 18,446,744,073,709,551,615.
abbrev pub stopping_sum : ℕ → ℕ → ℕ
stopping_sum a b = min (a + b) largest

-- Whether any of four charges is above 0.
abbrev pub any_above_zero : ℕ → ℕ → ℕ → ℕ → Bool
any_above_zero a b c d = nat_lt 0 a || (nat_lt 0 b || (nat_lt 0 c || nat_lt 0 d))

abbrev pub any_charge : Charges → Bool
any_charge c = any_above_zero c.transmission c.distribution c.ancillary_service c.dispatch

-- That four amounts have 64 bits, which each card carries with it.
abbrev pub AllFit : ℕ → ℕ → ℕ → ℕ → Type 0
AllFit a b c d = (a ≤ largest) × (b ≤ largest) × (c ≤ largest) × (d ≤ largest)

-- The cards that Kinds.antt makes carry it too.
pub zeros_fit : AllFit 0 0 0 0
zeros_fit = (lit≤ tt, lit≤ tt, lit≤ tt, lit≤ tt)

pub sums_fit : (a b c d e f g h : ℕ) → AllFit (stopping_sum a e) (stopping_sum b f) (stopping_sum c g) (stopping_sum d h)
sums_fit a b c d e f g h = (omega arith, omega arith, omega arith, omega arith)
