-- The number that a text writes in decimal digits. Assumes nothing.
use Rattle.std.specs.Prelude.{ℕ, ◌+◌, ◌-◌, ◌*◌, Bool, true, false, cond, not, ◌&&◌, List, [], ◌∷◌, Some, None, Option, ◌==◌, nat_le}
use Rattle.std.specs.Option.{option_and_then}

-- the library's `option_and_then`, read from left to right
abbrev pub and_then : {X Y : Type 0} → Option X → (X → Option Y) → Option Y
and_then o f = option_and_then f o

-- the value with one more digit at its end; none at a byte that is no digit, or past the largest value
abbrev pub with_digit : ℕ → ℕ → Option ℕ
with_digit value byte =
    cond (nat_le 48 byte && nat_le byte 57 && nat_le (value * 10 + (byte - 48)) 4294967295) (Some (value * 10 + (byte - 48))) None

-- the value of the digits so far, with those that follow
abbrev pub digits_on : ℕ → List ℕ → Option ℕ
digits_on value [] = Some value
digits_on value (b ∷ bs) = and_then (with_digit value b) (λ next. digits_on next bs)

-- not empty, and no zero in front of another digit
abbrev pub plain_start : List ℕ → Bool
plain_start [] = false
plain_start (b ∷ []) = true
plain_start (b ∷ c ∷ bs) = not (b == 48)

abbrev pub number_in : List ℕ → Option ℕ
number_in text = cond (plain_start text) (digits_on 0 text) None
