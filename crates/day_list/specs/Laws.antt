-- What the letters of every list tell, by their places. Assumes nothing.
use Rattle.std.specs.Prelude.{◌≡◌, ℕ, ◌+◌, ◌*◌, ◌/◌, ◌%◌, ◌<◌, cond, List, [], ◌∷◌, length, take, drop, Some, ◌==◌}
use Rattle.std.specs.Option.{option_map}
use Rattle.tariff.specs.declared.counts.QuartersByPeriod.{QuartersByPeriod}
use Rattle.tariff.specs.declared.terms.Terms.{Terms}
use Rattle.tariff.specs.BillingPeriods.{day_at, quarters_of, period_on, period_at}
use Rattle.tariff.specs.Counts.{numbers, counted}
use Rattle.day_list.specs.Listing.{letter_at, hours_text}

-- How often a letter stands in a text.
abbrev pub how_many : ℕ → List ℕ → ℕ
how_many letter [] = 0
how_many letter (b ∷ bs) = cond (b == letter) 1 0 + how_many letter bs

-- Four quarters for each P, H, S and hyphen.
abbrev pub quarters_by_letter : List ℕ → QuartersByPeriod
quarters_by_letter letters =
    numbers (4 * how_many 80 letters) (4 * how_many 72 letters) (4 * how_many 83 letters) (4 * how_many 45 letters)

pub record LettersTell (terms : Terms) : Type 0 where
  -- A day of the billing period has a letter for each hour.
  pub letter_an_hour : (number : ℕ) → number < terms.days → length (hours_text terms number) ≡ 24
  -- The letter at its hour tells the period of every quarter.
  pub every_quarter : (quarter : ℕ) → quarter < quarters_of terms →
      take 1 (drop (quarter % 96 / 4) (hours_text terms (quarter / 96))) ≡ letter_at (period_at terms quarter)
  -- The counts of a day's quarters are those of its letters.
  pub counts_agree : (number : ℕ) → number < terms.days →
      option_map (λ day. counted (period_on terms.calendar day) 96) (day_at terms number) ≡ Some (quarters_by_letter (hours_text terms number))

-- This holds under all terms.
abbrev pub AllLettersTell : Type 0
AllLettersTell = (terms : Terms) → LettersTell terms
