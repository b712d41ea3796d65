-- What the terms of a billing period have.
use Rattle.std.proofs.Common.{◌≡◌, ℕ, ◌^◌, ◌≤◌, true, not, ltb}
use Rattle.std.proofs.lemmas.Bool.{and_parts, or_parts, not-true, ltb-false}
use Rattle.tariff.specs.declared.terms.Terms.{Terms}
use Rattle.tariff.specs.BillingPeriods.{outside, lawful}
use Rattle.tariff.specs.Dates.{exists}

-- A number that is not outside its limits lies within them.
pub within : (least most number : ℕ) → not (outside least most number) ≡ true → (least ≤ number) × (number ≤ most)
within least most number e =
    let parts = or_parts (ltb number least) (ltb most number) (not-true _ e) in
    (ltb-false _ _ parts.0, ltb-false _ _ parts.1)

-- The first day exists, in the years 2020 to 2099, and the days are 31 at most.
pub record Within (terms : Terms) : Type 0 where
  pub first_exists : exists terms.first ≡ true
  pub first_year : 2020 ≤ terms.first.year
  pub last_year : terms.first.year ≤ 2099
  pub few_days : terms.days ≤ 31

-- So it is of all lawful terms.
pub lawful_within : (terms : Terms) → lawful terms ≡ true → Within terms
lawful_within terms e =
    let map = and_parts _ (ltb terms.off_peak_map (2 ^ terms.days)) e in
    let days = and_parts _ (not (outside 1 31 terms.days)) map.0 in
    let year = and_parts (exists terms.first) (not (outside 2020 2099 terms.first.year)) days.0 in
    record {
      first_exists = year.0;
      first_year = (within 2020 2099 terms.first.year year.1).0;
      last_year = (within 2020 2099 terms.first.year year.1).1;
      few_days = (within 1 31 terms.days days.1).1;
    }
