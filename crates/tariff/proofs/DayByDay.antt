-- The calendar told day by day agrees with the days of its years and months.
use Rattle.std.proofs.Common.{◌≡◌, ℕ, ◌+◌, ◌-◌, ◌*◌, ◌≤◌, true, ltb, ap, ◌∙◌, arith}
use Rattle.std.proofs.lemmas.Bool.{ltb-false, cond_both}
use Rattle.std.proofs.lemmas.Bool.Decides.{nat_tests}
use Rattle.tariff.specs.declared.dates.Date.{Date}
use Rattle.tariff.specs.Dates.{days_in_month, days_in_year, exists, day_after}
use Rattle.tariff.specs.Weekdays.{days_of_years, days_of_months, days_since_2020}
use Rattle.tariff.proofs.Sums.{sum_more, sum_few}

pub parts_of : (date : Date) → exists date ≡ true → (1 ≤ date.month) × (date.month ≤ 12) × (1 ≤ date.day) × (date.day ≤ days_in_month date.year date.month)
parts_of date e = grind (arith, nat_tests)

-- A date that has the four exists.
pub from_parts : (date : Date) → (1 ≤ date.month) × (date.month ≤ 12) × (1 ≤ date.day) × (date.day ≤ days_in_month date.year date.month) → exists date ≡ true
from_parts date p = grind (arith, nat_tests)

pub next_exists : (date : Date) → exists date ≡ true → exists (day_after date) ≡ true
next_exists date e = grind (arith, nat_tests)

-- The year stays, or the next comes.
pub day_after_year : (date : Date) → (date.year ≤ (day_after date).year) × ((day_after date).year ≤ date.year + 1)
day_after_year date = grind (arith, nat_tests)

pub days_of_years_few : (n : ℕ) → days_of_years n ≤ n * 366
days_of_years_few n = sum_few days_in_year 366 (λ year. grind (arith, nat_tests)) 2020 n

-- Each month has a day.
pub a_day_or_more : (year month : ℕ) → 1 ≤ days_in_month year month
a_day_or_more year month = grind (arith, nat_tests)

pub days_in_month_few : (year month : ℕ) → days_in_month year month ≤ 31
days_in_month_few year month = grind (arith, nat_tests)

pub days_of_months_few : (year n : ℕ) → days_of_months year n ≤ n * 31
days_of_months_few year n = sum_few (days_in_month year) 31 (days_in_month_few year) 1 n

-- The twelve months are the year.
months_of_year : (year : ℕ) → days_of_months year 11 + days_in_month year 12 ≡ days_in_year year
months_of_year year = grind (arith, nat_tests)

december_ends : (year month : ℕ) → month ≡ 12 → days_of_months year (month - 1) + days_in_month year month ≡ days_in_year year
december_ends year month e = ap (λ m. days_of_months year (m - 1) + days_in_month year m) e ∙ months_of_year year

pub one_day_more : (date : Date) → 2020 ≤ date.year → exists date ≡ true → days_since_2020 (day_after date) ≡ days_since_2020 date + 1
one_day_more date late e =
    let p = parts_of date e in
    let year = sum_more days_in_year 2020 (date.year - 2020) (date.year + 1 - 2020) date.year (omega arith) (omega arith) in
    let month = sum_more (days_in_month date.year) 1 (date.month - 1) (date.month + 1 - 1) date.month (omega arith) (omega arith) in
    cond_both (ltb date.day (days_in_month date.year date.month)) _ _ (λ next. days_since_2020 next ≡ days_since_2020 date + 1)
    (λ within. omega arith)
    (λ last. cond_both (ltb date.month 12) _ _ (λ next. days_since_2020 next ≡ days_since_2020 date + 1)
    (λ within. omega (arith, ltb-false _ _ last))
    (λ december. omega (arith, december_ends date.year date.month (omega (arith, ltb-false _ _ december)), ltb-false _ _ last)))
