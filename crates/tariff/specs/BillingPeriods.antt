-- Billing periods: which can be, what their days are, and the period of each quarter. Assumes nothing.
use Rattle.std.specs.Prelude.{ℕ, ◌*◌, ◌/◌, ◌%◌, ◌^◌, Bool, cond, not, ◌&&◌, ◌||◌, List, [], ◌∷◌, Some, None, Option, ◌==◌, nat_le, nat_lt}
use Rattle.refusals.specs.declared.Refusal.TheVariants.{NoSuchBillingPeriod}
use Rattle.refusals.specs.First.{Reason}
use Rattle.tariff.specs.declared.dates.Date.{Date}
use Rattle.tariff.specs.declared.hours.Calendar.{Calendar}
use Rattle.tariff.specs.declared.hours.Calendar.TheVariants.{TwoStage, ThreeStage}
use Rattle.tariff.specs.declared.hours.Period.{Period}
use Rattle.tariff.specs.declared.terms.Day.{Day}
use Rattle.tariff.specs.declared.terms.Terms.{Terms}
use Rattle.tariff.specs.Dates.{exists, days_after}
use Rattle.tariff.specs.Weekdays.{weekday_of}
use Rattle.tariff.specs.Hours.{season_in, kind_of, period_in_quarter}

-- Whether a number lies outside its limits.
abbrev pub outside : ℕ → ℕ → ℕ → Bool
outside least most number = nat_lt number least || nat_lt most number

-- Why a billing period with this first day, number of days, number of stages and map of off-peak days cannot be.
abbrev pub reasons : Date → ℕ → ℕ → ℕ → List Reason
reasons first days stages map =
    record { met = not (exists first); refusal = NoSuchBillingPeriod }
    ∷ record { met = outside 2020 2099 first.year; refusal = NoSuchBillingPeriod }
    ∷ record { met = outside 1 31 days; refusal = NoSuchBillingPeriod }
    ∷ record { met = not (stages == 2 || stages == 3); refusal = NoSuchBillingPeriod }
    ∷ record { met = nat_le (2 ^ days) map; refusal = NoSuchBillingPeriod }
    ∷ []

-- The terms that these numbers write.
abbrev pub terms_of : Date → ℕ → ℕ → ℕ → Terms
terms_of first days stages map =
    record { first = first; days = days; calendar = cond (stages == 2) TwoStage ThreeStage; off_peak_map = map }

-- Whether a billing period can have these terms.
abbrev pub lawful : Terms → Bool
lawful terms =
    exists terms.first && not (outside 2020 2099 terms.first.year) && not (outside 1 31 terms.days)
    && nat_lt terms.off_peak_map (2 ^ terms.days)

-- Whether a day is named as off-peak: bit 0 of the map is the first day's.
abbrev pub named : Terms → ℕ → Bool
named terms number = terms.off_peak_map / 2 ^ number % 2 == 1

-- The day of a date.
abbrev pub day_on : Date → Bool → Day
day_on date off_peak =
    record { date = date; weekday = weekday_of date; season = season_in date.month; kind = kind_of (weekday_of date) off_peak }

-- The days, numbered from 0.
abbrev pub day_at : Terms → ℕ → Option Day
day_at terms number =
    cond (nat_lt number terms.days) (Some (day_on (days_after number terms.first) (named terms number))) None

abbrev pub quarters_of : Terms → ℕ
quarters_of terms = 96 * terms.days

-- The period of each quarter of a day, numbered from 0 in the day.
abbrev pub period_on : Calendar → Day → ℕ → Period
period_on calendar day = period_in_quarter calendar day.season day.kind

-- The quarters, numbered from 0 throughout.
abbrev pub period_at : Terms → ℕ → Option Period
period_at terms quarter =
    cond (nat_lt quarter (quarters_of terms))
    (Some (period_on terms.calendar (day_on (days_after (quarter / 96) terms.first) (named terms (quarter / 96))) (quarter % 96)))
    None
