-- Figures of dates, billing periods and tariff periods. Assumes nothing.
use Rattle.std.specs.Prelude.{◌≡◌, ℕ, ◌*◌, false, List, [], ◌∷◌, ◌++◌, map, replicate, Some, None, Ok, Err, Option, Result}
use Rattle.std.specs.List.{range_with_len}
use Rattle.refusals.specs.declared.Refusal.{Refusal}
use Rattle.refusals.specs.declared.Refusal.TheVariants.{NoSuchBillingPeriod}
use Rattle.refusals.specs.First.{first_met}
use Rattle.tariff.specs.declared.dates.Date.{Date}
use Rattle.tariff.specs.declared.weekdays.Weekday.TheVariants.{Monday, Tuesday, Wednesday, Thursday, Friday, Saturday, Sunday}
use Rattle.tariff.specs.declared.hours.DayKind.TheVariants.{WorkingDay, HalfPeakSaturday, OffPeakDay}
use Rattle.tariff.specs.declared.hours.Season.TheVariants.{Summer, NonSummer}
use Rattle.tariff.specs.declared.hours.Period.{Period}
use Rattle.tariff.specs.declared.hours.Period.TheVariants.{Peak, HalfPeak, SaturdayHalfPeak, OffPeak}
use Rattle.tariff.specs.Dates.{days_in_month, days_after}
use Rattle.tariff.specs.Weekdays.{weekday_of}
use Rattle.tariff.specs.Hours.{season_in, kind_of, number_of}
use Rattle.tariff.specs.BillingPeriods.{reasons, terms_of, day_at, period_at}

abbrev pub on : ℕ → ℕ → ℕ → Date
on year month day = record { year = year; month = month; day = day }

-- The period of a quarter of one day that is not named as off-peak, by the number of stages.
abbrev pub of_day : ℕ → Date → ℕ → Option Period
of_day stages date quarter = period_at (terms_of date 1 stages 0) quarter

-- The period of each hour of such a day.
abbrev pub hours : ℕ → Date → List (Option Period)
hours stages date = map (λ hour. of_day stages date (4 * hour)) (range_with_len 0 24)

-- So many hours of a period, and then the others.
abbrev pub for_hours : ℕ → Period → List (Option Period) → List (Option Period)
for_hours number period later = replicate number (Some period) ++ later

-- What is answered to a first day, a number of days, a number of stages and a map of off-peak days.
abbrev pub opening : Date → ℕ → ℕ → ℕ → Result (Unit {0}) Refusal
opening first days stages named = first_met (reasons first days stages named) tt

pub record PeriodFigures : Type 0 where
  -- the months of a year, and of a leap year
  pub months_of_2023 : map (days_in_month 2023) (range_with_len 1 12) ≡ 31 ∷ 28 ∷ 31 ∷ 30 ∷ 31 ∷ 30 ∷ 31 ∷ 31 ∷ 30 ∷ 31 ∷ 30 ∷ 31 ∷ []
  pub months_of_2024 : map (days_in_month 2024) (range_with_len 1 12) ≡ 31 ∷ 29 ∷ 31 ∷ 30 ∷ 31 ∷ 30 ∷ 31 ∷ 31 ∷ 30 ∷ 31 ∷ 30 ∷ 31 ∷ []
  pub no_leap_year_2100 : days_in_month 2100 2 ≡ 28
  pub leap_year_2000 : days_in_month 2000 2 ≡ 29
  pub first_day_of_2020 : weekday_of (on 2020 1 1) ≡ Wednesday
  pub leap_day_of_2024 : weekday_of (on 2024 2 29) ≡ Thursday
  pub first_day_of_2100 : weekday_of (on 2100 1 1) ≡ Friday
  -- a week from 3 June 2024 on, by its weekdays and by what its days count as
  pub a_week : map (λ day. weekday_of (on 2024 6 day)) (range_with_len 3 7) ≡ Monday ∷ Tuesday ∷ Wednesday ∷ Thursday ∷ Friday ∷ Saturday ∷ Sunday ∷ []
  pub kinds_of_a_week : map (λ day. kind_of (weekday_of (on 2024 6 day)) false) (range_with_len 3 7) ≡ replicate 5 WorkingDay ++ (HalfPeakSaturday ∷ OffPeakDay ∷ [])
  -- the seasons of the twelve months, and the numbers of the periods
  pub seasons : map season_in (range_with_len 1 12) ≡ replicate 5 NonSummer ++ (replicate 4 Summer ++ replicate 3 NonSummer)
  pub numbers : map number_of (Peak ∷ HalfPeak ∷ SaturdayHalfPeak ∷ OffPeak ∷ []) ≡ 0 ∷ 1 ∷ 2 ∷ 3 ∷ []
  -- past the end of February, and of the last year
  pub past_february : days_after 30 (on 2023 1 31) ≡ on 2023 3 2
  pub past_2099 : days_after 30 (on 2099 12 31) ≡ on 2100 1 30
  -- a Monday in summer, three stages: the quarters at the ends of the peak hours, and past the day
  pub before_peak : of_day 3 (on 2024 6 3) 63 ≡ Some HalfPeak
  pub peak_begins : of_day 3 (on 2024 6 3) 64 ≡ Some Peak
  pub peak_ends : of_day 3 (on 2024 6 3) 87 ≡ Some Peak
  pub after_peak : of_day 3 (on 2024 6 3) 88 ≡ Some HalfPeak
  pub no_such_quarter : of_day 3 (on 2024 6 3) 96 ≡ None
  pub no_such_day : day_at (terms_of (on 2024 6 3) 30 3 0) 30 ≡ None
  -- the hours of a working day and of a Saturday, in June and in December
  pub three_stages_in_summer : hours 3 (on 2024 6 3) ≡ for_hours 9 OffPeak (for_hours 7 HalfPeak (for_hours 6 Peak (for_hours 2 HalfPeak [])))
  pub three_stages_in_winter : hours 3 (on 2024 12 2) ≡ for_hours 6 OffPeak (for_hours 5 HalfPeak (for_hours 3 OffPeak (for_hours 10 HalfPeak [])))
  pub two_stages_in_summer : hours 2 (on 2024 6 3) ≡ for_hours 9 OffPeak (for_hours 15 Peak [])
  pub two_stages_in_winter : hours 2 (on 2024 12 2) ≡ for_hours 6 OffPeak (for_hours 5 Peak (for_hours 3 OffPeak (for_hours 10 Peak [])))
  pub saturday_in_summer : hours 3 (on 2024 6 8) ≡ for_hours 9 OffPeak (for_hours 15 SaturdayHalfPeak [])
  pub saturday_in_winter : hours 2 (on 2024 12 7) ≡ for_hours 6 OffPeak (for_hours 5 SaturdayHalfPeak (for_hours 3 OffPeak (for_hours 10 SaturdayHalfPeak [])))
  pub sunday : hours 3 (on 2024 6 9) ≡ for_hours 24 OffPeak []
  -- summer begins with June and ends with September
  pub last_of_may : of_day 3 (on 2021 5 31) 64 ≡ Some HalfPeak
  pub first_of_june : of_day 3 (on 2021 6 1) 64 ≡ Some Peak
  pub last_of_september : of_day 3 (on 2024 9 30) 64 ≡ Some Peak
  pub first_of_october : of_day 3 (on 2024 10 1) 64 ≡ Some HalfPeak
  -- from one quarter to the next in one billing period: the same two days
  pub two_days_first : period_at (terms_of (on 2024 9 30) 2 3 0) 64 ≡ Some Peak
  pub two_days_second : period_at (terms_of (on 2024 9 30) 2 3 0) 160 ≡ Some HalfPeak
  -- a Monday and a Saturday that are named as off-peak, and the day after
  pub named_monday : period_at (terms_of (on 2024 6 9) 3 3 2) 160 ≡ Some OffPeak
  pub tuesday_after_it : period_at (terms_of (on 2024 6 9) 3 3 2) 256 ≡ Some Peak
  pub named_saturday : period_at (terms_of (on 2024 6 8) 1 2 1) 64 ≡ Some OffPeak
  -- the limits
  pub earliest_day : opening (on 2020 1 1) 1 2 1 ≡ Ok tt
  pub latest_day : opening (on 2099 12 31) 31 3 2147483647 ≡ Ok tt
  pub year_too_early : opening (on 2019 12 31) 1 2 0 ≡ Err NoSuchBillingPeriod
  pub year_too_late : opening (on 2100 1 1) 1 2 0 ≡ Err NoSuchBillingPeriod
  pub leap_day : opening (on 2024 2 29) 1 2 0 ≡ Ok tt
  pub no_leap_day : opening (on 2023 2 29) 1 2 0 ≡ Err NoSuchBillingPeriod
  pub no_month_thirteen : opening (on 2024 13 1) 1 2 0 ≡ Err NoSuchBillingPeriod
  pub no_day_zero : opening (on 2024 6 0) 1 2 0 ≡ Err NoSuchBillingPeriod
  pub no_days : opening (on 2024 6 3) 0 2 0 ≡ Err NoSuchBillingPeriod
  pub too_many_days : opening (on 2024 6 3) 32 2 0 ≡ Err NoSuchBillingPeriod
  pub one_stage : opening (on 2024 6 3) 1 1 0 ≡ Err NoSuchBillingPeriod
  pub four_stages : opening (on 2024 6 3) 1 4 0 ≡ Err NoSuchBillingPeriod
  pub bit_past_the_days : opening (on 2024 6 3) 30 3 1073741824 ≡ Err NoSuchBillingPeriod
