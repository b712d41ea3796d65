-- What a planner knows of the calendar without following it day by day. Assumes nothing.
use Rattle.std.specs.Prelude.{◌≡◌, ℕ, ◌+◌, true}
use Rattle.tariff.specs.declared.dates.Date.{Date}
use Rattle.tariff.specs.Dates.{exists, days_after}
use Rattle.tariff.specs.Weekdays.{days_since_2020, weekday_after, weekday_of}

-- The days from a first day on, without end.
pub record DaysFollow (first : Date) : Type 0 where
  -- Every day is a date that exists.
  pub all_exist : (n : ℕ) → exists (days_after n first) ≡ true
  -- Going on day by day agrees with the days of the years and months before.
  pub none_left_out : (n : ℕ) → days_since_2020 (days_after n first) ≡ days_since_2020 first + n
  -- The next day has the next weekday, and the day after the seventh the same.
  pub next_weekday : (n : ℕ) → weekday_of (days_after (n + 1) first) ≡ weekday_after (weekday_of (days_after n first))
  pub same_after_seven : (n : ℕ) → weekday_of (days_after (n + 7) first) ≡ weekday_of (days_after n first)
