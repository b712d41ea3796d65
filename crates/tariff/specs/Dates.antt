-- Dates of the Gregorian calendar. Assumes nothing.
use Rattle.std.specs.Prelude.{ℕ, ◌+◌, ◌%◌, Bool, cond, not, ◌&&◌, ◌||◌, ◌==◌, nat_le, nat_lt}
use Rattle.std.specs.Fn.{iterate}
use Rattle.tariff.specs.declared.dates.Date.{Date}

-- Whether February has 29 days: every fourth year, of the full hundreds every fourth.
abbrev pub leap : ℕ → Bool
leap year = year % 4 == 0 && (not (year % 100 == 0) || year % 400 == 0)

abbrev pub days_in_month : ℕ → ℕ → ℕ
days_in_month year month =
    cond (month == 2) (cond (leap year) 29 28)
    (cond (month == 4 || month == 6 || month == 9 || month == 11) 30
    31)

abbrev pub days_in_year : ℕ → ℕ
days_in_year year = cond (leap year) 366 365

-- Whether the month is one of twelve and has the day.
abbrev pub exists : Date → Bool
exists date =
    nat_le 1 date.month && nat_le date.month 12
    && nat_le 1 date.day && nat_le date.day (days_in_month date.year date.month)

abbrev pub day_after : Date → Date
day_after date =
    cond (nat_lt date.day (days_in_month date.year date.month))
    (record { year = date.year; month = date.month; day = date.day + 1 })
    (cond (nat_lt date.month 12)
    (record { year = date.year; month = date.month + 1; day = 1 })
    (record { year = date.year + 1; month = 1; day = 1 }))

-- The date so many days later.
abbrev pub days_after : ℕ → Date → Date
days_after n date = iterate day_after n date
