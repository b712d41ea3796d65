-- Weekdays, counted from the first day of 2020. Assumes nothing.
use Rattle.std.specs.Prelude.{ℕ, ◌+◌, ◌-◌, List, map, sum, codes}
use Rattle.std.specs.Fn.{iterate}
use Rattle.std.specs.List.{range_with_len}
use Rattle.tariff.specs.declared.dates.Date.{Date}
use Rattle.tariff.specs.declared.weekdays.Weekday.{Weekday}
use Rattle.tariff.specs.declared.weekdays.Weekday.TheVariants.{Monday, Tuesday, Wednesday, Thursday, Friday, Saturday, Sunday}
use Rattle.tariff.specs.Dates.{days_in_month, days_in_year}

-- The name as it is printed.
abbrev pub name_of : Weekday → List ℕ
name_of Monday = codes "Monday"
name_of Tuesday = codes "Tuesday"
name_of Wednesday = codes "Wednesday"
name_of Thursday = codes "Thursday"
name_of Friday = codes "Friday"
name_of Saturday = codes "Saturday"
name_of Sunday = codes "Sunday"

abbrev pub weekday_after : Weekday → Weekday
weekday_after Monday = Tuesday
weekday_after Tuesday = Wednesday
weekday_after Wednesday = Thursday
weekday_after Thursday = Friday
weekday_after Friday = Saturday
weekday_after Saturday = Sunday
weekday_after Sunday = Monday

-- The weekday so many days later.
abbrev pub weekdays_after : ℕ → Weekday → Weekday
weekdays_after n weekday = iterate weekday_after n weekday

-- The days of so many years from 2020 on.
abbrev pub days_of_years : ℕ → ℕ
days_of_years n = sum (map days_in_year (range_with_len 2020 n))

-- The days of so many first months of a year.
abbrev pub days_of_months : ℕ → ℕ → ℕ
days_of_months year n = sum (map (days_in_month year) (range_with_len 1 n))

-- How many days a date lies after 1 January 2020.
abbrev pub days_since_2020 : Date → ℕ
days_since_2020 date = days_of_years (date.year - 2020) + days_of_months date.year (date.month - 1) + (date.day - 1)

-- 1 January 2020 was a Wednesday.
abbrev pub weekday_of : Date → Weekday
weekday_of date = weekdays_after (days_since_2020 date) Wednesday
