-- The tariff's hours: which period an hour of a day is in. Assumes nothing.
use Rattle.std.specs.Prelude.{ℕ, ◌/◌, Bool, true, false, cond, ◌&&◌, ◌||◌, Ok, Err, Result, ◌==◌, nat_le, nat_lt}
use Rattle.refusals.specs.declared.Refusal.{Refusal}
use Rattle.refusals.specs.declared.Refusal.TheVariants.{NoSuchBillingPeriod}
use Rattle.tariff.specs.declared.weekdays.Weekday.{Weekday}
use Rattle.tariff.specs.declared.weekdays.Weekday.TheVariants.{Monday, Tuesday, Wednesday, Thursday, Friday, Saturday, Sunday}
use Rattle.tariff.specs.declared.hours.Calendar.{Calendar}
use Rattle.tariff.specs.declared.hours.Calendar.TheVariants.{TwoStage, ThreeStage}
use Rattle.tariff.specs.declared.hours.Season.{Season}
use Rattle.tariff.specs.declared.hours.Season.TheVariants.{Summer, NonSummer}
use Rattle.tariff.specs.declared.hours.DayKind.{DayKind}
use Rattle.tariff.specs.declared.hours.DayKind.TheVariants.{WorkingDay, HalfPeakSaturday, OffPeakDay}
use Rattle.tariff.specs.declared.hours.Period.{Period}
use Rattle.tariff.specs.declared.hours.Period.TheVariants.{Peak, HalfPeak, SaturdayHalfPeak, OffPeak}

-- The calendar with so many stages, or why there is none.
abbrev pub calendar_with : ℕ → Result Calendar Refusal
calendar_with stages = cond (stages == 2) (Ok TwoStage) (cond (stages == 3) (Ok ThreeStage) (Err NoSuchBillingPeriod))

-- Summer is June to September.
abbrev pub season_in : ℕ → Season
season_in month = cond (nat_le 6 month && nat_le month 9) Summer NonSummer

-- What a day counts as, by its weekday and whether it is named as off-peak.
abbrev pub kind_of : Weekday → Bool → DayKind
kind_of weekday true = OffPeakDay
kind_of Monday false = WorkingDay
kind_of Tuesday false = WorkingDay
kind_of Wednesday false = WorkingDay
kind_of Thursday false = WorkingDay
kind_of Friday false = WorkingDay
kind_of Saturday false = HalfPeakSaturday
kind_of Sunday false = OffPeakDay

-- Whether an hour lies from one hour until another.
abbrev pub from_until : ℕ → ℕ → ℕ → Bool
from_until from until hour = nat_le from hour && nat_lt hour until

-- Two stages: high, and off-peak.
abbrev pub in_two_stages : Season → ℕ → Period → Period
in_two_stages Summer hour high = cond (from_until 9 24 hour) high OffPeak
in_two_stages NonSummer hour high = cond (from_until 6 11 hour || from_until 14 24 hour) high OffPeak

-- Three stages, of which the peak is in summer alone.
abbrev pub in_three_stages : Season → ℕ → Period
in_three_stages Summer hour =
    cond (from_until 16 22 hour) Peak
    (cond (from_until 9 16 hour || from_until 22 24 hour) HalfPeak
    OffPeak)
in_three_stages NonSummer hour = cond (from_until 6 11 hour || from_until 14 24 hour) HalfPeak OffPeak

-- The period of an hour of a day. A Saturday has the two-stage calendar's hours under both calendars.
abbrev pub period_in : Calendar → Season → DayKind → ℕ → Period
period_in TwoStage season WorkingDay hour = in_two_stages season hour Peak
period_in ThreeStage season WorkingDay hour = in_three_stages season hour
period_in calendar season HalfPeakSaturday hour = in_two_stages season hour SaturdayHalfPeak
period_in calendar season OffPeakDay hour = OffPeak

-- The period of a quarter of a day, four quarters to the hour.
abbrev pub period_in_quarter : Calendar → Season → DayKind → ℕ → Period
period_in_quarter calendar season kind quarter = period_in calendar season kind (quarter / 4)

-- The number of a period.
abbrev pub number_of : Period → ℕ
number_of Peak = 0
number_of HalfPeak = 1
number_of SaturdayHalfPeak = 2
number_of OffPeak = 3
