-- How the quarters of a day fall into the periods. Assumes nothing.
use Rattle.std.specs.Prelude.{ℕ, zero, suc, ◌+◌}
use Rattle.tariff.specs.declared.hours.Calendar.{Calendar}
use Rattle.tariff.specs.declared.hours.Calendar.TheVariants.{TwoStage, ThreeStage}
use Rattle.tariff.specs.declared.hours.Season.{Season}
use Rattle.tariff.specs.declared.hours.Season.TheVariants.{Summer, NonSummer}
use Rattle.tariff.specs.declared.hours.DayKind.{DayKind}
use Rattle.tariff.specs.declared.hours.DayKind.TheVariants.{WorkingDay, HalfPeakSaturday, OffPeakDay}
use Rattle.tariff.specs.declared.hours.Period.{Period}
use Rattle.tariff.specs.declared.hours.Period.TheVariants.{Peak, HalfPeak, SaturdayHalfPeak, OffPeak}
use Rattle.tariff.specs.declared.counts.QuartersByPeriod.{QuartersByPeriod}

abbrev pub numbers : ℕ → ℕ → ℕ → ℕ → QuartersByPeriod
numbers peak half_peak saturday off_peak =
    record { peak = peak; half_peak = half_peak; saturday_half_peak = saturday; off_peak = off_peak }

abbrev pub one_more : Period → QuartersByPeriod → QuartersByPeriod
one_more Peak n = numbers (n.peak + 1) n.half_peak n.saturday_half_peak n.off_peak
one_more HalfPeak n = numbers n.peak (n.half_peak + 1) n.saturday_half_peak n.off_peak
one_more SaturdayHalfPeak n = numbers n.peak n.half_peak (n.saturday_half_peak + 1) n.off_peak
one_more OffPeak n = numbers n.peak n.half_peak n.saturday_half_peak (n.off_peak + 1)

-- How many of the first quarters of a day are in each period, where each quarter's period is told.
unfoldable pub counted : (ℕ → Period) → ℕ → QuartersByPeriod
counted period zero = numbers 0 0 0 0
counted period (suc quarter) = one_more (period quarter) (counted period quarter)

abbrev pub together : QuartersByPeriod → ℕ
together n = n.peak + n.half_peak + n.saturday_half_peak + n.off_peak

-- What the hours of a day add up to, four quarters to the hour.
abbrev pub by_hours : Calendar → Season → DayKind → QuartersByPeriod
-- peak 15 h, off-peak 9 h
by_hours TwoStage season WorkingDay = numbers 60 0 0 36
-- in summer peak 6 h, half-peak 9 h, off-peak 9 h; otherwise half-peak 15 h, off-peak 9 h
by_hours ThreeStage Summer WorkingDay = numbers 24 36 0 36
by_hours ThreeStage NonSummer WorkingDay = numbers 0 60 0 36
-- Saturday half-peak 15 h, off-peak 9 h
by_hours calendar season HalfPeakSaturday = numbers 0 0 60 36
by_hours calendar season OffPeakDay = numbers 0 0 0 96
