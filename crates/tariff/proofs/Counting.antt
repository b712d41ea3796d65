-- Counting a day's quarters by period.
use Rattle.std.proofs.Common.{◌≡◌, ℕ, ◌+◌, refl, ap, ◌∙◌, add-one, arith}
use Rattle.tariff.specs.declared.hours.Calendar.{Calendar}
use Rattle.tariff.specs.declared.hours.Calendar.TheVariants.{TwoStage, ThreeStage}
use Rattle.tariff.specs.declared.hours.Season.{Season}
use Rattle.tariff.specs.declared.hours.Season.TheVariants.{Summer, NonSummer}
use Rattle.tariff.specs.declared.hours.DayKind.{DayKind}
use Rattle.tariff.specs.declared.hours.DayKind.TheVariants.{WorkingDay, HalfPeakSaturday, OffPeakDay}
use Rattle.tariff.specs.declared.hours.Period.{Period}
use Rattle.tariff.specs.declared.hours.Period.TheVariants.{Peak, HalfPeak, SaturdayHalfPeak, OffPeak}
use Rattle.tariff.specs.declared.counts.QuartersByPeriod.{QuartersByPeriod}
use Rattle.tariff.specs.declared.terms.Day.{Day}
use Rattle.tariff.specs.BillingPeriods.{period_on}
use Rattle.tariff.specs.Counts.{numbers, one_more, counted, together, by_hours}
use Rattle.tariff.specs.Hours.{period_in_quarter}

pub counted_none : (period : ℕ → Period) → counted period 0 ≡ numbers 0 0 0 0
unfolding counted
counted_none period = refl

pub counted_more : (period : ℕ → Period) (n : ℕ) → counted period (n + 1) ≡ one_more (period n) (counted period n)
unfolding counted
counted_more period n = ap (counted period) (add-one n)

pub one_more_together : (period : Period) (n : QuartersByPeriod) → together (one_more period n) ≡ together n + 1
one_more_together Peak n = omega arith
one_more_together HalfPeak n = omega arith
one_more_together SaturdayHalfPeak n = omega arith
one_more_together OffPeak n = omega arith

pub a_day_by_hours : (calendar : Calendar) (season : Season) (kind : DayKind) → counted (period_in_quarter calendar season kind) 96 ≡ by_hours calendar season kind
unfolding counted
a_day_by_hours TwoStage Summer WorkingDay = refl
a_day_by_hours TwoStage NonSummer WorkingDay = refl
a_day_by_hours ThreeStage Summer WorkingDay = refl
a_day_by_hours ThreeStage NonSummer WorkingDay = refl
a_day_by_hours TwoStage Summer HalfPeakSaturday = refl
a_day_by_hours TwoStage NonSummer HalfPeakSaturday = refl
a_day_by_hours ThreeStage Summer HalfPeakSaturday = refl
a_day_by_hours ThreeStage NonSummer HalfPeakSaturday = refl
a_day_by_hours TwoStage Summer OffPeakDay = refl
a_day_by_hours TwoStage NonSummer OffPeakDay = refl
a_day_by_hours ThreeStage Summer OffPeakDay = refl
a_day_by_hours ThreeStage NonSummer OffPeakDay = refl

pub day_by_hours : (calendar : Calendar) (day : Day) (n : ℕ) → n ≡ 96 → counted (period_on calendar day) n ≡ by_hours calendar day.season day.kind
day_by_hours calendar day n e = ap (counted (period_on calendar day)) e ∙ a_day_by_hours calendar day.season day.kind

-- What the count of a day rests on.
pub ruleset counting = (counted_none, counted_more, one_more_together, day_by_hours)
