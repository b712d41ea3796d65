use Rattle.std.proofs.Common.{◌≡◌}
use Rattle.tariff.specs.BillingPeriods.{period_on}
use Rattle.tariff.specs.Counts.{counted, together}
use Rattle.tariff.proofs.hours.Calendar.quarters_by_period.Given as goal

abbrev pub invariant-loop-quarter : goal.invariant-loop-quarter
invariant-loop-quarter l = (l.counts ≡ counted (period_on l.self l.day) l.quarter) × (together l.counts ≡ l.quarter)
