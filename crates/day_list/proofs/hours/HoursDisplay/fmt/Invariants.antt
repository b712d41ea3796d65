use Rattle.std.proofs.Common.{◌+◌, ◌*◌}
use Rattle.std.specs.Fmt.{HasWritten, IsPlainFormatter}
use Rattle.std.specs.List.{range_with_len, flat_map}
use Rattle.tariff.specs.BillingPeriods.{period_at}
use Rattle.day_list.specs.Listing.{letter_at}
use Rattle.day_list.proofs.hours.HoursDisplay.fmt.Given as goal

abbrev pub invariant-loop-hour : goal.invariant-loop-hour
invariant-loop-hour g l =
    IsPlainFormatter l.initial.f
    → HasWritten g.W.Write.write_str_gives l.initial.f (flat_map (λ hour. letter_at (period_at l.self.0.period.now.terms (96 * l.self.0.number + 4 * hour))) (range_with_len 0 l.hour)) l.f
