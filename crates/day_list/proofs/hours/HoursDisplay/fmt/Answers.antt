use Rattle.std.proofs.Common.{◌≡◌, ◌+◌, ◌*◌, ap, arith, rules}
use Rattle.std.specs.List.{range_with_len, flat_map}
use Rattle.std.proofs.Output.{has_written_append, has_written_of_eq}
use Rattle.tariff.specs.BillingPeriods.{period_at}
use Rattle.day_list.specs.Listing.{letter_at, hours_text}
use Rattle.day_list.proofs.OneMore.{one_more}
use Rattle.day_list.proofs.hours.HoursDisplay.fmt.Goals as goal

pub loop-hour-preserved : goal.loop-hour-preserved
loop-hour-preserved g c = λ plain.
    let more = one_more (λ hour. letter_at (period_at c.args.self.now.0.period.now.terms (96 * c.args.self.now.0.number + 4 * hour))) c.loop-hour.hour in
    has_written_of_eq _ _ _ _ _ more (has_written_append _ _ _ _ _ _ (c.loop-hour.invariant plain) (search rules))

pub returns-clause-writes : goal.returns-clause-writes
unfolding hours_text
returns-clause-writes g c = λ plain _.
    let all : c.loop-hour.hour ≡ 24 = omega arith in
    has_written_of_eq _ _ _ _ _ (ap (λ n. flat_map (λ hour. letter_at (period_at c.args.self.now.0.period.now.terms (96 * c.args.self.now.0.number + 4 * hour))) (range_with_len 0 n)) all) (c.loop-hour.invariant plain)
