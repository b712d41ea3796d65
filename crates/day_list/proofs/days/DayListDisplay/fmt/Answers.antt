use Rattle.std.proofs.Common.{◌≡◌, ap, arith, rules}
use Rattle.std.specs.List.{range_with_len, flat_map}
use Rattle.std.proofs.Output.{has_written_append, has_written_of_eq}
use Rattle.day_list.specs.Listing.{day_text}
use Rattle.day_list.proofs.OneMore.{one_more}
use Rattle.day_list.proofs.days.DayListDisplay.fmt.Goals as goal

pub loop-number-preserved : goal.loop-number-preserved
loop-number-preserved g c = λ plain.
    has_written_of_eq _ _ _ _ _ (one_more (day_text c.args.self.now.0.terms) c.loop-number.number)
    (has_written_append _ _ _ _ _ _ (c.loop-number.invariant plain) (search rules))

pub returns-clause-writes : goal.returns-clause-writes
returns-clause-writes g c = λ plain ok.
    let all : c.loop-number.number ≡ c.args.self.now.0.terms.days = omega (arith, c.days-days.ensures.is) in
    let days = has_written_of_eq _ _ _ _ _ (ap (λ n. flat_map (day_text c.args.self.now.0.terms) (range_with_len 0 n)) all) (c.loop-number.invariant plain) in
    has_written_append _ _ _ _ _ _ days (search rules)
