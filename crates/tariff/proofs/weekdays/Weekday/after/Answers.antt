use Rattle.std.proofs.Common.{◌%◌, ◌∙◌, rules}
use Rattle.tariff.specs.Weekdays.{weekday_after}
use Rattle.tariff.proofs.Iterating.{range_iterates}
use Rattle.tariff.proofs.Weeks.{less_whole_weeks}
use Rattle.tariff.proofs.weekdays.Weekday.after.Goals as goal

pub returns : goal.returns
returns c =
    range_iterates weekday_after _ (c.args.days % 7) c.args.self c.fold.result c.fold.ensures.ran (λ a x b q k. search rules)
    ∙ less_whole_weeks c.args.days c.args.self
