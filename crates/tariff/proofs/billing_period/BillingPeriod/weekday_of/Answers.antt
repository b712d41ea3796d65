use Rattle.std.proofs.Common.{sym, ap, ◌∙◌}
use Rattle.tariff.specs.Weekdays.{weekdays_after}
use Rattle.tariff.proofs.DaysFollowing.{later_weekday}
use Rattle.tariff.proofs.LawfulTerms.{lawful_within}
use Rattle.tariff.proofs.billing_period.BillingPeriod.weekday_of.Goals as goal

pub returns : goal.returns
returns c =
    let period = c.args.self.now in
    let terms = lawful_within period.terms period.terms_lawful in
    c.after.ensures
    ∙ ap (weekdays_after c.args.number) period.weekday
    ∙ sym (later_weekday c.args.number period.terms.first terms.first_year terms.first_exists)
