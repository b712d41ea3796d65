use Rattle.std.proofs.Common.{◌≡◌, ◌≤◌, true, rules}
use Rattle.tariff.specs.Dates.{exists}
use Rattle.tariff.proofs.DaysFollowing.{days_follow}
use Rattle.tariff.proofs.billing_period.BillingPeriod.new.Goals as goal

pub returns-clause-days_follow : goal.returns-clause-days_follow
returns-clause-days_follow c =
    let late : 2020 ≤ c.args.first.year = search rules in
    let first_exists : exists c.args.first ≡ true = search rules in
    days_follow c.args.first late first_exists
