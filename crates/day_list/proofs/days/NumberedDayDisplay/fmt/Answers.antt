use Rattle.std.proofs.Common.{◌≡◌, ℕ, Some, Option, sym, ap, ◌∙◌}
use Rattle.std.specs.Option.{option_map}
use Rattle.std.proofs.Output.{has_written_of_eq}
use Rattle.tariff.specs.declared.counts.QuartersByPeriod.{QuartersByPeriod}
use Rattle.tariff.specs.declared.terms.Day.{Day}
use Rattle.tariff.specs.declared.terms.Terms.{Terms}
use Rattle.tariff.specs.BillingPeriods.{day_at, period_on}
use Rattle.tariff.specs.Counts.{counted}
use Rattle.day_list.specs.Listing.{day_line, line_text}
use Rattle.day_list.proofs.days.NumberedDayDisplay.fmt.Goals as goal

same_value : {A : Type 0} (x y : A) → Some x ≡ Some y → x ≡ y
same_value x y e = cc

-- The line of a day that is found, with its counts.
line_is : (terms : Terms) (number : ℕ) (found : Option Day) (day : Day) (counts : QuartersByPeriod) →
    Some day ≡ found → Some counts ≡ option_map (λ d. counted (period_on terms.calendar d) 96) found →
    day_line terms number day counts ≡ line_text terms number found
line_is terms number found day counts is_day are_counts =
    let count : Day → QuartersByPeriod = λ d. counted (period_on terms.calendar d) 96 in
    ap (day_line terms number day) (same_value counts (count day) (are_counts ∙ ap (option_map count) (sym is_day)))
    ∙ ap (line_text terms number) is_day

pub returns-clause-writes : goal.returns-clause-writes
returns-clause-writes g c = λ plain ok.
    let terms = c.args.self.now.period.now.terms in
    let number = c.args.self.now.number in
    let found = c.in-Some-Some in
    has_written_of_eq _ _ _ _ _
    (line_is terms number (day_at terms number) found.day found.counts found.ensures found.ensures'.counted)
    (c.write.ensures.writes plain ok)
