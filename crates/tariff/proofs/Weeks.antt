-- Weekdays come again after seven days.
use Rattle.std.proofs.Common.{◌≡◌, ℕ, zero, suc, ◌+◌, ◌*◌, ◌/◌, ◌%◌, sym, refl, ap, ◌∙◌, arith}
use Rattle.tariff.specs.declared.weekdays.Weekday.{Weekday}
use Rattle.tariff.specs.declared.weekdays.Weekday.TheVariants.{Monday, Tuesday, Wednesday, Thursday, Friday, Saturday, Sunday}
use Rattle.tariff.specs.Weekdays.{weekday_after, weekdays_after}
use Rattle.tariff.proofs.Iterating.{iterate_add}

pub seven_days_on : (weekday : Weekday) → weekdays_after 7 weekday ≡ weekday
seven_days_on Monday = refl
seven_days_on Tuesday = refl
seven_days_on Wednesday = refl
seven_days_on Thursday = refl
seven_days_on Friday = refl
seven_days_on Saturday = refl
seven_days_on Sunday = refl

whole_weeks : (weeks : ℕ) (weekday : Weekday) → weekdays_after (weeks * 7) weekday ≡ weekday
whole_weeks zero weekday = refl
whole_weeks (suc weeks) weekday =
    let seven_more : suc weeks * 7 ≡ weeks * 7 + 7 = omega arith in
    ap (λ n. weekdays_after n weekday) seven_more
    ∙ iterate_add weekday_after (weeks * 7) 7 weekday
    ∙ ap (weekdays_after (weeks * 7)) (seven_days_on weekday)
    ∙ whole_weeks weeks weekday

pub less_whole_weeks : (n : ℕ) (weekday : Weekday) → weekdays_after (n % 7) weekday ≡ weekdays_after n weekday
less_whole_weeks n weekday =
    let whole : n % 7 + n / 7 * 7 ≡ n = omega arith in
    sym (ap (weekdays_after (n % 7)) (whole_weeks (n / 7) weekday))
    ∙ sym (iterate_add weekday_after (n % 7) (n / 7 * 7) weekday)
    ∙ ap (λ k. weekdays_after k weekday) whole
