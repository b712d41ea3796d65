-- The days from a first day on exist, leave none out, and have one weekday after another.
use Rattle.std.proofs.Common.{◌≡◌, ℕ, zero, suc, ◌+◌, ◌≤◌, true, sym, ap, ◌∙◌, arith}
use Rattle.tariff.specs.declared.dates.Date.{Date}
use Rattle.tariff.specs.declared.weekdays.Weekday.TheVariants.{Wednesday}
use Rattle.tariff.specs.Dates.{exists, day_after, days_after}
use Rattle.tariff.specs.Laws.{DaysFollow}
use Rattle.tariff.specs.Weekdays.{days_since_2020, weekday_after, weekdays_after, weekday_of}
use Rattle.tariff.proofs.DayByDay.{next_exists, day_after_year, one_day_more}
use Rattle.tariff.proofs.Iterating.{iterate_add, iterate_more}
use Rattle.tariff.proofs.Weeks.{seven_days_on}

all_exist : (n : ℕ) (first : Date) → exists first ≡ true → exists (days_after n first) ≡ true
all_exist zero first e = e
all_exist (suc n) first e = all_exist n (day_after first) (next_exists first e)

-- A later day is of no earlier year.
pub later_year : (n : ℕ) (first : Date) → first.year ≤ (days_after n first).year
later_year zero first = omega arith
later_year (suc n) first = omega (arith, later_year n (day_after first), (day_after_year first).0)

none_left_out : (n : ℕ) (first : Date) → 2020 ≤ first.year → exists first ≡ true → days_since_2020 (days_after n first) ≡ days_since_2020 first + n
none_left_out zero first late e = omega arith
none_left_out (suc n) first late e =
    let then_late : 2020 ≤ (day_after first).year = omega (arith, late, (day_after_year first).0) in
    omega (arith, none_left_out n (day_after first) then_late (next_exists first e), one_day_more first late e)

-- The weekday of a later day, from that of the first.
pub later_weekday : (n : ℕ) (first : Date) → 2020 ≤ first.year → exists first ≡ true → weekday_of (days_after n first) ≡ weekdays_after n (weekday_of first)
later_weekday n first late e =
    let later : days_since_2020 (days_after n first) ≡ n + days_since_2020 first = omega (arith, none_left_out n first late e) in
    ap (λ days. weekdays_after days Wednesday) later ∙ iterate_add weekday_after n (days_since_2020 first) Wednesday

pub days_follow : (first : Date) → 2020 ≤ first.year → exists first ≡ true → DaysFollow first
days_follow first late e = record {
  all_exist = λ n. all_exist n first e;
  none_left_out = λ n. none_left_out n first late e;
  next_weekday = λ n.
      later_weekday (n + 1) first late e
      ∙ iterate_more weekday_after n (weekday_of first)
      ∙ ap weekday_after (sym (later_weekday n first late e));
  same_after_seven = λ n.
      later_weekday (n + 7) first late e
      ∙ iterate_add weekday_after n 7 (weekday_of first)
      ∙ ap (weekdays_after n) (seven_days_on (weekday_of first))
      ∙ sym (later_weekday n first late e);
}
