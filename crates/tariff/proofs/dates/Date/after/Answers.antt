use Rattle.std.proofs.Common.{◌≡◌, ℕ, ◌+◌, ◌<◌, ◌≤◌, List, length, rules, refl, ap, arith}
use Rattle.std.proofs.lemmas.Fn.{serves_by}
use Rattle.std.proofs.lemmas.Iterator.{YieldsList-from_range}
use Rattle.std.proofs.lemmas.Iterator.Consumers.{YieldsList-turn}
use Rattle.std.proofs.lemmas.List.{length_push}
use Rattle.std.proofs.lemmas.List.FromFn.{length-range_with_len}
use Rattle.tariff.specs.declared.dates.Date.{Date}
use Rattle.tariff.specs.Dates.{day_after}
use Rattle.tariff.proofs.DayByDay.{day_after_year}
use Rattle.tariff.proofs.Iterating.{range_iterates}
use Rattle.tariff.proofs.dates.Date.after.Goals as goal

-- With each day the year grows by one at most, so no year on the way is past the last that `next` takes.
pub fold-requires-clause-callable : goal.fold-requires-clause-callable
fold-requires-clause-callable c =
    let days = YieldsList-from_range 0 c.args.days c.args.days refl (omega arith) in
    let early : List ℕ → Unit {0} × Date → Type 0 = λ xs q. q.1.year ≤ c.args.self.year + length xs in
    serves_by _ early
    (λ xs q x v before turn.
    let next : v.1 ≡ day_after q.1 = search rules in
    let year = ap (λ (date : Date). date.year) next in
    omega (arith, year, (day_after_year q.1).1, length_push xs x))
    _ _ _ _ (omega arith)
    (λ xs t q x u so_far now before.
    let more = YieldsList-turn days xs t so_far _ u x refl now in
    let year : q.1.year < 4000 = omega (arith, more.0, length-range_with_len 0 c.args.days, c.requires) in
    search rules)

pub returns : goal.returns
returns c = range_iterates day_after _ c.args.days c.args.self c.fold.result c.fold.ensures.ran (λ a x b q k. search rules)
