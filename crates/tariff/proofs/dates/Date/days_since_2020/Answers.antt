use Rattle.std.proofs.Common.{◌≡◌, ◌-◌, arith, rules}
use Rattle.std.proofs.lemmas.Iterator.Consumers.{sum_from_yields_List, fits_from_yields_list}
use Rattle.tariff.specs.Dates.{days_in_month, days_in_year}
use Rattle.tariff.specs.Weekdays.{days_of_years, days_of_months}
use Rattle.tariff.proofs.DayByDay.{days_in_month_few, days_of_years_few, days_of_months_few, parts_of}
use Rattle.tariff.proofs.Sums.{range_mapped}
use Rattle.tariff.proofs.dates.Date.days_since_2020.Goals as goal
use Rattle.tariff.proofs.dates.Date.days_since_2020.Goals.{After-sum-months}

pub sum-years-requires-clause-fits : goal.sum-years-requires-clause-fits
sum-years-requires-clause-fits c =
    let date = c.args.self in
    fits_from_yields_list c.map.result _
    (range_mapped _ days_in_year 2020 date.year c.map.ensures.source c.map.ensures.closure (λ x r q k. search rules))
    (omega (arith, days_of_years_few (date.year - 2020)))

pub sum-months-requires-clause-fits : goal.sum-months-requires-clause-fits
sum-months-requires-clause-fits c =
    let date = c.args.self in
    let p = parts_of date c.requires.exists in
    fits_from_yields_list c.map-2.result _
    (range_mapped _ (days_in_month date.year) 1 date.month c.map-2.ensures.source c.map-2.ensures.closure (λ x r q k. search rules))
    (omega (arith, days_of_months_few date.year (date.month - 1)))

years_are : (c : After-sum-months) → c.sum-years.result ≡ days_of_years (c.args.self.year - 2020)
years_are c =
    sum_from_yields_List c.map.result _ c.sum-years.ensures.ran
    (range_mapped _ days_in_year 2020 c.args.self.year c.map.ensures.source c.map.ensures.closure (λ x r q k. search rules))

months_are : (c : After-sum-months) → c.sum-months.result ≡ days_of_months c.args.self.year (c.args.self.month - 1)
months_are c =
    sum_from_yields_List c.map-2.result _ c.sum-months.ensures.ran
    (range_mapped _ (days_in_month c.args.self.year) 1 c.args.self.month c.map-2.ensures.source c.map-2.ensures.closure (λ x r q k. search rules))

pub overflow_add-result-2 : goal.overflow_add-result-2
overflow_add-result-2 c =
    let date = c.args.self in
    let p = parts_of date c.requires.exists in
    omega (arith, years_are c, months_are c, days_of_years_few (date.year - 2020), days_of_months_few date.year (date.month - 1), days_in_month_few date.year date.month)

pub overflow_add-result : goal.overflow_add-result
overflow_add-result c = let all = overflow_add-result-2 c in omega arith

pub returns : goal.returns
returns c = omega (arith, years_are c, months_are c)
