-- The list of a billing period's days with their hours. Assumes nothing.
use Rattle.std.specs.Prelude.{ℕ, ◌+◌, ◌*◌, List, [], ◌++◌, Some, None, Ok, Err, codes, decimal, Option, Result}
use Rattle.std.specs.List.{range_with_len, flat_map}
use Rattle.refusals.specs.declared.Refusal.{Refusal}
use Rattle.refusals.specs.declared.Refusal.TheVariants.{NoSuchLine}
use Rattle.refusals.specs.Numbers.{printed}
use Rattle.tariff.specs.declared.counts.QuartersByPeriod.{QuartersByPeriod}
use Rattle.tariff.specs.declared.hours.Period.{Period}
use Rattle.tariff.specs.declared.hours.Period.TheVariants.{Peak, HalfPeak, SaturdayHalfPeak, OffPeak}
use Rattle.tariff.specs.declared.terms.Day.{Day}
use Rattle.tariff.specs.declared.terms.Terms.{Terms}
use Rattle.tariff.specs.BillingPeriods.{day_at, quarters_of, period_on, period_at}
use Rattle.tariff.specs.Counts.{counted}
use Rattle.tariff.specs.Weekdays.{name_of}
use Rattle.day_list.specs.declared.request.Request.{Request}
use Rattle.day_list.specs.Requests.{request_in, terms_asked}

abbrev pub letter_of : Period → List ℕ
letter_of Peak = codes "P"
letter_of HalfPeak = codes "H"
letter_of SaturdayHalfPeak = codes "S"
letter_of OffPeak = codes "-"

-- The letter of a quarter's period, where the billing period has the quarter.
abbrev pub letter_at : Option Period → List ℕ
letter_at None = []
letter_at (Some period) = letter_of period

-- The 24 hours of a day, each by the period of its first quarter.
unfoldable pub hours_text : Terms → ℕ → List ℕ
hours_text terms number = flat_map (λ hour. letter_at (period_at terms (96 * number + 4 * hour))) (range_with_len 0 24)

-- The line of a day: its number, date and weekday, its hours, and how many of its quarters are in each period.
abbrev pub day_line : Terms → ℕ → Day → QuartersByPeriod → List ℕ
day_line terms number day n =
    decimal number ++ (codes " " ++ (decimal day.date.year ++ (codes " " ++ (decimal day.date.month ++ (codes " "
    ++ (decimal day.date.day ++ (codes " " ++ (name_of day.weekday ++ (codes " " ++ (hours_text terms number ++ (codes " "
    ++ (decimal n.peak ++ (codes " " ++ (decimal n.half_peak ++ (codes " " ++ (decimal n.saturday_half_peak ++ (codes " "
    ++ (decimal n.off_peak ++ codes "\n"))))))))))))))))))

-- There is no line where the billing period has no such day.
abbrev pub line_text : Terms → ℕ → Option Day → List ℕ
line_text terms number None = []
line_text terms number (Some day) = day_line terms number day (counted (period_on terms.calendar day) 96)

abbrev pub day_text : Terms → ℕ → List ℕ
day_text terms number = line_text terms number (day_at terms number)

-- How many days and quarters there are.
abbrev pub end_text : Terms → List ℕ
end_text terms = codes "days " ++ (decimal terms.days ++ (codes " quarters " ++ (decimal (quarters_of terms) ++ codes "\n")))

abbrev pub refusal_text : Refusal → List ℕ
refusal_text refusal = printed refusal ++ codes "\n"

-- The days of a billing period, or why it cannot be.
abbrev pub answer_text : Result Terms Refusal → List ℕ
answer_text (Ok terms) = flat_map (day_text terms) (range_with_len 0 terms.days) ++ end_text terms
answer_text (Err refusal) = refusal_text refusal

abbrev pub request_text : Option Request → List ℕ
request_text None = refusal_text NoSuchLine
request_text (Some request) = answer_text (terms_asked request)

abbrev pub list_text : List ℕ → List ℕ
list_text input = request_text (request_in input)
