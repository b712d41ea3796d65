-- What an input asks for: the six numbers of a billing period, on one line. Assumes nothing.
use Rattle.std.specs.Prelude.{ℕ, cond, List, [], length, Some, None, Option, Result, ◌==◌, slice_index}
use Rattle.std.specs.Option.{unwrap_or}
use Rattle.refusals.specs.declared.Refusal.{Refusal}
use Rattle.refusals.specs.First.{first_met}
use Rattle.lines.specs.Cuts.{before, after}
use Rattle.lines.specs.Decimals.{and_then}
use Rattle.lines.specs.Numbers.{numbers_in}
use Rattle.tariff.specs.declared.terms.Terms.{Terms}
use Rattle.tariff.specs.BillingPeriods.{reasons, terms_of}
use Rattle.day_list.specs.declared.request.Request.{Request}

-- The one line of an input: what stands before the newline, if there is one, where nothing stands after it.
abbrev pub line_of : List ℕ → Option (List ℕ)
line_of input = cond (length (unwrap_or (after 10 input) []) == 0) (Some (before 10 input)) None

-- The year, month and day of the first day, the days, the calendar by its stages, the map of off-peak days.
abbrev pub request_of : List ℕ → Option Request
request_of numbers =
    cond (length numbers == 6)
    (Some (record {
      first = record { year = slice_index numbers 0; month = slice_index numbers 1; day = slice_index numbers 2 };
      days = slice_index numbers 3;
      stages = slice_index numbers 4;
      off_peak_map = slice_index numbers 5;
    }))
    None

abbrev pub request_in : List ℕ → Option Request
request_in input = and_then (line_of input) (λ line. and_then (numbers_in line) request_of)

-- The terms of the billing period that is asked for, or why it cannot be.
abbrev pub terms_asked : Request → Result Terms Refusal
terms_asked request =
    first_met
    (reasons request.first request.days request.stages request.off_peak_map)
    (terms_of request.first request.days request.stages request.off_peak_map)
