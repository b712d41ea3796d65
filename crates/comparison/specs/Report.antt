-- The report that compares the two rules line by line. Assumes nothing.
use Rattle.std.specs.Prelude.{◌≡◌, ℕ, ◌+◌, cond, List, [], ◌∷◌, ◌++◌, map, length, zip, Some, None, Ok, Err, codes, decimal, Option, Result, ◌==◌}
use Rattle.std.specs.List.{enumerate_from, flat_map}
use Rattle.refusals.specs.declared.Refusal.{Refusal}
use Rattle.refusals.specs.declared.Refusal.TheVariants.{NoSuchLine}
use Rattle.refusals.specs.First.{first_met}
use Rattle.refusals.specs.Numbers.{printed}
use Rattle.sharing.specs.Rule.{reasons}
use Rattle.sharing.specs.RunningTotal.{running}
use Rattle.sharing.specs.LeftOver.{left_over}
use Rattle.lines.specs.Numbers.{numbers_in}
use Rattle.comparison.specs.declared.division.Place.{Place}
use Rattle.comparison.specs.declared.error.LineError.{LineError}
use Rattle.comparison.specs.declared.error.LineError.TheVariants.{Refused, OutOfMemory}
use Rattle.comparison.specs.Lines.{lines_of}

-- A place by its number, its weight, and what each rule gives it.
abbrev pub place_of : ℕ × ((ℕ × ℕ) × ℕ) → Place
place_of p = record { number = p.0; weight = p.1.0.0; running = p.1.0.1; left_over = p.1.1 }

-- The places, numbered from 0.
abbrev pub places_of : List ℕ → List ℕ → List ℕ → List Place
places_of weights by_running by_left_over = map place_of (enumerate_from 0 (zip (zip weights by_running) by_left_over))

-- An amount over its weights: what each rule gives each place, or why both refuse.
abbrev pub division_of : ℕ → List ℕ → Result (ℕ × List Place) Refusal
division_of amount weights =
    first_met (reasons amount weights (length weights)) (amount, places_of weights (running amount weights) (left_over amount weights))

-- The answer to the numbers of a line: the amount first, then the weights.
abbrev pub answer_of : Option (List ℕ) → Result (ℕ × List Place) Refusal
answer_of None = Err NoSuchLine
answer_of (Some []) = Err NoSuchLine
answer_of (Some (amount ∷ weights)) = division_of amount weights

-- Unless memory ran out, what is made is what is told, or is refused as told.
abbrev pub MadeAs : {A B : Type 0} → (A → B) → Result A LineError → Result B Refusal → Type 0
MadeAs view (Ok made) told = Ok (view made) ≡ told
MadeAs view (Err (Refused refusal)) told = Err refusal ≡ told
MadeAs view (Err (OutOfMemory cause)) told = Unit {0}

-- Whether the rules give a place the same.
abbrev pub word_of : ℕ → ℕ → List ℕ
word_of by_running by_left_over = cond (by_running == by_left_over) (codes "same") (codes "differ")

-- One place: its weight, and what each rule gives it.
abbrev pub place_text : Place → List ℕ
place_text place =
    codes "place " ++ (decimal place.number ++ (codes " weight " ++ (decimal place.weight ++ (codes " running-total " ++ (decimal place.running
    ++ (codes " left-over " ++ (decimal place.left_over ++ (codes " " ++ word_of place.running place.left_over))))))))

abbrev pub division_text : ℕ × List Place → List ℕ
division_text division = codes "amount " ++ (decimal division.0 ++ (codes "\n" ++ flat_map (λ place. place_text place ++ codes "\n") division.1))

abbrev pub answer_text : Result (ℕ × List Place) Refusal → List ℕ
answer_text (Ok division) = division_text division
answer_text (Err refusal) = printed refusal ++ codes "\n"

abbrev pub line_text : ℕ → List ℕ → List ℕ
line_text number line = codes "line " ++ (decimal number ++ (codes " " ++ answer_text (answer_of (numbers_in line))))

-- The lines from here on, after so many, and how many there were.
abbrev pub report_from : ℕ → List (List ℕ) → List ℕ
report_from before [] = codes "lines " ++ (decimal before ++ codes "\n")
report_from before (line ∷ rest) = line_text (before + 1) line ++ report_from (before + 1) rest

abbrev pub report_text : List ℕ → List ℕ
report_text input = report_from 0 (lines_of input)
