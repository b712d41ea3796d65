-- What the letters of a day tell, by their places. Assumes nothing.
use Rattle.std.proofs.Common.{◌≡◌, ℕ, zero, suc, ◌+◌, ◌*◌, ◌/◌, ◌%◌, ◌<◌, cond, List, [], ◌∷◌, ◌++◌, map, length, take, drop, Some, None, sym, refl, ap, ◌∙◌, arith, lt-ltb}
use Rattle.std.specs.List.{range_with_len, flat_map}
use Rattle.std.specs.Option.{option_map}
use Rattle.std.proofs.lemmas.List.FromFn.{length-map-range_with_len}
use Rattle.tariff.specs.declared.hours.Calendar.{Calendar}
use Rattle.tariff.specs.declared.hours.Calendar.TheVariants.{TwoStage, ThreeStage}
use Rattle.tariff.specs.declared.hours.Season.{Season}
use Rattle.tariff.specs.declared.hours.Season.TheVariants.{Summer, NonSummer}
use Rattle.tariff.specs.declared.hours.DayKind.{DayKind}
use Rattle.tariff.specs.declared.hours.DayKind.TheVariants.{WorkingDay, HalfPeakSaturday, OffPeakDay}
use Rattle.tariff.specs.declared.hours.Period.{Period}
use Rattle.tariff.specs.declared.hours.Period.TheVariants.{Peak, HalfPeak, SaturdayHalfPeak, OffPeak}
use Rattle.tariff.specs.declared.terms.Day.{Day}
use Rattle.tariff.specs.declared.terms.Terms.{Terms}
use Rattle.tariff.specs.BillingPeriods.{named, day_on, day_at, quarters_of, period_on, period_at}
use Rattle.tariff.specs.Counts.{counted, by_hours}
use Rattle.tariff.specs.Dates.{days_after}
use Rattle.tariff.specs.Hours.{period_in}
use Rattle.tariff.proofs.Counting.{a_day_by_hours}
use Rattle.day_list.specs.Laws.{quarters_by_letter, LettersTell}
use Rattle.day_list.specs.Listing.{letter_of, letter_at, hours_text}

-- A letter is one byte.
abbrev code_of : Period → ℕ
code_of Peak = 80
code_of HalfPeak = 72
code_of SaturdayHalfPeak = 83
code_of OffPeak = 45

letter_code : (period : Period) → letter_of period ≡ code_of period ∷ []
letter_code Peak = refl
letter_code HalfPeak = refl
letter_code SaturdayHalfPeak = refl
letter_code OffPeak = refl

-- One byte for each of so many places.
abbrev row : (ℕ → ℕ) → ℕ → ℕ → List ℕ
row code a n = map code (range_with_len a n)

row_at : (code : ℕ → ℕ) (n a j : ℕ) → j < n → take 1 (drop j (row code a n)) ≡ code (a + j) ∷ []
row_at code zero a j lt = absurd (omega arith)
row_at code (suc n) a zero lt = ap (λ k. code k ∷ []) (omega arith)
row_at code (suc n) a (suc j) lt = row_at code n (a + 1) j (omega arith) ∙ ap (λ k. code k ∷ []) (omega arith)

row_is : (f : ℕ → List ℕ) (code : ℕ → ℕ) (n a : ℕ) → ((j : ℕ) → j < n → f (a + j) ≡ code (a + j) ∷ []) → flat_map f (range_with_len a n) ≡ row code a n
row_is f code zero a same = refl
row_is f code (suc n) a same =
    let first : f a ≡ code a ∷ [] = ap f (omega arith) ∙ same 0 (omega arith) ∙ ap (λ k. code k ∷ []) (omega arith) in
    let shift : (j : ℕ) → (a + 1) + j ≡ a + (j + 1) = λ j. omega arith in
    let rest = row_is f code n (a + 1) (λ j lt. ap f (shift j) ∙ same (j + 1) (omega arith) ∙ ap (λ k. code k ∷ []) (sym (shift j))) in
    ap (λ bs. bs ++ flat_map f (range_with_len (a + 1) n)) first ∙ ap (λ bs. code a ∷ bs) rest

-- A day that the billing period has, and the byte for each of its hours.
abbrev own_day : Terms → ℕ → Day
own_day terms number = day_on (days_after number terms.first) (named terms number)

abbrev hour_code : Terms → ℕ → ℕ → ℕ
hour_code terms number hour = code_of (period_in terms.calendar (own_day terms number).season (own_day terms number).kind hour)

period_told : (terms : Terms) (quarter : ℕ) → quarter < quarters_of terms →
    period_at terms quarter ≡ Some (period_on terms.calendar (own_day terms (quarter / 96)) (quarter % 96))
period_told terms quarter lt =
    ap (λ b. cond b (Some (period_on terms.calendar (own_day terms (quarter / 96)) (quarter % 96))) None) (lt-ltb quarter (quarters_of terms) lt)

quarter_code : (terms : Terms) (quarter : ℕ) → quarter < quarters_of terms →
    letter_at (period_at terms quarter) ≡ hour_code terms (quarter / 96) (quarter % 96 / 4) ∷ []
quarter_code terms quarter lt = ap letter_at (period_told terms quarter lt) ∙ letter_code _

-- The quarter at which an hour begins lies in its day and its hour.
hour_told : (terms : Terms) (number hour : ℕ) → number < terms.days → hour < 24 →
    letter_at (period_at terms (96 * number + 4 * hour)) ≡ hour_code terms number hour ∷ []
hour_told terms number hour day lt =
    let quarter = 96 * number + 4 * hour in
    let in_day : quarter / 96 ≡ number = omega arith in
    let in_hour : quarter % 96 / 4 ≡ hour = omega arith in
    quarter_code terms quarter (omega arith)
    ∙ ap (λ d. hour_code terms d (quarter % 96 / 4) ∷ []) in_day ∙ ap (λ h. hour_code terms number h ∷ []) in_hour

hours_row : (terms : Terms) (number : ℕ) → number < terms.days → hours_text terms number ≡ row (hour_code terms number) 0 24
unfolding hours_text
hours_row terms number day =
    row_is (λ hour. letter_at (period_at terms (96 * number + 4 * hour))) (hour_code terms number) 24 0
    (λ j lt. hour_told terms number (0 + j) day (omega arith))

told_by_hours : (calendar : Calendar) (season : Season) (kind : DayKind) →
    by_hours calendar season kind ≡ quarters_by_letter (row (λ hour. code_of (period_in calendar season kind hour)) 0 24)
told_by_hours TwoStage Summer WorkingDay = refl
told_by_hours TwoStage NonSummer WorkingDay = refl
told_by_hours ThreeStage Summer WorkingDay = refl
told_by_hours ThreeStage NonSummer WorkingDay = refl
told_by_hours TwoStage Summer HalfPeakSaturday = refl
told_by_hours TwoStage NonSummer HalfPeakSaturday = refl
told_by_hours ThreeStage Summer HalfPeakSaturday = refl
told_by_hours ThreeStage NonSummer HalfPeakSaturday = refl
told_by_hours TwoStage Summer OffPeakDay = refl
told_by_hours TwoStage NonSummer OffPeakDay = refl
told_by_hours ThreeStage Summer OffPeakDay = refl
told_by_hours ThreeStage NonSummer OffPeakDay = refl

counts_told : (terms : Terms) (number : ℕ) → number < terms.days →
    option_map (λ day. counted (period_on terms.calendar day) 96) (day_at terms number) ≡ Some (quarters_by_letter (hours_text terms number))
counts_told terms number lt =
    let day = own_day terms number in
    ap (λ b. option_map (λ d. counted (period_on terms.calendar d) 96) (cond b (Some day) None)) (lt-ltb number terms.days lt)
    ∙ ap Some (a_day_by_hours terms.calendar day.season day.kind ∙ told_by_hours terms.calendar day.season day.kind)
    ∙ ap (λ letters. Some (quarters_by_letter letters)) (sym (hours_row terms number lt))

quarter_told : (terms : Terms) (quarter : ℕ) → quarter < quarters_of terms →
    take 1 (drop (quarter % 96 / 4) (hours_text terms (quarter / 96))) ≡ letter_at (period_at terms quarter)
quarter_told terms quarter lt =
    let number = quarter / 96 in
    let hour = quarter % 96 / 4 in
    let zero_more : 0 + hour ≡ hour = omega arith in
    ap (λ letters. take 1 (drop hour letters)) (hours_row terms number (omega arith))
    ∙ row_at (hour_code terms number) 24 0 hour (omega arith)
    ∙ ap (λ h. hour_code terms number h ∷ []) zero_more
    ∙ sym (quarter_code terms quarter lt)

pub letters_tell : (terms : Terms) → LettersTell terms
letters_tell terms = record {
  letter_an_hour = λ number lt. ap length (hours_row terms number lt) ∙ length-map-range_with_len (hour_code terms number) 0 24;
  every_quarter = quarter_told terms;
  counts_agree = counts_told terms;
}
