-- Figures of cross-tables. Assumes nothing.
use Rattle.std.specs.Prelude.{◌≡◌, ℕ, ◌+◌, true, false, List, [], ◌∷◌, Ok, Err, Result}
use Rattle.refusals.specs.declared.Refusal.{Refusal}
use Rattle.refusals.specs.declared.Refusal.TheVariants.{UnlikeLengths}
use Rattle.refusals.specs.First.{Reason, first_met}
use Rattle.crosstab.specs.declared.charge_slip.ChargeSlip.{ChargeSlip}
use Rattle.crosstab.specs.declared.period_card.PeriodCard.{PeriodCard}
use Rattle.crosstab.specs.Amounts.{stopping_sum, any_above_zero, AllFit}
use Rattle.crosstab.specs.Cards.{joined_all}
use Rattle.crosstab.specs.Kinds.{periods_of, joined_periods, slip_of, joined_slips}
use Rattle.crosstab.specs.Tables.{totals_by_row, totals_by_column, whole_reasons, row_reasons, column_reasons, cross_reasons}

-- Two rows of three amounts, joined by their sum.
abbrev pub amounts : List ℕ
amounts = 1 ∷ 10 ∷ 100 ∷ 5 ∷ 50 ∷ 500 ∷ []

abbrev pub amounts_of : PeriodCard → List ℕ
amounts_of card = card.peak ∷ card.half_peak ∷ card.saturday_half_peak ∷ card.off_peak ∷ []

abbrev pub charges_of : ChargeSlip → List ℕ
charges_of slip =
    slip.charges.transmission ∷ slip.charges.distribution ∷ slip.charges.ancillary_service ∷ slip.charges.dispatch ∷ []

-- What is answered to a call with these reasons.
abbrev pub answer : List Reason → Result (Unit {0}) Refusal
answer reasons = first_met reasons tt

pub record TableFigures : Type 0 where
  pub totals_of_rows : totals_by_row 0 ◌+◌ amounts 2 3 ≡ 111 ∷ 555 ∷ []
  pub totals_of_columns : totals_by_column 0 ◌+◌ amounts 2 3 ≡ 6 ∷ 60 ∷ 600 ∷ []
  pub whole_of_both : joined_all 0 ◌+◌ amounts ≡ 666
  -- the sum, and where it stops
  pub sum : stopping_sum 1 2 ≡ 3
  pub sum_at_the_largest : stopping_sum 18446744073709551614 1 ≡ 18446744073709551615
  pub sum_past_the_largest : stopping_sum 18446744073709551615 1 ≡ 18446744073709551615
  -- two cards of each kind, whatever shows that their amounts have 64 bits
  pub periods_joined : (f : AllFit 1 2 3 4) (g : AllFit 10 20 30 40) → amounts_of (joined_periods (periods_of 1 2 3 4 f) (periods_of 10 20 30 40 g)) ≡ 11 ∷ 22 ∷ 33 ∷ 44 ∷ []
  pub slips_joined : (f : AllFit 1 2 3 4) (g : AllFit 10 20 30 40) → charges_of (joined_slips (slip_of 1 2 3 4 f) (slip_of 10 20 30 40 g)) ≡ 11 ∷ 22 ∷ 33 ∷ 44 ∷ []
  -- a mark for a charge of 1 in any place
  pub no_charge : any_above_zero 0 0 0 0 ≡ false
  pub first_charge : any_above_zero 1 0 0 0 ≡ true
  pub second_charge : any_above_zero 0 1 0 0 ≡ true
  pub third_charge : any_above_zero 0 0 1 0 ≡ true
  pub fourth_charge : any_above_zero 0 0 0 1 ≡ true
  -- the numbers that go together, for each call
  pub whole_of_six : answer (whole_reasons 6 2 3) ≡ Ok tt
  pub whole_of_seven : answer (whole_reasons 7 2 3) ≡ Err UnlikeLengths
  pub rows_of_six : answer (row_reasons 6 2 3 2) ≡ Ok tt
  pub rows_of_seven : answer (row_reasons 7 2 3 2) ≡ Err UnlikeLengths
  pub row_total_for_each_column : answer (row_reasons 6 2 3 3) ≡ Err UnlikeLengths
  pub columns_of_six : answer (column_reasons 6 2 3 3) ≡ Ok tt
  pub columns_of_seven : answer (column_reasons 7 2 3 3) ≡ Err UnlikeLengths
  pub column_total_for_each_row : answer (column_reasons 6 2 3 2) ≡ Err UnlikeLengths
  pub six_cards : answer (cross_reasons 6 2 3 2 3) ≡ Ok tt
  pub no_cards : answer (cross_reasons 0 0 3 0 3) ≡ Ok tt
  pub card_too_many : answer (cross_reasons 7 2 3 2 3) ≡ Err UnlikeLengths
  pub row_total_too_many : answer (cross_reasons 6 2 3 3 3) ≡ Err UnlikeLengths
  pub column_total_too_few : answer (cross_reasons 6 2 3 2 2) ≡ Err UnlikeLengths
  pub past_64_bits : answer (cross_reasons 0 4294967296 4294967296 4294967296 4294967296) ≡ Err UnlikeLengths
