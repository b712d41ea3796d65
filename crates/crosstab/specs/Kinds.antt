-- The two kinds of card: the empty card and the joining of each. Assumes nothing.
use Rattle.std.specs.Prelude.{ℕ, refl}
use Rattle.crosstab.specs.Amounts.{stopping_sum, any_above_zero, AllFit, zeros_fit, sums_fit}
use Rattle.crosstab.specs.declared.period_card.PeriodCard.{PeriodCard}
use Rattle.crosstab.specs.declared.charge_slip.ChargeSlip.{ChargeSlip}

-- The card of four amounts.
abbrev pub periods_of : (peak half_peak saturday_half_peak off_peak : ℕ) → AllFit peak half_peak saturday_half_peak off_peak → PeriodCard
periods_of peak half_peak saturday_half_peak off_peak fit =
    record { peak = peak; half_peak = half_peak; saturday_half_peak = saturday_half_peak; off_peak = off_peak; fits = fit }

abbrev pub empty_periods : PeriodCard
empty_periods = periods_of 0 0 0 0 zeros_fit

-- Period by period.
abbrev pub joined_periods : PeriodCard → PeriodCard → PeriodCard
joined_periods x y =
    periods_of
    (stopping_sum x.peak y.peak)
    (stopping_sum x.half_peak y.half_peak)
    (stopping_sum x.saturday_half_peak y.saturday_half_peak)
    (stopping_sum x.off_peak y.off_peak)
    (sums_fit _ _ _ _ _ _ _ _)

-- The slip of four charges; it is marked where one is above 0.
abbrev pub slip_of : (transmission distribution ancillary_service dispatch : ℕ) → AllFit transmission distribution ancillary_service dispatch → ChargeSlip
slip_of transmission distribution ancillary_service dispatch fit = record {
  charges = record { transmission = transmission; distribution = distribution; ancillary_service = ancillary_service; dispatch = dispatch };
  charged = any_above_zero transmission distribution ancillary_service dispatch;
  fits = fit;
  right_mark = refl;
}

abbrev pub empty_slip : ChargeSlip
empty_slip = slip_of 0 0 0 0 zeros_fit

-- Charge by charge.
abbrev pub joined_slips : ChargeSlip → ChargeSlip → ChargeSlip
joined_slips x y =
    slip_of
    (stopping_sum x.charges.transmission y.charges.transmission)
    (stopping_sum x.charges.distribution y.charges.distribution)
    (stopping_sum x.charges.ancillary_service y.charges.ancillary_service)
    (stopping_sum x.charges.dispatch y.charges.dispatch)
    (sums_fit _ _ _ _ _ _ _ _)
