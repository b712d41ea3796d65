-- The laws of period cards. Assumes nothing.
use Rattle.std.specs.Prelude.{◌≡◌, refl}
use Rattle.crosstab.specs.Cards.{Laws}
use Rattle.crosstab.specs.Kinds.{periods_of, empty_periods, joined_periods}
use Rattle.crosstab.specs.declared.period_card.PeriodCard.{PeriodCard}
use Rattle.crosstab.specs.Stopping.{Four, Fit, fit_once, same_made, laws_by_amounts}

abbrev amounts : PeriodCard → Four
amounts x = (x.peak, x.half_peak, x.saturday_half_peak, x.off_peak)

abbrev card_of : (t : Four) → Fit t → PeriodCard
card_of t f = periods_of t.0 t.1 t.2 t.3 f

pub same_periods : (x y : PeriodCard) → amounts x ≡ amounts y → x ≡ y
same_periods x y e = same_made Fit fit_once card_of e x.fits y.fits

pub period_laws : Laws empty_periods joined_periods
period_laws = laws_by_amounts amounts (λ x. x.fits) same_periods refl (λ x y. refl)
