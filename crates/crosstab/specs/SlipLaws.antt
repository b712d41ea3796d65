-- The laws of charge slips: a slip is told by its charges. Assumes nothing.
use Rattle.std.specs.Prelude.{◌≡◌, refl}
use Rattle.std.proofs.Common.{sym, ◌∙◌}
use Rattle.std.proofs.Props.{props}
use Rattle.crosstab.specs.Cards.{Laws}
use Rattle.crosstab.specs.Kinds.{slip_of, empty_slip, joined_slips}
use Rattle.crosstab.specs.declared.charge_slip.ChargeSlip.{ChargeSlip}
use Rattle.crosstab.specs.Stopping.{Four, Fit, fit_once, same_made, laws_by_amounts}

abbrev charges_of : ChargeSlip → Four
charges_of x = (x.charges.transmission, x.charges.distribution, x.charges.ancillary_service, x.charges.dispatch)

abbrev slip_with : (t : Four) → Fit t → ChargeSlip
slip_with t f = slip_of t.0 t.1 t.2 t.3 f

-- The mark is the one that the charges tell.
marked_by_charges : (x : ChargeSlip) → x ≡ slip_with (charges_of x) x.fits
marked_by_charges x =
    same_made (λ mark. mark ≡ (slip_with (charges_of x) x.fits).charged) (λ mark. hlevel props) (λ mark right. record { charges = x.charges; charged = mark; fits = x.fits; right_mark = right }) x.right_mark x.right_mark refl

pub same_slips : (x y : ChargeSlip) → charges_of x ≡ charges_of y → x ≡ y
same_slips x y e = marked_by_charges x ∙ same_made Fit fit_once slip_with e x.fits y.fits ∙ sym (marked_by_charges y)

pub slip_laws : Laws empty_slip joined_slips
slip_laws = laws_by_amounts charges_of (λ x. x.fits) same_slips refl (λ x y. refl)
