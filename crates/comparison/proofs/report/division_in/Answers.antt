use Rattle.std.proofs.Common.{Some, vec_items, sym, ap, ◌∙◌, subst}
use Rattle.std.proofs.lemmas.Slice.{first_rest}
use Rattle.std.specs.Option.{option_map}
use Rattle.comparison.specs.Report.{MadeAs, answer_of}
use Rattle.comparison.proofs.report.division_in.Goals as goal

pub returns : goal.returns
returns c =
    let parts = first_rest c.as_slice.result.now 0 c.in-len1-up.len_at_least in
    let all = ap Some c.as_slice.ensures.value ∙ ap (option_map vec_items) (sym c.in_ok-found.ensures.ok_part) ∙ c.in_ok-numbers.ensures.value in
    subst (λ numbers. MadeAs (λ division. (division.amount, division.places.items)) c.of.result (answer_of numbers)) (ap Some (sym parts) ∙ all) c.of.ensures
