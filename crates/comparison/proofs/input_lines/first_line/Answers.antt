use Rattle.std.proofs.Common.{◌≡◌, ℕ, List, [], ◌∷◌, Option, Some, None, Bor, unwrap_or, sym, refl, ap, ◌∙◌}
use Rattle.std.specs.Option.{option_map}
use Rattle.lines.specs.Cuts.{after}
use Rattle.comparison.specs.Lines.{lines_of}
use Rattle.comparison.proofs.LineByLine.{lines_step}
use Rattle.comparison.proofs.input_lines.first_line.Goals as goal

-- What follows the newline, where there may be nothing.
rest_is : (text : List ℕ) (rest : Option (Bor (List ℕ))) (none : Bor (List ℕ)) → none.now ≡ [] → option_map (λ x. x.now) rest ≡ after 10 text → (unwrap_or rest none).now ≡ unwrap_or (after 10 text) []
rest_is text None none empty e = empty ∙ ap (λ o. unwrap_or o []) e
rest_is text (Some left) none empty e = ap (λ o. unwrap_or o []) e

pub returns : goal.returns
returns c =
    let text = c.args.text.now in
    let rest = ap (λ x. x.now) c.unwrap_or.ensures ∙ rest_is text c.cut.result.1 _ refl c.cut.ensures.rest in
    lines_step text c.requires ∙ ap (λ line. line ∷ lines_of (unwrap_or (after 10 text) [])) (sym c.cut.ensures.front) ∙ ap (λ left. c.cut.result.0.now ∷ lines_of left) (sym rest)
