-- A text cut at a mark, in the library's words, and the laws of such a cut. Assumes nothing.
use Rattle.std.proofs.Common.{◌≡◌, ℕ, ◌+◌, Bool, true, false, cond, eqb, ltb, not, suc, List, [], ◌∷◌, ◌++◌, length, take, drop, Some, None, Option, sym, refl, ap, ◌∙◌, ⊎_elim, arith}
use Rattle.std.specs.List.{before_first, onto_first, position, position_or_len}
use Rattle.std.specs.Option.{option_map}
use Rattle.std.proofs.lemmas.Bool.{eq-eqb, ne_eqb, cases_eq}
use Rattle.std.proofs.lemmas.Grind.{common_steps}
use Rattle.lines.specs.Cuts.{before, after, pieces}

-- one byte more in front, by whether it is the mark
before_step : (here : Bool) (b n : ℕ) (bs : List ℕ) → cond here [] (b ∷ take n bs) ≡ take (cond (not here) (1 + n) 0) (b ∷ bs)
before_step true b n bs = refl
before_step false b n bs = let e : suc n ≡ 1 + n = omega arith in ap (λ size. take size (b ∷ bs)) e

after_step : (here : Bool) (b n size : ℕ) (bs : List ℕ) → let place = cond (not here) (1 + n) 0 in
    cond here (Some bs) (option_map (λ i. drop (i + 1) bs) (cond (ltb n size) (Some n) None)) ≡ option_map (λ i. drop (i + 1) (b ∷ bs)) (cond (ltb place (suc size)) (Some place) None)
after_step here b n size bs = grind (arith, common_steps)

pub before_is : (mark : ℕ) (text : List ℕ) → before mark text ≡ before_first (λ b. eqb b mark) text
before_is mark [] = refl
before_is mark (b ∷ bs) = ap (λ l. cond (eqb b mark) [] (b ∷ l)) (before_is mark bs) ∙ before_step (eqb b mark) b (position_or_len (λ b. eqb b mark) bs) bs

pub after_is : (mark : ℕ) (text : List ℕ) → after mark text ≡ option_map (λ i. drop (i + 1) text) (position (λ b. eqb b mark) text)
after_is mark [] = refl
after_is mark (b ∷ bs) =
    ap (λ o. cond (eqb b mark) (Some bs) o) (after_is mark bs) ∙ after_step (eqb b mark) b (position_or_len (λ b. eqb b mark) bs) (length bs) bs

pub ruleset cuts = (common_steps, before_is, after_is)

-- the pieces of what is left, where anything is
abbrev pub pieces_left : ℕ → Option (List ℕ) → List (List ℕ)
pieces_left mark None = []
pieces_left mark (Some text) = pieces mark text

-- the first piece is what stands before the first mark, and the others are those of what stands after it
pub pieces_step : (mark : ℕ) (text : List ℕ) → pieces mark text ≡ before mark text ∷ pieces_left mark (after mark text)
pieces_step mark [] = refl
pieces_step mark (b ∷ bs) =
    ⊎_elim
    (λ e. rw (eq-eqb b mark e))
    (λ e. rw (ne_eqb b mark e) (ap (onto_first b) (pieces_step mark bs)))
    (cases_eq b mark)

-- the mark and what stands after it, where it stands
abbrev pub from_mark : ℕ → Option (List ℕ) → List ℕ
from_mark mark None = []
from_mark mark (Some text) = mark ∷ text

-- a cut loses nothing
pub cut_joined : (mark : ℕ) (text : List ℕ) → before mark text ++ from_mark mark (after mark text) ≡ text
cut_joined mark [] = refl
cut_joined mark (b ∷ bs) =
    ⊎_elim
    (λ e. rw (eq-eqb b mark e) (ap (λ m. m ∷ bs) (sym e)))
    (λ e. rw (ne_eqb b mark e) (ap (λ l. b ∷ l) (cut_joined mark bs)))
    (cases_eq b mark)
