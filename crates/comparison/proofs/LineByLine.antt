-- A text by its first line and the rest. Assumes nothing.
use Rattle.std.proofs.Common.{◌≡◌, ℕ, ◌+◌, ◌<◌, ◌≤◌, Bool, true, false, cond, eqb, List, [], ◌∷◌, ◌++◌, length, Some, unwrap_or, sym, refl, ap, ◌∙◌, inl, inr, arith}
use Rattle.std.proofs.lemmas.Bool.{cases_eq, eq-eqb, ne_eqb}
use Rattle.lines.specs.Cuts.{before, after}
use Rattle.comparison.specs.Lines.{onto, lines_of, EachWithoutNewline, CutIntoLines}

-- A byte more in front, by whether it is a newline.
byte_more : (b : ℕ) (bs : List ℕ) (newline : Bool) → onto b (lines_of bs) ≡ (b ∷ before 10 bs) ∷ lines_of (unwrap_or (after 10 bs) []) →
    cond newline ([] ∷ lines_of bs) (onto b (lines_of bs)) ≡ cond newline [] (b ∷ before 10 bs) ∷ lines_of (unwrap_or (cond newline (Some bs) (after 10 bs)) [])
byte_more b bs true more = refl
byte_more b bs false more = more

-- The first line of a text that is not empty, and the lines of what follows its newline.
pub first_line : (b : ℕ) (bs : List ℕ) → lines_of (b ∷ bs) ≡ before 10 (b ∷ bs) ∷ lines_of (unwrap_or (after 10 (b ∷ bs)) [])
first_line b [] = byte_more b [] (eqb b 10) refl
first_line b (c ∷ cs) = byte_more b (c ∷ cs) (eqb b 10) (ap (onto b) (first_line c cs))

pub lines_step : (text : List ℕ) → 0 < length text → lines_of text ≡ before 10 text ∷ lines_of (unwrap_or (after 10 text) [])
lines_step [] some = absurd (omega arith)
lines_step (b ∷ bs) some = first_line b bs

-- A line has a byte at least.
few_more : (b : ℕ) (lines : List (List ℕ)) (n : ℕ) → length lines ≤ n → length (onto b lines) ≤ n + 1
few_more b [] n few = omega arith
few_more b (line ∷ rest) n few = omega arith

few_with : (b : ℕ) (lines : List (List ℕ)) (n : ℕ) (newline : Bool) → length lines ≤ n → length (cond newline ([] ∷ lines) (onto b lines)) ≤ n + 1
few_with b lines n true few = omega arith
few_with b lines n false few = few_more b lines n few

pub few_lines : (text : List ℕ) → length (lines_of text) ≤ length text
few_lines [] = omega arith
few_lines (b ∷ bs) = omega (arith, few_with b (lines_of bs) (length bs) (eqb b 10) (few_lines bs))

-- A byte more in front of a text, by whether it is a newline.
no_newline_more : (b : ℕ) (lines : List (List ℕ)) → (b ≡ 10 → ⊥) → EachWithoutNewline lines → EachWithoutNewline (onto b lines)
no_newline_more b [] other all = ((other, tt), tt)
no_newline_more b (line ∷ rest) other all = ((other, all.0), all.1)

newline_cut : (bs : List ℕ) → CutIntoLines bs (lines_of bs) → CutIntoLines (10 ∷ bs) ([] ∷ lines_of bs)
newline_cut bs cut = record {
  no_newline_inside = (tt, cut.no_newline_inside);
  nothing_lost = elim cut.nothing_lost [ inl e ↦ inl (ap (λ l. 10 ∷ l) e) | inr e ↦ inr (ap (λ l. 10 ∷ l) e) ];
}

byte_cut : (b : ℕ) (bs : List ℕ) (lines : List (List ℕ)) → (b ≡ 10 → ⊥) → (lines ≡ [] → bs ≡ []) → CutIntoLines bs lines → CutIntoLines (b ∷ bs) (onto b lines)
byte_cut b bs [] other none cut = record {
  no_newline_inside = ((other, tt), tt);
  nothing_lost = inr (ap (λ l. b ∷ l ++ 10 ∷ []) (sym (none refl)));
}
byte_cut b bs (line ∷ rest) other none cut = record {
  no_newline_inside = no_newline_more b (line ∷ rest) other cut.no_newline_inside;
  nothing_lost = elim cut.nothing_lost [ inl e ↦ inl (ap (λ l. b ∷ l) e) | inr e ↦ inr (ap (λ l. b ∷ l) e) ];
}

some_line : (text : List ℕ) → lines_of text ≡ [] → text ≡ []
some_line [] none = refl
some_line (b ∷ bs) none = let same = sym none ∙ first_line b bs in let z : ◌≡◌ {A = ℕ} 0 1 = cc in absurd (omega arith)

pub cut_into_lines : (text : List ℕ) → CutIntoLines text (lines_of text)
cut_into_lines [] = record { no_newline_inside = tt; nothing_lost = inl refl }
cut_into_lines (b ∷ bs) =
    elim (cases_eq b 10) [
      | inl e ↦ rw (eq-eqb b 10 e, e) (newline_cut bs (cut_into_lines bs))
      | inr ne ↦ rw (ne_eqb b 10 ne) (byte_cut b bs (lines_of bs) ne (some_line bs) (cut_into_lines bs))
    ]
