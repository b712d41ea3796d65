-- The lines of a text: what stands before each newline, and what stands after the last one where that is not empty. Assumes nothing.
use Rattle.std.specs.Prelude.{◌≡◌, ℕ, cond, ◌⊎◌, List, [], ◌∷◌, ◌++◌, ◌==◌, ◌≢◌}

-- One byte more before the first line.
abbrev pub onto : ℕ → List (List ℕ) → List (List ℕ)
onto b [] = (b ∷ []) ∷ []
onto b (line ∷ rest) = (b ∷ line) ∷ rest

abbrev pub lines_of : List ℕ → List (List ℕ)
lines_of [] = []
lines_of (b ∷ bs) = cond (b == 10) ([] ∷ lines_of bs) (onto b (lines_of bs))

-- Lines with a newline after each.
abbrev pub ended : List (List ℕ) → List ℕ
ended [] = []
ended (line ∷ rest) = line ++ 10 ∷ ended rest

abbrev pub WithoutNewline : List ℕ → Type 0
WithoutNewline [] = Unit {0}
WithoutNewline (b ∷ bs) = (b ≢ 10) × WithoutNewline bs

abbrev pub EachWithoutNewline : List (List ℕ) → Type 0
EachWithoutNewline [] = Unit {0}
EachWithoutNewline (line ∷ rest) = WithoutNewline line × EachWithoutNewline rest

-- The lines have all bytes of the text, in order: ended by newlines they are the text, or the text and the newline that it lacks.
pub record CutIntoLines (text : List ℕ) (lines : List (List ℕ)) : Type 0 where
  pub no_newline_inside : EachWithoutNewline lines
  pub nothing_lost : (ended lines ≡ text) ⊎ (ended lines ≡ text ++ 10 ∷ [])
