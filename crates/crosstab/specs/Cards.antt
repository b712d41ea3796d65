-- What a kind of card is, and what many cards come to. Assumes nothing.
use Rattle.std.specs.Prelude.{◌≡◌, List, [], ◌∷◌}

-- The laws of a kind's empty card and of its joining.
pub record Laws {C : Type 0} (empty : C) (joined : C → C → C) : Type 0 where
  pub empty_changes_nothing : (x : C) → joined empty x ≡ x
  pub either_way_round : (x y : C) → joined x y ≡ joined y x
  pub either_bracketing : (x y z : C) → joined (joined x y) z ≡ joined x (joined y z)

-- All cards of a list joined; of none, the empty card.
abbrev pub joined_all : {C : Type 0} → C → (C → C → C) → List C → C
joined_all empty joined [] = empty
joined_all empty joined (card ∷ cards) = joined card (joined_all empty joined cards)
