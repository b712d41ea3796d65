-- What the laws of a kind give of many cards joined. Assumes nothing.
use Rattle.std.proofs.Common.{◌≡◌, List, [], ◌∷◌, ◌++◌, map, sym, refl, ap, ◌∙◌}
use Rattle.std.specs.List.{fold}
use Rattle.crosstab.specs.Cards.{Laws, joined_all}

module _ {C : Type 0} {empty : C} {joined : C → C → C} (laws : Laws empty joined) where
  with_empty : (x : C) → joined x empty ≡ x
  with_empty x = laws.either_way_round x empty ∙ laws.empty_changes_nothing x

  pub joined_all-append : (xs ys : List C) → joined_all empty joined (xs ++ ys) ≡ joined (joined_all empty joined xs) (joined_all empty joined ys)
  joined_all-append [] ys = sym (laws.empty_changes_nothing (joined_all empty joined ys))
  joined_all-append (x ∷ xs) ys =
      ap (joined x) (joined_all-append xs ys) ∙ sym (laws.either_bracketing x (joined_all empty joined xs) (joined_all empty joined ys))

  -- Joined one after another, from a card on.
  joined_from : (card : C) (cards : List C) → fold joined card cards ≡ joined card (joined_all empty joined cards)
  joined_from card [] = sym (with_empty card)
  joined_from card (next ∷ rest) = joined_from (joined card next) rest ∙ laws.either_bracketing card next (joined_all empty joined rest)

  pub joined_by_fold : (cards : List C) → fold joined empty cards ≡ joined_all empty joined cards
  joined_by_fold cards = joined_from empty cards ∙ laws.empty_changes_nothing (joined_all empty joined cards)

  -- Four cards in two pairs, paired either way.
  two_by_two : (a b c d : C) → joined (joined a b) (joined c d) ≡ joined (joined a c) (joined b d)
  two_by_two a b c d =
      cc (laws.either_bracketing a b (joined c d), laws.either_bracketing b c d, laws.either_way_round b c, laws.either_bracketing c b d, laws.either_bracketing a c (joined b d))

  empty_for_each : {K : Type 0} (ks : List K) → joined_all empty joined (map (λ (k : K). empty) ks) ≡ empty
  empty_for_each [] = refl
  empty_for_each (k ∷ ks) = laws.empty_changes_nothing _ ∙ empty_for_each ks

  -- Two cards for each, joined pair by pair or all the first and then all the second.
  two_for_each : {K : Type 0} (f g : K → C) (ks : List K) → joined_all empty joined (map (λ k. joined (f k) (g k)) ks) ≡ joined (joined_all empty joined (map f ks)) (joined_all empty joined (map g ks))
  two_for_each f g [] = sym (with_empty empty)
  two_for_each f g (k ∷ ks) =
      ap (joined (joined (f k) (g k))) (two_for_each f g ks) ∙ two_by_two (f k) (g k) (joined_all empty joined (map f ks)) (joined_all empty joined (map g ks))

  -- Row by row, or column by column.
  pub either_order : {R K : Type 0} (f : R → K → C) (rs : List R) (ks : List K) → joined_all empty joined (map (λ r. joined_all empty joined (map (λ k. f r k) ks)) rs) ≡ joined_all empty joined (map (λ k. joined_all empty joined (map (λ r. f r k) rs)) ks)
  either_order f [] ks = sym (empty_for_each ks)
  either_order f (r ∷ rs) ks =
      ap (joined (joined_all empty joined (map (λ k. f r k) ks))) (either_order f rs ks)
      ∙ sym (two_for_each (λ k. f r k) (λ k. joined_all empty joined (map (λ r'. f r' k) rs)) ks)
