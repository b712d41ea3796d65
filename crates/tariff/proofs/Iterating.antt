-- A step taken so many times.
use denote.Param.Members.{Mut}
use Rattle.std.proofs.Common.{◌≡◌, ℕ, zero, suc, ◌+◌, List, [], ◌∷◌, length, refl, ap, ◌∙◌, arith}
use Rattle.std.specs.Fn.{iterate}
use Rattle.std.specs.Iterator.{ActsAsOnTwo, FoldsItems}
use Rattle.std.specs.List.{fold, range_with_len}
use Rattle.std.proofs.iter.Yields.{nat_range_steps}
use Rattle.std.proofs.lemmas.Iterator.{YieldsList-from_range}
use Rattle.std.proofs.lemmas.Iterator.Consumers.{fold_from_yields_List}
use Rattle.std.proofs.lemmas.List.FromFn.{length-range_with_len}

module _ {A : Type 0} (step : A → A) where
  pub iterate_add : (n m : ℕ) (x : A) → iterate step (n + m) x ≡ iterate step n (iterate step m x)
  iterate_add n zero x = let same : n + 0 ≡ n = omega arith in ap (λ k. iterate step k x) same
  iterate_add n (suc m) x =
      let later : n + suc m ≡ suc (n + m) = omega arith in
      ap (λ k. iterate step k x) later ∙ iterate_add n m (step x)

  pub iterate_more : (n : ℕ) (x : A) → iterate step (n + 1) x ≡ step (iterate step n x)
  iterate_more n x = let first : n + 1 ≡ 1 + n = omega arith in ap (λ k. iterate step k x) first ∙ iterate_add 1 n x

  fold_iterates : (xs : List ℕ) (x : A) → fold (λ y _. step y) x xs ≡ iterate step (length xs) x
  fold_iterates [] x = refl
  fold_iterates (n ∷ xs) x = fold_iterates xs (step x)

  -- `(0..n).fold(x, ..)` takes n steps from x, where each call takes one.
  pub range_iterates : {F : Type 0} (g : Mut F (A × (ℕ × Unit {0})) A) {f : F} (n : ℕ) (x r : A) →
      FoldsItems nat_range_steps g (record { start = 0; end = n }) f x r → ActsAsOnTwo g f (λ y _. step y) → r ≡ iterate step n x
  range_iterates g n x r ran acts =
      fold_from_yields_List g (λ y _. step y) x r ran (YieldsList-from_range 0 n n refl (omega arith)) acts
      ∙ fold_iterates (range_with_len 0 n) x
      ∙ ap (λ k. iterate step k x) (length-range_with_len 0 n)
