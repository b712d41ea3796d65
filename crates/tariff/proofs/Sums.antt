-- A sum over the numbers of a range.
use denote.Param.Members.{Mut}
use Rattle.std.proofs.Common.{◌≡◌, ℕ, ◌+◌, ◌-◌, ◌*◌, ◌≤◌, map, sum, refl, sym, ap, ◌∙◌, arith}
use Rattle.std.specs.Iterator.{ActsAs}
use Rattle.std.specs.Iterator.Adapters.{map_source, map_callee}
use Rattle.std.specs.List.{range_with_len}
use Rattle.std.specs.declared.iter.Map.{Map}
use Rattle.std.specs.declared.ops.Range.{Range}
use Rattle.std.proofs.iter.Yields.{nat_range_steps}
use Rattle.std.proofs.lemmas.Iterator.{YieldsList, YieldsList-from_range, YieldsList-from_map, maps}
use Rattle.std.proofs.lemmas.Iterator.Consumers.{YieldsList-at}
use Rattle.std.proofs.lemmas.List.FromFn.{length-range_with_len, sum_by-map-range_with_len_more}
use Rattle.std.proofs.lemmas.List.Sums.{sum-map, sum_by-le}

-- What `(a..b).map(..)` gives, where each call computes f.
pub range_mapped : {F : Type 0} (g : Mut F (ℕ × Unit {0}) ℕ) (f : ℕ → ℕ) (a b : ℕ) {s : Map (Range ℕ) F} {callee : F} →
    map_source s ≡ record { start = a; end = b } → map_callee s ≡ callee → ActsAs g callee f →
    YieldsList (maps nat_range_steps g) (λ r. r) s (map f (range_with_len a (b - a)))
range_mapped g f a b source closure acts =
    YieldsList-from_map g f (YieldsList-at source (YieldsList-from_range a b (b - a) refl refl)) closure acts

module _ (f : ℕ → ℕ) where
  -- One number more at the end.
  pub sum_more : (a n more last : ℕ) → more ≡ n + 1 → last ≡ a + n → sum (map f (range_with_len a more)) ≡ sum (map f (range_with_len a n)) + f last
  sum_more a n more last e at =
      ap (λ k. sum (map f (range_with_len a k))) e ∙ sum_by-map-range_with_len_more (λ x. x) f a n last (sym at)

  -- Terms that are small have a small sum.
  pub sum_few : (m : ℕ) → ((k : ℕ) → f k ≤ m) → (a n : ℕ) → sum (map f (range_with_len a n)) ≤ n * m
  sum_few m few a n =
      let xs = range_with_len a n in
      let at_most = sum_by-le f m xs (λ k d within. few _) in
      let so_many = ap (λ k. k * m) (length-range_with_len a n) in
      omega (arith, at_most, so_many, sum-map f xs)
