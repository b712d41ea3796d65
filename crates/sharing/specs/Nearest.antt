-- Laws that follow from the others where the tolerance is 1. Assumes nothing.
use Rattle.std.specs.Prelude.{◌≡◌, ℕ, zero, suc, ◌+◌, ◌*◌, ◌<◌, ◌≤◌, List, length, sum, slice_index, refl}
use Rattle.std.proofs.Common.{ap, ◌∙◌, inl, inr, one-mul, mul-zero, mul-le-mul_right, mul_comm, add-mul, lt_of_mul-lt-mul_right, arith}
use Rattle.std.proofs.Math.Nat.{eq-zero-or-pos}
use Rattle.sharing.specs.Rule.{Laws}

-- A share that is less than one unit above its exact part is 0 at weight 0, and at most the weight where the amount is at most the sum.
zero_if_near : (s w a t : ℕ) → s * t < a * w + t → w ≡ 0 → s ≡ 0
zero_if_near zero w a t near none = refl
zero_if_near (suc s) w a t near none =
    let e : a * w ≡ 0 = ap (λ x. a * x) none ∙ mul-zero a in
    omega (arith, add-mul s 1 t, one-mul t, near)

at_most_if_near : (s w a t : ℕ) → s * t < a * w + t → a ≤ t → s ≤ w
at_most_if_near s w a t near small =
    let lt : s < w + 1 = lt_of_mul-lt-mul_right t (omega (arith, add-mul w 1 t, one-mul t, mul_comm w t, mul-le-mul_right w small, near)) in
    omega arith

pub record Near (shares : ℕ → List ℕ → List ℕ) : Type 0 where
  pub one_share_each : (amount : ℕ) (weights : List ℕ) → length (shares amount weights) ≡ length weights
  pub nothing_lost : (amount : ℕ) (weights : List ℕ) → 0 < sum weights → sum (shares amount weights) ≡ amount
  pub no_weight : (amount : ℕ) (weights : List ℕ) → sum weights ≡ 0 → (k : ℕ) → slice_index (shares amount weights) k ≡ 0
  pub not_over : (amount : ℕ) (weights : List ℕ) (k : ℕ) → 0 < sum weights → slice_index (shares amount weights) k * sum weights < amount * slice_index weights k + sum weights
  pub not_under : (amount : ℕ) (weights : List ℕ) (k : ℕ) → 0 < sum weights → amount * slice_index weights k < slice_index (shares amount weights) k * sum weights + sum weights

pub laws_if_near : (shares : ℕ → List ℕ → List ℕ) → Near shares → Laws shares 1
laws_if_near shares n = record {
  one_share_each = n.one_share_each;
  nothing_lost = n.nothing_lost;
  no_weight = n.no_weight;
  zero_gets_zero = λ a ws k none. elim (eq-zero-or-pos (sum ws)) [
    | inl e ↦ n.no_weight a ws e k
    | inr h ↦ zero_if_near (slice_index (shares a ws) k) (slice_index ws k) a (sum ws) (n.not_over a ws k h) none
  ];
  at_most_its_weight = λ a ws k small. elim (eq-zero-or-pos (sum ws)) [
    | inl e ↦ omega (arith, n.no_weight a ws e k)
    | inr h ↦ at_most_if_near (slice_index (shares a ws) k) (slice_index ws k) a (sum ws) (n.not_over a ws k h) small
  ];
  not_over = λ a ws k h. omega (arith, n.not_over a ws k h, one-mul (sum ws));
  not_under = λ a ws k h. omega (arith, n.not_under a ws k h, one-mul (sum ws));
  one_or_more = omega arith;
}
