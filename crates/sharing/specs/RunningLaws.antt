-- The running-total rule keeps the laws of a sharing rule. Assumes nothing.
use Rattle.std.specs.Prelude.{◌≡◌, ℕ, zero, suc, ◌+◌, ◌-◌, ◌*◌, ◌/◌, ◌<◌, ◌≤◌, List, length, take, sum, slice_index}
use Rattle.std.proofs.Common.{sym, ap, subst, ◌∙◌, inl, inr, mul-add, mul-zero, mul_comm, div-mul-le_self, mul-div_cancel, add-one, arith, mul-le-mul_left, take_all}
use Rattle.std.proofs.Math.Nat.{mul-sub, lt-div-mul-add, div-zero, zero-div}
use Rattle.std.proofs.lemmas.Nat.{le-div}
use Rattle.std.proofs.lemmas.List.FromFn.{length-map-range_with_len, get_or-map-range_with_len}
use Rattle.std.proofs.lemmas.List.{get_or_past}
use Rattle.std.proofs.lemmas.List.Sums.{sum_by_more}
use Rattle.std.proofs.lemmas.Bool.{cases_lt}
use Rattle.sharing.specs.Rule.{Laws}
use Rattle.sharing.specs.RunningTotal.{together, running_share, running, ByRunningTotals}
use Rattle.sharing.specs.Nearest.{laws_if_near}

-- one weight more, also past the end
pub sum_more : (ws : List ℕ) (k : ℕ) → sum (take (k + 1) ws) ≡ sum (take k ws) + slice_index ws k
sum_more ws k =
    elim (cases_lt k (length ws)) [
      | inl h ↦ sum_by_more (λ x. x) ws k 0 h
      | inr h ↦ let h1 : length ws ≤ k + 1 = omega arith in
          let e = ap sum (take_all (k + 1) ws h1) in
          let f = ap sum (take_all k ws h) in
          omega (arith, e, f, get_or_past ws k 0 h)
    ]

-- a larger weight has no less of the amount
quotients_rise : (a b c w : ℕ) → b ≤ c → a * b / w ≤ a * c / w
quotients_rise a b c zero h = omega (arith, div-zero (a * b))
quotients_rise a b c (suc w) h =
    le-div (a * b / suc w) (a * c) (suc w) (omega arith) (omega (arith, div-mul-le_self (a * b) (suc w), mul-le-mul_left a h))

together_rises : (a : ℕ) (ws : List ℕ) (k : ℕ) → together a ws k ≤ together a ws (k + 1)
together_rises a ws k = quotients_rise a (sum (take k ws)) (sum (take (k + 1) ws)) (sum ws) (omega (arith, sum_more ws k))

pub length_of_running : (a : ℕ) (ws : List ℕ) → length (running a ws) ≡ length ws
length_of_running a ws = length-map-range_with_len (running_share a ws) 0 (length ws)

pub share_is : (a : ℕ) (ws : List ℕ) (k : ℕ) → slice_index (running a ws) k ≡ running_share a ws k
share_is a ws k =
    elim (cases_lt k (length ws)) [
      | inl h ↦ get_or-map-range_with_len (running_share a ws) 0 (length ws) k k 0 h (omega arith)
      | inr h ↦ let past : length (running a ws) ≤ k = omega (arith, length_of_running a ws) in
          let same : sum (take (k + 1) ws) ≡ sum (take k ws) = omega (arith, sum_more ws k, get_or_past ws k 0 h) in
          let even = ap (λ s. a * s / sum ws) same in
          omega (arith, get_or_past (running a ws) k 0 past, even)
    ]

-- the first shares come to what their places have together
pub by_running_totals : (a : ℕ) (ws : List ℕ) → ByRunningTotals a ws (running a ws)
by_running_totals a ws zero = sym (ap (λ p. p / sum ws) (mul-zero a) ∙ zero-div (sum ws))
by_running_totals a ws (suc n) =
    let step : sum (take (n + 1) (running a ws)) ≡ together a ws (n + 1) =
    omega (arith, sum_more (running a ws) n, share_is a ws n, by_running_totals a ws n, together_rises a ws n)
    in subst (λ m. sum (take m (running a ws)) ≡ together a ws m) (add-one n) step

-- What a weight x more raises the whole part by is less than one unit from a * x / w.
near : (a b x w : ℕ) → 0 < w → ((a * (b + x) / w - a * b / w) * w < a * x + w) × (a * x < (a * (b + x) / w - a * b / w) * w + w)
near a b x w h =
    let q = a * (b + x) / w in
    let p = a * b / w in
    let apart = mul_comm (q - p) w ∙ mul-sub w q p in
    let q_turned = mul_comm w q in
    let p_turned = mul_comm w p in
    let product = mul-add a b x in
    let q_whole = div-mul-le_self (a * (b + x)) w in
    let p_whole = div-mul-le_self (a * b) w in
    let q_rest = lt-div-mul-add {a = a * (b + x)} h in
    let p_rest = lt-div-mul-add {a = a * b} h in
    (omega arith, omega arith)

pub running_laws : Laws running 1
running_laws = laws_if_near running (record {
  one_share_each = length_of_running;
  nothing_lost = λ a ws h.
      sym (ap sum (take_all (length ws) (running a ws) (omega (arith, length_of_running a ws))))
      ∙ by_running_totals a ws (length ws)
      ∙ ap (λ part. a * sum part / sum ws) (take_all (length ws) ws (omega arith))
      ∙ mul-div_cancel a h;
  no_weight = λ a ws e k.
      let p = ap (λ s. a * sum (take (k + 1) ws) / s) e ∙ div-zero (a * sum (take (k + 1) ws)) in
      omega (arith, share_is a ws k, p);
  not_over = λ a ws k h.
      rw (share_is a ws k, sum_more ws k) (near a (sum (take k ws)) (slice_index ws k) (sum ws) h).0;
  not_under = λ a ws k h.
      rw (share_is a ws k, sum_more ws k) (near a (sum (take k ws)) (slice_index ws k) (sum ws) h).1;
})
