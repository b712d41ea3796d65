-- What one unit more changes, and what handing out the units that are left comes to. Assumes nothing.
use Rattle.std.proofs.Common.{◌≡◌, ◌==◌, ℕ, suc, ◌+◌, ◌-◌, ◌<◌, ◌≤◌, List, length, get_or, set, sum, sym, ap, ◌∙◌, inl, inr, arith}
use Rattle.std.proofs.Math.Nat.{eq-zero-or-pos}
use Rattle.std.proofs.lemmas.List.{set_past, length-set}
use Rattle.std.proofs.lemmas.List.Sums.{sum_by-set, get_or-le-sum_by}
use Rattle.std.proofs.lemmas.Bool.{cases_lt, cond-true, eq-eqb}
use Rattle.sharing.specs.LeftOver.{whole_parts, remainders, units_left, foremost, hand_out, left_over}
use Rattle.sharing.specs.LeftOverLaws.{units_are}

pub sum_of_one_more : (xs : List ℕ) (k : ℕ) → sum (set xs k (get_or xs k 0 + 1)) ≤ sum xs + 1
sum_of_one_more xs k =
    elim (cases_lt k (length xs)) [
      | inl inside ↦ omega (arith, sum_by-set (λ x. x) xs k (get_or xs k 0 + 1) 0 inside)
      | inr past ↦ omega (arith, ap sum (set_past xs k (get_or xs k 0 + 1) past))
    ]

-- One unit handed out, as the code does it.
pub hand_out_next : (n m : ℕ) (rests shares rests_after shares_after : List ℕ) (b : ℕ) → n ≡ suc m → b ≡ foremost rests →
    rests_after ≡ set rests b 0 → shares_after ≡ set shares b (get_or shares b 0 + 1) → hand_out m rests_after shares_after ≡ hand_out n rests shares
hand_out_next n m rests shares rests_after shares_after b e f r s =
    let there = ap (λ j. hand_out m (set rests j 0) (set shares j (get_or shares j 0 + 1))) f in
    let next : hand_out (suc m) rests shares ≡ hand_out n rests shares = ap (λ k. hand_out k rests shares) (sym e) in
    ap (λ xs. hand_out m xs shares_after) r ∙ ap (λ xs. hand_out m (set rests b 0) xs) s ∙ there ∙ next

-- The list as the code comes to it, where there is no amount without weight.
pub left_over_is : (a : ℕ) (ws : List ℕ) (given : ℕ) (rests shares : List ℕ) → (sum ws ≡ 0 → a ≡ 0) → given ≡ sum (whole_parts a ws) → rests ≡ remainders a ws → shares ≡ whole_parts a ws →
    hand_out (a - given) rests shares ≡ left_over a ws
left_over_is a ws given rests shares nothing e f g =
    let u : a - sum (whole_parts a ws) ≡ units_left a ws = elim (eq-zero-or-pos (sum ws)) [
      | inl none ↦ omega (arith, nothing none, cond-true (sum ws == 0) 0 (a - sum (whole_parts a ws)) (eq-eqb (sum ws) 0 none))
      | inr h ↦ sym (units_are a ws h)
    ] in cc

-- a read of one number, and a write to one
pub ruleset unit_steps = (length-set, get_or-le-sum_by)
