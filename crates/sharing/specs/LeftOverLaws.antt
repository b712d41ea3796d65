-- The left-over rule keeps the laws of a sharing rule. Assumes nothing.
use Rattle.std.specs.Prelude.{◌≡◌, ℕ, zero, suc, ◌+◌, ◌-◌, ◌*◌, ◌/◌, ◌%◌, ◌<◌, ◌≤◌, List, [], ◌∷◌, map, length, sum, ◌==◌, slice_index, slice_set, refl}
use Rattle.std.proofs.Common.{get_or, sym, ap, subst, ◌∙◌, inl, inr, add-mul, one-mul, mul-add, mul-zero, div-add-mod', mod-lt, mul_comm, le_of_mul-le-mul_right, suc-mul, arith, length-set}
use Rattle.std.proofs.Math.Nat.{zero-div, zero-mod, div-zero, mul-sub, eq-zero-or-pos}
use Rattle.std.proofs.Math.ListN.{get_or-map}
use Rattle.std.proofs.lemmas.List.{get_or_past, length-map, get_or-set_same, get_or-set_other}
use Rattle.std.proofs.lemmas.List.Sums.{sum_by-cons, sum_by-set}
use Rattle.std.proofs.lemmas.Bool.{cases_lt, cases_eq, cond-true, cond-false, eq-eqb, ne_eqb}
use Rattle.sharing.specs.Rule.{Laws}
use Rattle.sharing.specs.LeftOver.{whole_parts, remainders, units_left, peak, foremost, hand_out, left_over}
use Rattle.sharing.specs.Nearest.{laws_if_near}
use Rattle.sharing.specs.Peaks.{get_or-foremost, sum_none}

-- The whole parts and the remainders make up the amount.
pub parts_sum : (a t : ℕ) (ws : List ℕ) → sum (map (λ w. a * w / t) ws) * t + sum (map (λ w. a * w % t) ws) ≡ a * sum ws
parts_sum a t [] = omega (arith, mul-zero a)
parts_sum a t (w ∷ ws) =
    let p = sum_by-cons (λ x. x) (a * w / t) (map (λ v. a * v / t) ws) in
    let r = sum_by-cons (λ x. x) (a * w % t) (map (λ v. a * v % t) ws) in
    let pt = ap (λ s. s * t) p ∙ add-mul (a * w / t) (sum (map (λ v. a * v / t) ws)) t in
    let at = ap (λ s. a * s) (sum_by-cons (λ x. x) w ws) ∙ mul-add a w (sum ws) in
    omega (arith, pt, r, at, div-add-mod' (a * w) t, parts_sum a t ws)

parts_without : (a : ℕ) (ws : List ℕ) → sum (map (λ w. a * w / 0) ws) ≡ 0
parts_without a [] = refl
parts_without a (w ∷ ws) = omega (arith, sum_by-cons (λ x. x) (a * w / 0) (map (λ v. a * v / 0) ws), div-zero (a * w), parts_without a ws)

pub parts_le : (a : ℕ) (ws : List ℕ) → sum (whole_parts a ws) ≤ a
parts_le a ws =
    elim (eq-zero-or-pos (sum ws)) [
      | inl none ↦ omega (arith, ap (λ t. sum (map (λ w. a * w / t) ws)) none ∙ parts_without a ws)
      | inr h ↦ le_of_mul-le-mul_right {k = sum ws} (omega (arith, parts_sum a (sum ws) ws)) h
    ]

-- What holds of a place with weight w, share s and remainder r, where the weights come to t.
pub record Fair (a w t s r : ℕ) : Type 0 where
  pub over : s * t < a * w + t
  pub under : a * w < s * t + t
  pub exact : 0 < r → s * t + r ≡ a * w
  pub small : r < t

-- What holds while units are handed out.
pub record State (a : ℕ) (ws : List ℕ) (left : ℕ) (rests shares : List ℕ) : Type 0 where
  pub rests_alike : length rests ≡ length ws
  pub shares_alike : length shares ≡ length ws
  pub given : sum shares + left ≡ a
  pub enough : left * sum ws ≤ sum rests
  pub fair : (k : ℕ) → Fair a (slice_index ws k) (sum ws) (slice_index shares k) (slice_index rests k)

at_zero : (f : ℕ → ℕ) → f 0 ≡ 0 → (xs : List ℕ) (k : ℕ) → slice_index (map f xs) k ≡ f (slice_index xs k)
at_zero f e xs k = ap (λ d. get_or (map f xs) k d) (sym e) ∙ get_or-map f xs k 0

pub part_at : (a : ℕ) (ws : List ℕ) (k : ℕ) → slice_index (whole_parts a ws) k ≡ a * slice_index ws k / sum ws
part_at a ws k = at_zero (λ w. a * w / sum ws) (ap (λ p. p / sum ws) (mul-zero a) ∙ zero-div (sum ws)) ws k

pub rest_at : (a : ℕ) (ws : List ℕ) (k : ℕ) → slice_index (remainders a ws) k ≡ a * slice_index ws k % sum ws
rest_at a ws k = at_zero (λ w. a * w % sum ws) (ap (λ p. p % sum ws) (mul-zero a) ∙ zero-mod (sum ws)) ws k

fair_parts : (a w t : ℕ) → 0 < t → Fair a w t (a * w / t) (a * w % t)
fair_parts a w t h =
    let e = div-add-mod' (a * w) t in
    let l = mod-lt (a * w) h in
    record { over = omega arith; under = omega arith; exact = λ _. e; small = l }

pub start : (a : ℕ) (ws : List ℕ) → 0 < sum ws → State a ws (a - sum (whole_parts a ws)) (remainders a ws) (whole_parts a ws)
start a ws h = record {
  rests_alike = length-map ws (λ w. a * w % sum ws);
  shares_alike = length-map ws (λ w. a * w / sum ws);
  given = omega (arith, parts_le a ws);
  enough =
      omega (
        arith,
        parts_sum a (sum ws) ws,
        mul_comm (a - sum (whole_parts a ws)) (sum ws),
        mul-sub (sum ws) a (sum (whole_parts a ws)),
        mul_comm (sum ws) a,
        mul_comm (sum ws) (sum (whole_parts a ws)),
      );
  fair = λ k. rw (part_at a ws k, rest_at a ws k) (fair_parts a (slice_index ws k) (sum ws) h);
}

fair_served : (a w t s r : ℕ) → 0 < r → Fair a w t s r → Fair a w t (s + 1) 0
fair_served a w t s r some f =
    let e = f.exact some in
    record {
      over = omega (arith, add-mul s 1 t, one-mul t);
      under = omega (arith, add-mul s 1 t, one-mul t, f.small);
      exact = λ z. omega arith;
      small = omega (arith, f.small);
    }

-- While units are left, something remains at the foremost place.
pub some_rest : (a : ℕ) (ws : List ℕ) (left : ℕ) (rests shares : List ℕ) → 0 < sum ws → State a ws (suc left) rests shares → 0 < slice_index rests (foremost rests)
some_rest a ws left rests shares h st =
    elim (cases_eq (peak rests) 0) [
      | inl e ↦ omega (arith, sum_none rests e, st.enough, suc-mul left (sum ws))
      | inr ne ↦ omega (arith, get_or-foremost rests)
    ]

pub inside_if_some : (xs : List ℕ) (k : ℕ) → 0 < slice_index xs k → k < length xs
inside_if_some xs k some = elim (cases_lt k (length xs)) [ inl lt ↦ lt | inr past ↦ omega (arith, get_or_past xs k 0 past) ]

pub step : (a : ℕ) (ws : List ℕ) (left : ℕ) (rests shares : List ℕ) → 0 < sum ws → State a ws (suc left) rests shares →
    State a ws left (slice_set rests (foremost rests) 0) (slice_set shares (foremost rests) (slice_index shares (foremost rests) + 1))
step a ws left rests shares h st =
    let b = foremost rests in
    let some = some_rest a ws left rests shares h st in
    let inside = inside_if_some rests b some in
    let inside_shares : b < length shares = omega (arith, st.rests_alike, st.shares_alike) in
    record {
      rests_alike = length-set rests b 0 ∙ st.rests_alike;
      shares_alike = length-set shares b (slice_index shares b + 1) ∙ st.shares_alike;
      given = omega (arith, sum_by-set (λ x. x) shares b (slice_index shares b + 1) 0 inside_shares, st.given);
      enough = omega (arith, sum_by-set (λ x. x) rests b 0 0 inside, st.enough, suc-mul left (sum ws), (st.fair b).small);
      fair = λ k. elim (cases_eq k b) [
        | inl e ↦
            subst (λ j. Fair a (slice_index ws j) (sum ws) (slice_index (slice_set shares b (slice_index shares b + 1)) j) (slice_index (slice_set rests b 0) j)) (sym e)
            (rw (get_or-set_same shares b (slice_index shares b + 1) 0 inside_shares, get_or-set_same rests b 0 0 inside)
            (fair_served a (slice_index ws b) (sum ws) (slice_index shares b) (slice_index rests b) some (st.fair b)))
        | inr ne ↦ rw (get_or-set_other shares b k (slice_index shares b + 1) 0 ne, get_or-set_other rests b k 0 0 ne) (st.fair k)
      ];
    }

pub hand_out-length : (left : ℕ) (rests shares : List ℕ) → length (hand_out left rests shares) ≡ length shares
hand_out-length zero rests shares = refl
hand_out-length (suc left) rests shares = hand_out-length left _ _ ∙ length-set shares (foremost rests) (slice_index shares (foremost rests) + 1)

pub length_of_left_over : (a : ℕ) (ws : List ℕ) → length (left_over a ws) ≡ length ws
length_of_left_over a ws = hand_out-length (units_left a ws) (remainders a ws) (whole_parts a ws) ∙ length-map ws (λ w. a * w / sum ws)

record Done (a : ℕ) (ws shares : List ℕ) : Type 0 where
  alike : length shares ≡ length ws
  all : sum shares ≡ a
  over : (k : ℕ) → slice_index shares k * sum ws < a * slice_index ws k + sum ws
  under : (k : ℕ) → a * slice_index ws k < slice_index shares k * sum ws + sum ws

finish : (a : ℕ) (ws : List ℕ) (left : ℕ) (rests shares : List ℕ) → 0 < sum ws → State a ws left rests shares → Done a ws (hand_out left rests shares)
finish a ws zero rests shares h st = record {
  alike = st.shares_alike;
  all = omega (arith, st.given);
  over = λ k. (st.fair k).over;
  under = λ k. (st.fair k).under;
}
finish a ws (suc left) rests shares h st = finish a ws left _ _ h (step a ws left rests shares h st)

pub units_are : (a : ℕ) (ws : List ℕ) → 0 < sum ws → units_left a ws ≡ a - sum (whole_parts a ws)
units_are a ws h = cond-false (sum ws == 0) 0 (a - sum (whole_parts a ws)) (ne_eqb (sum ws) 0 (λ z. omega arith))

done : (a : ℕ) (ws : List ℕ) → 0 < sum ws → Done a ws (left_over a ws)
done a ws h =
    subst (λ n. Done a ws (hand_out n (remainders a ws) (whole_parts a ws))) (sym (units_are a ws h))
    (finish a ws (a - sum (whole_parts a ws)) (remainders a ws) (whole_parts a ws) h (start a ws h))

pub parts_without_weight : (a : ℕ) (ws : List ℕ) → sum ws ≡ 0 → left_over a ws ≡ whole_parts a ws
parts_without_weight a ws e =
    ap (λ n. hand_out n (remainders a ws) (whole_parts a ws)) (cond-true (sum ws == 0) 0 (a - sum (whole_parts a ws)) (eq-eqb (sum ws) 0 e))

pub left_over_laws : Laws left_over 1
left_over_laws = laws_if_near left_over (record {
  one_share_each = length_of_left_over;
  nothing_lost = λ a ws h. (done a ws h).all;
  no_weight = λ a ws e k.
      ap (λ xs. slice_index xs k) (parts_without_weight a ws e) ∙ part_at a ws k ∙ ap (λ t. a * slice_index ws k / t) e ∙ div-zero (a * slice_index ws k);
  not_over = λ a ws k h. (done a ws h).over k;
  not_under = λ a ws k h. (done a ws h).under k;
})
