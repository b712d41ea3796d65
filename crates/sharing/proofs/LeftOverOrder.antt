-- The units that are left go by the remainders. Assumes nothing.
use Rattle.std.proofs.Common.{◌≡◌, ℕ, zero, suc, ◌+◌, ◌-◌, ◌<◌, ◌⊎◌, List, length, get_or, set, sum, sym, refl, ap, ◌∙◌, subst, inl, inr, arith}
use Rattle.std.proofs.lemmas.List.{get_or-set_other}
use Rattle.std.proofs.lemmas.Bool.{cases_eq}
use Rattle.std.proofs.lemmas.Grind.{common_steps}
use Rattle.sharing.specs.LeftOver.{whole_parts, remainders, foremost, hand_out, left_over, ByRemainders}
use Rattle.sharing.specs.LeftOverLaws.{State, start, step, some_rest, inside_if_some, units_are, part_at, rest_at, parts_le, parts_without_weight}
use Rattle.std.proofs.Math.Nat.{eq-zero-or-pos}
use Rattle.sharing.specs.Peaks.{get_or-foremost}
use Rattle.sharing.proofs.Foremost.{get_or-le_peak, foremost_first}

-- The place j goes before the place k, where ms are the remainders.
abbrev Before : List ℕ → ℕ → ℕ → Type 0
Before ms j k = (get_or ms k 0 < get_or ms j 0) ⊎ ((get_or ms k 0 ≡ get_or ms j 0) × (j < k))

-- While units are handed out, with the whole parts ps: what each place has, and who has a unit.
record Served (ps ms rests shares : List ℕ) (n : ℕ) : Type 0 where
  each : (k : ℕ) → ((get_or shares k 0 ≡ get_or ps k 0) × (get_or rests k 0 ≡ get_or ms k 0)) ⊎ ((get_or shares k 0 ≡ get_or ps k 0 + 1) × (get_or rests k 0 ≡ 0))
  order : (j k : ℕ) → k < n → get_or shares j 0 ≡ get_or ps j 0 + 1 → get_or shares k 0 ≡ get_or ps k 0 → Before ms j k

module _ (ps ms rests shares : List ℕ) (n : ℕ) (s : Served ps ms rests shares n) (some : 0 < get_or rests (foremost rests) 0) (inside : foremost rests < length shares) where
  -- the place that is served now had none
  fresh : (get_or shares (foremost rests) 0 ≡ get_or ps (foremost rests) 0) × (get_or rests (foremost rests) 0 ≡ get_or ms (foremost rests) 0)
  fresh = elim (s.each (foremost rests)) [ inl e ↦ e | inr e ↦ absurd (omega (arith, e.1)) ]

  goes_before : (k : ℕ) → (k ≡ foremost rests → ⊥) → get_or shares k 0 ≡ get_or ps k 0 → Before ms (foremost rests) k
  goes_before k ne none = let had = s.each k in grind (arith, fresh, get_or-le_peak rests k, get_or-foremost rests, foremost_first rests k)

  serve : Served ps ms (set rests (foremost rests) 0) (set shares (foremost rests) (get_or shares (foremost rests) 0 + 1)) n
  serve =
      let b = foremost rests in
      let at_rest = inside_if_some rests b some in
      record {
        each = λ k. elim (cases_eq k b) [
          | inl e ↦ inr (grind (arith, common_steps), grind (arith, common_steps))
          | inr ne ↦ rw (get_or-set_other shares b k (get_or shares b 0 + 1) 0 ne, get_or-set_other rests b k 0 0 ne) (s.each k)
        ];
        order = λ j k within more none. elim (cases_eq k b) [
          | inl e ↦ absurd (grind (arith, common_steps))
          | inr ne ↦
              let kept : get_or shares k 0 ≡ get_or ps k 0 = grind (arith, common_steps) in
              elim (cases_eq j b) [
                | inl e ↦ subst (λ x. Before ms x k) (sym e) (goes_before k ne kept)
                | inr nj ↦ s.order j k within (grind (arith, common_steps)) kept
              ]
        ];
      }

finish : (a : ℕ) (ws : List ℕ) (left : ℕ) (rests shares : List ℕ) → 0 < sum ws → State a ws left rests shares →
    Served (whole_parts a ws) (remainders a ws) rests shares (length ws) → ByRemainders a ws (hand_out left rests shares)
finish a ws zero rests shares h st s = record {
  part_or_one_more = λ k. elim (s.each k) [ inl e ↦ inl (e.0 ∙ part_at a ws k) | inr e ↦ inr (e.0 ∙ ap (λ x. x + 1) (part_at a ws k)) ];
  all_units = omega (arith, st.given);
  largest_first = λ j k within more none.
      rw (← rest_at a ws k, ← rest_at a ws j) (s.order j k within (more ∙ ap (λ x. x + 1) (sym (part_at a ws j))) (none ∙ sym (part_at a ws k)));
}
finish a ws (suc left) rests shares h st s =
    let some = some_rest a ws left rests shares h st in
    let inside : foremost rests < length shares = omega (arith, inside_if_some rests (foremost rests) some, st.rests_alike, st.shares_alike) in
    finish a ws left _ _ h (step a ws left rests shares h st) (serve (whole_parts a ws) (remainders a ws) rests shares (length ws) s some inside)

with_weight : (a : ℕ) (ws : List ℕ) → 0 < sum ws → ByRemainders a ws (left_over a ws)
with_weight a ws h =
    subst (λ n. ByRemainders a ws (hand_out n (remainders a ws) (whole_parts a ws))) (sym (units_are a ws h))
    (finish a ws (a - sum (whole_parts a ws)) (remainders a ws) (whole_parts a ws) h (start a ws h)
    (record { each = λ k. inl (refl, refl); order = λ j k within more none. absurd (omega (arith, more)) }))

without_weight : (a : ℕ) (ws : List ℕ) → sum ws ≡ 0 → a ≡ 0 → ByRemainders a ws (whole_parts a ws)
without_weight a ws none nothing = record {
  part_or_one_more = λ k. inl (part_at a ws k);
  all_units = omega (arith, parts_le a ws);
  largest_first = λ j k within more less. absurd (omega (arith, more, part_at a ws j));
}

pub by_remainders : (a : ℕ) (ws : List ℕ) → (sum ws ≡ 0 → a ≡ 0) → ByRemainders a ws (left_over a ws)
by_remainders a ws nothing =
    elim (eq-zero-or-pos (sum ws)) [
      | inl none ↦ subst (ByRemainders a ws) (sym (parts_without_weight a ws none)) (without_weight a ws none (nothing none))
      | inr h ↦ with_weight a ws h
    ]
