-- What is known of a call that is served, whatever the rule. Assumes nothing.
use Rattle.std.proofs.Common.{◌≡◌, ℕ, List, length, replicate, IfOk, Result, Ok, Err, sum, sym, refl, ap, ◌∙◌, subst, mul-zero, inl, inr, arith}
use Rattle.std.proofs.Math.Nat.{eq-zero-or-pos}
use Rattle.std.proofs.lemmas.List.{ext_get_or, length-replicate, get_or-replicate}
use Rattle.std.proofs.lemmas.List.Folds.{sum_by-replicate}
use Rattle.std.proofs.lemmas.Bool.Decides.{nat_tests}
use Rattle.refusals.specs.declared.Refusal.{Refusal}
use Rattle.refusals.specs.First.{first_met}
use Rattle.refusals.proofs.FirstDecides.{served_value}
use Rattle.sharing.specs.Rule.{Laws, NearExact, Admitted, reasons}

pub admitted : {A : Type 0} (amount : ℕ) (weights : List ℕ) (places : ℕ) (r value : A) → Ok r ≡ first_met (reasons amount weights places) value → Admitted amount weights places (sum weights)
admitted amount weights places r value served = record {
  alike = grind (arith, nat_tests);
  few = grind (arith, nat_tests);
  amount_small = grind (arith, nat_tests);
  total_is = refl;
  total_small = grind (arith, nat_tests);
  nothing = λ z. grind (arith, nat_tests);
}

module _ {shares : ℕ → List ℕ → List ℕ} {tolerance : ℕ} (laws : Laws shares tolerance) (amount : ℕ) (weights : List ℕ) where
  -- Where there is no weight, the shares come to nothing.
  no_weight_no_sum : sum weights ≡ 0 → sum (shares amount weights) ≡ 0
  no_weight_no_sum none =
      let zeros : shares amount weights ≡ replicate (length weights) 0 =
      ext_get_or 0 (shares amount weights) (replicate (length weights) 0) (laws.one_share_each amount weights ∙ sym (length-replicate {A = ℕ} (length weights) 0))
      (λ k h. laws.no_weight amount weights none k ∙ sym (get_or-replicate {A = ℕ} (length weights) k 0 0 (omega (arith, laws.one_share_each amount weights))))
      in ap sum zeros ∙ sum_by-replicate (λ x. x) (length weights) 0 ∙ mul-zero (length weights)

  -- The shares of a call that is served add up to the amount.
  pub answered_whole : (places : ℕ) (r : Result (List ℕ) Refusal) → r ≡ first_met (reasons amount weights places) (shares amount weights) → IfOk r (λ given. sum given ≡ amount)
  answered_whole places (Ok given) answer =
      ap sum (served_value (reasons amount weights places) given (shares amount weights) answer)
      ∙ elim (eq-zero-or-pos (sum weights)) [
        | inl none ↦ no_weight_no_sum none ∙ sym ((admitted amount weights places given (shares amount weights) answer).nothing none)
        | inr some ↦ laws.nothing_lost amount weights some
      ]
  answered_whole places (Err refusal) answer = tt

  -- They are near the exact parts.
  pub answered_near : (places : ℕ) (r : Result (List ℕ) Refusal) → r ≡ first_met (reasons amount weights places) (shares amount weights) → IfOk r (NearExact tolerance amount weights)
  answered_near places (Ok given) answer =
      subst (NearExact tolerance amount weights) (sym (served_value (reasons amount weights places) given (shares amount weights) answer)) (record {
        nothing_for_nothing = laws.zero_gets_zero amount weights;
        within_the_weights = λ small k. laws.at_most_its_weight amount weights k small;
        not_above = λ some k. laws.not_over amount weights k some;
        not_below = λ some k. laws.not_under amount weights k some;
      })
  answered_near places (Err refusal) answer = tt
