-- Where the numbers of the reasons rise, the first reason met has the smallest number of those met. Assumes nothing.
use Rattle.std.proofs.Common.{◌≡◌, ℕ, ◌<◌, Bool, true, false, cond, List, [], ◌∷◌, Ok, Err, Result, refl, inl, inr, arith}
use Rattle.refusals.specs.declared.Refusal.{Refusal}
use Rattle.refusals.specs.Numbers.{number_of}
use Rattle.refusals.specs.First.{Reason, first_met, Each, Decides, Rising}

each_from : (P Q : Reason → Type 0) → ((reason : Reason) → P reason → Q reason) → (reasons : List Reason) → Each P reasons → Each Q reasons
each_from P Q f [] all = tt
each_from P Q f (reason ∷ rest) all = (f reason all.0, each_from P Q f rest all.1)

-- What is decided over the later reasons is decided over all, where the first is not met.
later : {A : Type 0} (reason : Reason) (rest : List Reason) (r : Result A Refusal) → reason.met ≡ false → Decides rest r → Decides (reason ∷ rest) r
later reason rest (Ok value) unmet d = (unmet, d)
later reason rest (Err refusal) unmet d =
    (inr d.0, (λ met. let z : ◌≡◌ {A = ℕ} 0 1 = cc in absurd (omega arith), d.1))

here : (A : Type 0) (reason : Reason) (rest : List Reason) → reason.met ≡ true → Each (λ other. number_of reason.refusal < number_of other.refusal) rest → Decides {A = A} (reason ∷ rest) (Err reason.refusal)
here A reason rest met above = (inl (met, refl), (λ _. omega arith, each_from _ _ (λ other h _. omega arith) rest above))

by_first : {A : Type 0} (reason : Reason) (rest : List Reason) (r : Result A Refusal) → Rising (reason ∷ rest) → Decides rest r → (b : Bool) → reason.met ≡ b → Decides (reason ∷ rest) (cond b (Err reason.refusal) r)
by_first {A} reason rest r rising d true met = here A reason rest met rising.0
by_first reason rest r rising d false unmet = later reason rest r unmet d

pub first_decides : {A : Type 0} (reasons : List Reason) (value : A) → Rising reasons → Decides reasons (first_met reasons value)
first_decides [] value rising = tt
first_decides (reason ∷ rest) value rising =
    by_first reason rest (first_met rest value) rising (first_decides rest value rising.1) reason.met refl

-- A call that is served has its value.
value_past : {A : Type 0} (served value : A) (refusal : Refusal) (b : Bool) (r : Result A Refusal) → (Ok served ≡ r → served ≡ value) → Ok served ≡ cond b (Err refusal) r → served ≡ value
value_past served value refusal true r past e = let z : ◌≡◌ {A = ℕ} 0 1 = cc in absurd (omega arith)
value_past served value refusal false r past e = past e

pub served_value : {A : Type 0} (reasons : List Reason) (served value : A) → Ok served ≡ first_met reasons value → served ≡ value
served_value [] served value e = cc
served_value (reason ∷ rest) served value e =
    value_past served value reason.refusal reason.met (first_met rest value) (served_value rest served value) e

-- A call that is served with one value is served with any other.
with_past : {A B : Type 0} (a : A) (y : B) (refusal : Refusal) (b : Bool) (r : Result A Refusal) (s : Result B Refusal) → (Ok a ≡ r → Ok y ≡ s) → Ok a ≡ cond b (Err refusal) r → Ok y ≡ cond b (Err refusal) s
with_past a y refusal true r s past e = let z : ◌≡◌ {A = ℕ} 0 1 = cc in absurd (omega arith)
with_past a y refusal false r s past e = past e

pub served_with : {A B : Type 0} (reasons : List Reason) (a x : A) (y : B) → Ok a ≡ first_met reasons x → Ok y ≡ first_met reasons y
served_with [] a x y e = refl
served_with (reason ∷ rest) a x y e =
    with_past a y reason.refusal reason.met (first_met rest x) (first_met rest y) (served_with rest a x y) e
