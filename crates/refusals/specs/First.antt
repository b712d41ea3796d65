-- Which of several reasons decides. Assumes nothing.
use Rattle.std.specs.Prelude.{◌≡◌, ◌<◌, ◌≤◌, Bool, true, false, cond, ◌⊎◌, List, [], ◌∷◌, Ok, Err, Result}
use Rattle.refusals.specs.declared.Refusal.{Refusal}
use Rattle.refusals.specs.Numbers.{number_of}

-- A reason, and whether the call meets it.
pub record Reason : Type 0 where
  pub met : Bool
  pub refusal : Refusal

-- The value of a call that is served, or the first reason that is met.
abbrev pub first_met : {A : Type 0} → List Reason → A → Result A Refusal
first_met [] value = Ok value
first_met (reason ∷ rest) value = cond reason.met (Err reason.refusal) (first_met rest value)

-- Every reason of the list has the fact; some reason has it.
abbrev pub Each : (Reason → Type 0) → List Reason → Type 0
Each Fact [] = Unit {0}
Each Fact (reason ∷ rest) = Fact reason × Each Fact rest

abbrev pub SomeOf : (Reason → Type 0) → List Reason → Type 0
SomeOf Fact [] = ⊥
SomeOf Fact (reason ∷ rest) = Fact reason ⊎ SomeOf Fact rest

-- A call that meets no reason is served. Else it is refused by a reason that it meets, and by the smallest number of those.
abbrev pub Decides : {A : Type 0} → List Reason → Result A Refusal → Type 0
Decides reasons (Ok value) = Each (λ reason. reason.met ≡ false) reasons
Decides reasons (Err refusal) =
    SomeOf (λ reason. (reason.met ≡ true) × (reason.refusal ≡ refusal)) reasons
    × Each (λ reason. reason.met ≡ true → number_of refusal ≤ number_of reason.refusal) reasons

-- The numbers of the list rise from place to place.
abbrev pub Rising : List Reason → Type 0
Rising [] = Unit {0}
Rising (reason ∷ rest) = Each (λ later. number_of reason.refusal < number_of later.refusal) rest × Rising rest
