-- What four stopping sums come to, when two cards are the same, and the laws that follow. Assumes nothing.
use Rattle.std.specs.Prelude.{◌≡◌, ℕ, ◌≤◌}
use Rattle.std.proofs.Common.{ap, subst, arith}
use Rattle.std.proofs.Props.{props}
use Rattle.crosstab.specs.Amounts.{largest, stopping_sum, AllFit}
use Rattle.crosstab.specs.Cards.{Laws}

abbrev pub Four : Type 0
Four = ℕ × ℕ × ℕ × ℕ

abbrev pub Fit : Four → Type 0
Fit t = AllFit t.0 t.1 t.2 t.3

abbrev pub sums : Four → Four → Four
sums s t = (stopping_sum s.0 t.0, stopping_sum s.1 t.1, stopping_sum s.2 t.2, stopping_sum s.3 t.3)

four : {a b c d e f g h : ℕ} → a ≡ e → b ≡ f → c ≡ g → d ≡ h → ◌≡◌ {A = Four} (a, b, c, d) (e, f, g, h)
four p q r s = λ i. (p i, q i, r i, s i)

nothing_to : (a : ℕ) → a ≤ largest → stopping_sum 0 a ≡ a
nothing_to a h = omega arith

round : (a b : ℕ) → stopping_sum a b ≡ stopping_sum b a
round a b = omega arith

brackets : (a b c : ℕ) → stopping_sum (stopping_sum a b) c ≡ stopping_sum a (stopping_sum b c)
brackets a b c = omega arith

pub sums_of_nothing : (t : Four) → Fit t → sums (0, 0, 0, 0) t ≡ t
sums_of_nothing t f = four (nothing_to _ f.0) (nothing_to _ f.1) (nothing_to _ f.2) (nothing_to _ f.3)

pub sums_round : (s t : Four) → sums s t ≡ sums t s
sums_round s t = four (round _ _) (round _ _) (round _ _) (round _ _)

pub sums_brackets : (s t u : Four) → sums (sums s t) u ≡ sums s (sums t u)
sums_brackets s t u = four (brackets _ t.0 _) (brackets _ t.1 _) (brackets _ t.2 _) (brackets _ t.3 _)

-- That amounts fit is said in one way only.
pub fit_once : (t : Four) → IsProp (Fit t)
fit_once t = hlevel props

-- What is made of equal parts and of a fact about them is equal, where the fact is said in one way only.
pub same_made : {A B : Type 0} (Fact : A → Type 0) → ((a : A) → IsProp (Fact a)) → (make : (a : A) → Fact a → B) → {a b : A} → a ≡ b → (f : Fact a) (g : Fact b) → make a f ≡ make b g
same_made Fact once make {a} e f g = subst (λ x. (h : Fact x) → make a f ≡ make x h) e (λ h. ap (make a) (once a f h)) g

-- A kind keeps the laws where four amounts tell each card, and a joining adds them by stopping sums.
pub laws_by_amounts : {C : Type 0} {empty : C} {joined : C → C → C} (amounts : C → Four) → ((x : C) → Fit (amounts x)) → ((x y : C) → amounts x ≡ amounts y → x ≡ y)
    → amounts empty ≡ (0, 0, 0, 0) → ((x y : C) → amounts (joined x y) ≡ sums (amounts x) (amounts y)) → Laws empty joined
laws_by_amounts {empty = empty} {joined = joined} amounts fits same none both = record {
  empty_changes_nothing = λ x. same _ _ (cc (both empty x, none, sums_of_nothing (amounts x) (fits x)));
  either_way_round = λ x y. same _ _ (cc (both x y, both y x, sums_round (amounts x) (amounts y)));
  either_bracketing = λ x y z. same _ _ (cc (both x y, both y z, both (joined x y) z, both x (joined y z), sums_brackets (amounts x) (amounts y) (amounts z)));
}
