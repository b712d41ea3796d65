-- A text is read as a number just where it is how that number is written. Assumes nothing.
use Rattle.std.proofs.Common.{◌≡◌, ℕ, ◌+◌, ◌-◌, ◌*◌, ◌^◌, ◌<◌, ◌≤◌, Bool, true, cond, eqb, ltb, not, ◌&&◌, ◌||◌, List, [], ◌∷◌, length, get_or, Some, None, decimal, Option, sym, refl, ap, ◌∙◌, arith, rules, lit<}
use Rattle.lines.specs.Decimals.{and_then, with_digit, digits_on, plain_start, number_in}
use Rattle.std.proofs.lemmas.Fmt.{decimal_nonempty, first_decimal, decimal_digit, digits_decimal, digits_value-decimal, decimal-digits_value}
use Rattle.std.proofs.lemmas.Str.Parse.{IsNumeralModel, numerals_by_fold, tells_all_ascii_digits}
use Rattle.std.proofs.lemmas.Bool.Decides.{nat_tests}
use Rattle.std.specs.Char.{is_ascii_digit}
use Rattle.std.specs.List.{fold}
use Rattle.std.specs.Str.{all_ascii_digits}

-- the value of digits with no upper bound, after the value of those before them
abbrev pub read_on : ℕ → List ℕ → ℕ
read_on v bs = fold (λ n b. n * 10 + (b - 48)) v bs

pub own : IsNumeralModel (λ ds. all_ascii_digits ds ≡ true) (read_on 0)
own = numerals_by_fold _ tells_all_ascii_digits read_on (search rules)

read_on-grows : (v : ℕ) (bs : List ℕ) → v ≤ read_on v bs
read_on-grows v [] = omega arith
read_on-grows v (b ∷ bs) = omega (arith, read_on-grows (v * 10 + (b - 48)) bs)

digits_step : (v b all : ℕ) (others : Bool) (more : ℕ → Option ℕ) → (v * 10 + (b - 48) < 2 ^ 32 → more (v * 10 + (b - 48)) ≡ cond (others && ltb all (2 ^ 32)) (Some all) None) → v * 10 + (b - 48) ≤ all →
    and_then (with_digit v b) more ≡ cond ((is_ascii_digit b && others) && ltb all (2 ^ 32)) (Some all) None
digits_step v b all others more h grows = grind (arith, nat_tests)

digits_is : (v : ℕ) (bs : List ℕ) → v < 2 ^ 32 → digits_on v bs ≡ cond (all_ascii_digits bs && ltb (read_on v bs) (2 ^ 32)) (Some (read_on v bs)) None
digits_is v [] h = grind (arith, nat_tests)
digits_is v (b ∷ bs) h =
    let more = v * 10 + (b - 48) in
    digits_step v b (read_on more bs) (all_ascii_digits bs) (λ w. digits_on w bs) (digits_is more bs) (read_on-grows more bs)

-- a text that is a number, with that number
number_is : (text : List ℕ) → number_in text ≡ cond (plain_start text && (all_ascii_digits text && ltb (read_on 0 text) (2 ^ 32))) (Some (read_on 0 text)) None
number_is text = let e = digits_is 0 text (lit< tt) in grind arith

plain_is : (ds : List ℕ) → plain_start ds ≡ (ltb 0 (length ds) && (ltb (length ds) 2 || not (eqb (get_or ds 0 0) 48)))
plain_is [] = refl
plain_is (b ∷ []) = grind (arith, nat_tests)
plain_is (b ∷ c ∷ bs) = grind (arith, nat_tests)

plain_decimal : (n : ℕ) → n < 2 ^ 32 → plain_start (decimal n) ≡ true
plain_decimal n h =
    let e = plain_is (decimal n) in
    let some = decimal_nonempty n (omega arith) in
    let first : 0 < n → 48 < get_or (decimal n) 0 0 = λ l. first_decimal n l (omega arith) in
    let zero : n < 10 → decimal n ≡ (48 + n) ∷ [] = decimal_digit n in grind (arith, nat_tests)

-- what is read is how the number is written
pub number_written : (text : List ℕ) (n : ℕ) → number_in text ≡ Some n → (n < 2 ^ 32) × (text ≡ decimal n)
number_written text n e =
    let is = number_is text in
    let plain = plain_is text in
    let back : all_ascii_digits text ≡ true → 0 < length text → (get_or text 0 0 ≡ 48 → length text ≡ 1) → read_on 0 text < 2 ^ 64 → decimal (read_on 0 text) ≡ text = decimal-digits_value own text in
    grind (arith, nat_tests)

-- how a number is written is read as that number
pub number_back : (n : ℕ) → n < 2 ^ 32 → number_in (decimal n) ≡ Some n
number_back n h =
    let v = digits_value-decimal own n (omega arith) in
    let d = digits_decimal own n (omega arith) in
    let p = plain_decimal n h in
    let e = number_is (decimal n) in grind (arith, nat_tests)

-- both, of an answer
pub number_just : (text : List ℕ) (o : Option ℕ) → o ≡ number_in text → (n : ℕ) → (o ≡ Some n → (n < 2 ^ 32) × (text ≡ decimal n)) × (n < 2 ^ 32 → text ≡ decimal n → o ≡ Some n)
number_just text o is n = (λ e. number_written text n (sym is ∙ e), λ h e. is ∙ ap number_in e ∙ number_back n h)
