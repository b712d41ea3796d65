-- A line is read as numbers just where it is how those numbers are written. Assumes nothing.
use Rattle.std.proofs.Common.{◌≡◌, ℕ, ◌+◌, ◌^◌, ◌<◌, true, false, eqb, List, [], ◌∷◌, ◌++◌, map, length, get_or, drop, Some, None, decimal, Option, sym, refl, ap, ◌∙◌, arith}
use Rattle.lines.specs.Cuts.{before, after, pieces}
use Rattle.lines.specs.Decimals.{and_then, number_in}
use Rattle.lines.specs.Numbers.{each_number, numbers_in, written, Writes}
use Rattle.lines.proofs.Decimals.{own, number_written, number_back}
use Rattle.std.proofs.lemmas.Fmt.{digits_decimal}
use Rattle.std.proofs.lemmas.Str.Parse.{not_in_digits}
use Rattle.std.proofs.lemmas.Bool.{and_parts, ne_eqb}
use Rattle.std.proofs.lemmas.Bool.Decides.{nat_tests}
use Rattle.std.proofs.lemmas.List.{get_or_default, length-map}
use Rattle.std.proofs.lemmas.List.Splits.{slice_split_none, slice_split_at, length-slice_split, join_with_byte-slice_split}
use Rattle.std.proofs.lemmas.Grind.{common_steps}
use Rattle.std.specs.Option.{option_map}
use Rattle.std.specs.Char.{is_ascii_digit}
use Rattle.std.specs.List.{All, AllByRecursion, join_with_byte}
use Rattle.std.specs.Str.{all_ascii_digits}

-- the numbers that have been read, with those of the pieces that are left
abbrev pub numbers_on : List ℕ → List (List ℕ) → Option (List ℕ)
numbers_on found left = option_map (λ ns. found ++ ns) (each_number left)

one_more_written : (p : List ℕ) (ps : List (List ℕ)) (first : Option ℕ) (others : Option (List ℕ)) (ns : List ℕ) → ((n : ℕ) → first ≡ Some n → (n < 2 ^ 32) × (p ≡ decimal n))
    → ((ms : List ℕ) → others ≡ Some ms → AllByRecursion (λ n. n < 2 ^ 32) ms × (ps ≡ map decimal ms)) → and_then first (λ n. option_map (λ ns. n ∷ ns) others) ≡ Some ns
    → AllByRecursion (λ n. n < 2 ^ 32) ns × (p ∷ ps ≡ map decimal ns)
one_more_written p ps first others ns is are e = grind (arith, common_steps)

-- the numbers in some pieces are those that the pieces write
each_written : (ps : List (List ℕ)) (ns : List ℕ) → each_number ps ≡ Some ns → AllByRecursion (λ n. n < 2 ^ 32) ns × (ps ≡ map decimal ns)
each_written [] [] e = (tt, refl)
each_written [] (n ∷ ns) e = absurd (grind arith)
each_written (p ∷ ps) ns e = one_more_written p ps (number_in p) (each_number ps) ns (number_written p) (each_written ps) e

each_back : (ns : List ℕ) → AllByRecursion (λ n. n < 2 ^ 32) ns → each_number (map decimal ns) ≡ Some ns
each_back [] small = refl
each_back (n ∷ ns) small = let e = number_back n small.0 in let es = each_back ns small.1 in cc

-- a digit is no blank
no_blank : (n : ℕ) → n < 2 ^ 32 → All (λ b. eqb b 32 ≡ false) (decimal n)
no_blank n h k d l =
    let e = not_in_digits own (decimal n) 32 (digits_decimal own n (omega arith)) (λ r. omega (arith, r)) k l in
    let z = get_or_default (decimal n) k d 0 l in grind (arith, nat_tests)

-- a cut at a blank passes over digits
digits_pass : (ds text : List ℕ) → all_ascii_digits ds ≡ true → (before 32 (ds ++ text) ≡ ds ++ before 32 text) × (after 32 (ds ++ text) ≡ after 32 text)
digits_pass [] text d = (refl, refl)
digits_pass (b ∷ ds) text d =
    let p = and_parts (is_ascii_digit b) (all_ascii_digits ds) d in
    let t = ne_eqb b 32 (λ e. grind (arith, nat_tests)) in
    let r = digits_pass ds text p.1 in
    (rw t (ap (λ l. b ∷ l) r.0), rw t r.1)

-- the pieces of numbers that are written are each number, written
pieces_written : (n : ℕ) (ns : List ℕ) → AllByRecursion (λ n. n < 2 ^ 32) (n ∷ ns) → pieces 32 (written (n ∷ ns)) ≡ map decimal (n ∷ ns)
pieces_written n [] small = slice_split_none (λ b. eqb b 32) (decimal n) (no_blank n small.0)
pieces_written n (m ∷ ns) small =
    slice_split_at (λ b. eqb b 32) (decimal n) 32 (written (m ∷ ns)) (no_blank n small.0) refl ∙ ap (λ ps. decimal n ∷ ps) (pieces_written m ns small.1)

-- a turn of the loop: a number, no number, and no more pieces
pub line_more : (found : List ℕ) (ps : List (List ℕ)) (i : ℕ) (piece : List ℕ) (n : ℕ) → (i < length ps) × (piece ≡ get_or ps i piece) → number_in piece ≡ Some n → numbers_on (found ++ n ∷ []) (drop (i + 1) ps) ≡ numbers_on found (drop i ps)
line_more found ps i piece n here is = grind (arith, common_steps)

pub line_stops : (found : List ℕ) (ps : List (List ℕ)) (i : ℕ) (piece : List ℕ) → (i < length ps) × (piece ≡ get_or ps i piece) → number_in piece ≡ None → numbers_on found (drop i ps) ≡ None
line_stops found ps i piece here is = grind (arith, common_steps)

pub line_ends : (found : List ℕ) (ps : List (List ℕ)) (i : ℕ) → i ≡ length ps → numbers_on found (drop i ps) ≡ Some found
line_ends found ps i all = grind (arith, common_steps)

-- what is read is how the numbers are written
numbers_written : (ns line : List ℕ) → numbers_in line ≡ Some ns → Writes ns line
numbers_written ns line e =
    let w = each_written (pieces 32 line) ns e in
    (omega (arith, ap length w.1, length-slice_split (λ b. eqb b 32) line, length-map ns decimal), w.0, sym (join_with_byte-slice_split 32 line) ∙ ap (join_with_byte 32) w.1)

-- how numbers are written is read as those numbers
numbers_back : (ns : List ℕ) → 0 < length ns → AllByRecursion (λ n. n < 2 ^ 32) ns → numbers_in (written ns) ≡ Some ns
numbers_back [] some small = absurd (omega arith)
numbers_back (n ∷ ns) some small = ap each_number (pieces_written n ns small) ∙ each_back (n ∷ ns) small

-- both, of an answer
pub numbers_just : (line : List ℕ) (o : Option (List ℕ)) → o ≡ numbers_in line → (ns : List ℕ) → (o ≡ Some ns → Writes ns line) × (Writes ns line → o ≡ Some ns)
numbers_just line o is ns =
    (λ e. numbers_written ns line (sym is ∙ e), λ w. is ∙ ap numbers_in w.2 ∙ numbers_back ns w.0 w.1)
