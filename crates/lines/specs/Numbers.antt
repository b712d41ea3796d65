-- The numbers of a line, one blank between two. Assumes nothing.
use Rattle.std.specs.Prelude.{◌≡◌, ℕ, ◌^◌, ◌<◌, List, [], ◌∷◌, map, length, Some, decimal, Option}
use Rattle.lines.specs.Cuts.{pieces}
use Rattle.lines.specs.Decimals.{and_then, number_in}
use Rattle.std.specs.Option.{option_map}
use Rattle.std.specs.List.{AllByRecursion, join_with_byte}

-- the number in each text, unless one is no number
abbrev pub each_number : List (List ℕ) → Option (List ℕ)
each_number [] = Some []
each_number (p ∷ ps) = and_then (number_in p) (λ n. option_map (λ ns. n ∷ ns) (each_number ps))

abbrev pub numbers_in : List ℕ → Option (List ℕ)
numbers_in line = each_number (pieces 32 line)

-- the numbers as `{n}` writes them, one blank between two
abbrev pub written : List ℕ → List ℕ
written ns = join_with_byte 32 (map decimal ns)

-- line is how these numbers are written, which are some, each below 2 ^ 32
abbrev pub Writes : List ℕ → List ℕ → Type 0
Writes ns line = (0 < length ns) × AllByRecursion (λ n. n < 2 ^ 32) ns × (line ≡ written ns)
