-- Every reason to refuse a call, with its number. Assumes nothing.
use Rattle.std.specs.Prelude.{ℕ, List, ◌++◌, codes, decimal}
use Rattle.refusals.specs.declared.Refusal.{Refusal}
use Rattle.refusals.specs.declared.Refusal.TheVariants.{NoSuchBillingPeriod, WrongRecordLength, ReadingTooLarge, UnlikeLengths, AmountTooLarge, NoWeight, BufferTooShort, NoSuchLine}

abbrev pub number_of : Refusal → ℕ
number_of NoSuchBillingPeriod = 7
number_of WrongRecordLength = 10
number_of ReadingTooLarge = 12
number_of UnlikeLengths = 14
number_of AmountTooLarge = 15
number_of NoWeight = 16
number_of BufferTooShort = 17
number_of NoSuchLine = 18

-- How a refusal is printed.
abbrev pub printed : Refusal → List ℕ
printed refusal = codes "refusal " ++ decimal (number_of refusal)
