-- Figures of quarter records. Assumes nothing.
use Rattle.std.specs.Prelude.{◌≡◌, ℕ, List, [], ◌∷◌, ◌++◌, map, replicate, Some, None, Ok, Err, Option, Result}
use Rattle.std.specs.List.{range_with_len}
use Rattle.refusals.specs.declared.Refusal.{Refusal}
use Rattle.refusals.specs.declared.Refusal.TheVariants.{WrongRecordLength, ReadingTooLarge, BufferTooShort}
use Rattle.refusals.specs.First.{first_met}
use Rattle.records.specs.Reading.{length_in_front, limit, readings_in, read_reasons}
use Rattle.records.specs.Writing.{written, write_reasons}

-- So many meters without a reading.
abbrev pub missing : ℕ → List (Option ℕ)
missing meters = replicate meters None

-- Generator 0 has 1,000 units, loads 0 and 1 have 300 units each.
abbrev pub example : List (Option ℕ)
example = (Some 1000 ∷ missing 7) ++ (Some 300 ∷ Some 300 ∷ missing 14)

abbrev pub example_bytes : List ℕ
example_bytes = 1 ∷ 3 ∷ 0 ∷ 0 ∷ 0 ∷ 3 ∷ 232 ∷ 0 ∷ 0 ∷ 1 ∷ 44 ∷ 0 ∷ 0 ∷ 1 ∷ 44 ∷ []

-- One generator, or one load, has a reading.
abbrev pub last_generator : ℕ → List (Option ℕ)
last_generator reading = missing 7 ++ (Some reading ∷ missing 16)

abbrev pub first_load : ℕ → List (Option ℕ)
first_load reading = missing 8 ++ (Some reading ∷ missing 15)

abbrev pub last_load : ℕ → List (Option ℕ)
last_load reading = missing 23 ++ (Some reading ∷ [])

-- What is answered to a record, and to readings and a buffer of so many bytes.
abbrev pub reading_of : List ℕ → Result (List (Option ℕ)) Refusal
reading_of bytes = first_met (read_reasons bytes) (readings_in bytes)

abbrev pub writing_of : List (Option ℕ) → ℕ → Result (Unit {0}) Refusal
writing_of readings room = first_met (write_reasons readings room) tt

pub record RecordFigures : Type 0 where
  pub written_example : written example ≡ example_bytes
  pub read_example : reading_of example_bytes ≡ Ok example
  pub nothing_present : written (missing 24) ≡ 0 ∷ 0 ∷ 0 ∷ []
  -- the places at the ends of the map's bytes, and a reading with a digit in each byte
  pub last_generator_written : written (last_generator 0) ≡ 128 ∷ 0 ∷ 0 ∷ 0 ∷ 0 ∷ 0 ∷ 0 ∷ []
  pub first_load_written : written (first_load 66051) ≡ 0 ∷ 1 ∷ 0 ∷ 0 ∷ 1 ∷ 2 ∷ 3 ∷ []
  pub last_load_written : written (last_load 1) ≡ 0 ∷ 0 ∷ 128 ∷ 0 ∷ 0 ∷ 0 ∷ 1 ∷ []
  -- the lengths
  pub length_of_example : length_in_front example_bytes ≡ Some 15
  pub longest : length_in_front (255 ∷ 255 ∷ 255 ∷ []) ≡ Some 99
  pub no_length : length_in_front (255 ∷ 255 ∷ []) ≡ None
  pub no_bytes : reading_of [] ≡ Err WrongRecordLength
  pub byte_too_few : reading_of (1 ∷ 0 ∷ 0 ∷ 0 ∷ 0 ∷ 0 ∷ []) ≡ Err WrongRecordLength
  pub byte_too_many : reading_of (0 ∷ 0 ∷ 0 ∷ 0 ∷ []) ≡ Err WrongRecordLength
  -- the limits of the 24 meters, and readings at them: 999,999 is 15, 66, 63 and 78,125 is 1, 49, 45 in bytes
  pub limits : map limit (range_with_len 0 24) ≡ replicate 8 999999 ++ replicate 16 78125
  pub largest_of_generator : reading_of (128 ∷ 0 ∷ 0 ∷ 0 ∷ 15 ∷ 66 ∷ 63 ∷ []) ≡ Ok (last_generator 999999)
  pub too_large_of_generator : reading_of (128 ∷ 0 ∷ 0 ∷ 0 ∷ 15 ∷ 66 ∷ 64 ∷ []) ≡ Err ReadingTooLarge
  pub largest_of_load : reading_of (0 ∷ 1 ∷ 0 ∷ 0 ∷ 1 ∷ 49 ∷ 45 ∷ []) ≡ Ok (first_load 78125)
  pub too_large_of_load : reading_of (0 ∷ 1 ∷ 0 ∷ 0 ∷ 1 ∷ 49 ∷ 46 ∷ []) ≡ Err ReadingTooLarge
  -- the length is checked before the readings, and the readings before the buffer
  pub too_long_and_too_large : reading_of (0 ∷ 1 ∷ 0 ∷ 0 ∷ 1 ∷ 49 ∷ 46 ∷ 0 ∷ []) ≡ Err WrongRecordLength
  pub room_enough : writing_of example 15 ≡ Ok tt
  pub room_too_little : writing_of example 14 ≡ Err BufferTooShort
  pub too_large_and_room_too_little : writing_of (last_load 78126) 0 ≡ Err ReadingTooLarge
