use Rattle.std.proofs.Common.{refl}
use lib.Count.{ones}
use Rattle.records.specs.Reading.{meters, readings_from, too_large_from}
use Rattle.records.specs.Writing.{sum_of_bits, fields}
use Rattle.figures.proofs.record_figures.Goals as goal

pub returns : goal.returns
unfolding ones meters readings_from too_large_from sum_of_bits fields
returns c = record {
  written_example = refl;
  read_example = refl;
  nothing_present = refl;
  last_generator_written = refl;
  first_load_written = refl;
  last_load_written = refl;
  length_of_example = refl;
  longest = refl;
  no_length = refl;
  no_bytes = refl;
  byte_too_few = refl;
  byte_too_many = refl;
  limits = refl;
  largest_of_generator = refl;
  too_large_of_generator = refl;
  largest_of_load = refl;
  too_large_of_load = refl;
  too_long_and_too_large = refl;
  room_enough = refl;
  room_too_little = refl;
  too_large_and_room_too_little = refl;
}
