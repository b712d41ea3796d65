use Rattle.std.proofs.Common.{rules, sym}
use Rattle.comparison.proofs.division.PlaceDisplay.fmt.Goals as goal

pub returns-clause-writes : goal.returns-clause-writes
returns-clause-writes g c = rw (sym c.word-word.ensures) (search rules)
