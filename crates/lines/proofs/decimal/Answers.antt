use Rattle.std.proofs.Common.{rules}
use Rattle.lines.proofs.Decimals.{number_just}
use Rattle.lines.proofs.decimal.Goals as goal

pub returns-then-starts_plain-clause-writes : goal.returns-then-starts_plain-clause-writes
returns-then-starts_plain-clause-writes c = number_just _ _ (search rules)

pub returns-else-starts_plain-clause-writes : goal.returns-else-starts_plain-clause-writes
returns-else-starts_plain-clause-writes c = number_just _ _ (search rules)
