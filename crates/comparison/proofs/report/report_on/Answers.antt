use Rattle.std.proofs.Common.{rules, length, ap, arith}
use Rattle.comparison.proofs.LineByLine.{few_lines, cut_into_lines}
use Rattle.comparison.proofs.report.report_on.Goals as goal

pub answer-requires : goal.answer-requires
answer-requires c =
    let next = ap length c.in-Some.ensures.steps in
    omega (arith, few_lines c.args.input.now, c.loop-line.invariant.3, next)

pub returns-clause-every_line : goal.returns-clause-every_line
returns-clause-every_line c = let cut = cut_into_lines c.args.input.now in search rules
