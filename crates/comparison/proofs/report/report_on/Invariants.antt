use Rattle.std.proofs.Common.{◌≡◌, ◌+◌, ◌++◌, length, string_bytes}
use Rattle.comparison.specs.Lines.{lines_of}
use Rattle.comparison.specs.Report.{report_from, report_text}
use Rattle.comparison.proofs.report.report_on.Given as goal

-- What is written and the report on the rest make up the report, and all lines are counted.
abbrev pub invariant-loop-line : goal.invariant-loop-line
invariant-loop-line l =
    (goal.iterator-loop-line).can_next l.line-iterator
    × (goal.iterator-loop-line).is_finite l.line-iterator
    × (string_bytes l.report.text ++ report_from l.report.lines (lines_of l.line-iterator.left.now) ≡ report_text l.input)
    × (l.report.lines + length (lines_of l.line-iterator.left.now) ≡ length (lines_of l.input))
