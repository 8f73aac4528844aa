use Rattle.std.proofs.Common.{◌≤◌, length}
use Rattle.calls.proofs.report.put_numbers.Given as goal

abbrev pub invariant-loop-number : goal.invariant-loop-number
invariant-loop-number g l = l.end ≤ length l.text
