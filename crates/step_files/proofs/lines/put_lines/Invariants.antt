use Rattle.std.proofs.Common.{◌≡◌, ◌*◌}
use Rattle.answers.specs.Refusal.{answer_of_check}
use Rattle.pool.specs.Check.{Indexed}
use Rattle.step_files.specs.StepFile.{lines}
use Rattle.step_files.specs.Text.{LinePut}
use Rattle.step_files.proofs.lines.put_lines.Given as goal

abbrev pub invariant-loop-k : goal.invariant-loop-k
invariant-loop-k l =
    (l.pool.tags.now ≡ l.initial.pool.tags.now)
    × (l.pool.values.now ≡ l.initial.pool.values.now)
    × (l.pool.count ≡ l.initial.pool.count)
    × Indexed l.initial.pool.tags.now l.initial.pool.values.now l.initial.pool.count (answer_of_check l.checked) l.pool.index.now
    × LinePut (lines l.input l.table l.k) (44 * l.k) 0 l.initial.out l.at l.out
