use Rattle.std.proofs.Common.{ℕ, ◌≡◌, ◌<◌, get_or}
use Rattle.tag_layouts.specs.Narrowed.{narrow}
use Rattle.step_files.specs.StepFile.{cells_from}
use Rattle.step_files.proofs.lines.read_tags.Given as goal

abbrev pub invariant-loop-i : goal.invariant-loop-i
invariant-loop-i l = (j : ℕ) → j < l.i → get_or l.tags j 0 ≡ narrow (get_or (cells_from l.input l.start l.n) j 0)
