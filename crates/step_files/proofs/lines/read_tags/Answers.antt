use native.Mathlib.Omega.{arith}
use Rattle.step_files.proofs.lines.Laws.{tags_are}
use Rattle.step_files.proofs.lines.read_tags.Goals as goal

pub returns : goal.returns
returns c = tags_are _ _ _ _ _ c.requires.n_bound (omega arith) c.loop-i.invariant (omega arith)
