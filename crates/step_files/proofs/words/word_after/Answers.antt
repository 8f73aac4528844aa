use native.Mathlib.Omega.{arith}
use Rattle.step_files.proofs.words.Words.{word-past}
use Rattle.step_files.proofs.words.word_after.Goals as goal

pub returns-then-bytes-start : goal.returns-then-bytes-start
returns-then-bytes-start c = word-past _ _ (omega arith)

pub returns-then-bytes-start-2 : goal.returns-then-bytes-start-2
returns-then-bytes-start-2 c = word-past _ _ (omega arith)
