use native.Mathlib.Omega.{arith}
use Rattle.step_files.specs.Words.{word_at}
use Rattle.step_files.proofs.words.Words.{word-past}
use Rattle.step_files.proofs.words.word.Goals as goal

pub returns-then-bytes-i : goal.returns-then-bytes-i
returns-then-bytes-i c = word-past _ _ (omega arith)

pub returns : goal.returns
unfolding word_at
returns c = omega arith
