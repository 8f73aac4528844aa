use native.Mathlib.Omega.{arith}
use Rattle.step_files.proofs.words.Words.{words_are}
use Rattle.step_files.proofs.words.read_words.Goals as goal

pub returns : goal.returns
returns c = words_are _ _ _ _ (omega arith) (λ j h. c.loop-i.invariant j (omega arith))
