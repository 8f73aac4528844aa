use Rattle.weldrika.proofs.word_calls.weldrika_check_u32.Goals as goal

pub returns : goal.returns
returns c = rw c.put_answer.ensures c.check-a.ensures
