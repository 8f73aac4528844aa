use Rattle.weldrika.proofs.word_calls.weldrika_free_vars_u32.Goals as goal

pub returns : goal.returns
returns c = rw c.put_answer.ensures c.free_vars-a.ensures
