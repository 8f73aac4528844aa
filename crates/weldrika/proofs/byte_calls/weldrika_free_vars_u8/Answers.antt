use Rattle.weldrika.proofs.byte_calls.weldrika_free_vars_u8.Goals as goal

pub returns : goal.returns
returns c = rw c.put_answer.ensures c.free_vars-a.ensures
