use Rattle.weldrika.proofs.byte_calls.weldrika_clause_list_u8.Goals as goal

pub returns : goal.returns
returns c = rw c.put_answer.ensures c.clause_list-listed.ensures
