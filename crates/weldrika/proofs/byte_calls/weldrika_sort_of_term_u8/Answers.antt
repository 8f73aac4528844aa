use Rattle.weldrika.proofs.byte_calls.weldrika_sort_of_term_u8.Goals as goal

pub returns : goal.returns
returns c = rw c.put_answer.ensures c.sort_of_term.ensures
