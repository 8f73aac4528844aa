use Rattle.weldrika.proofs.word_calls.weldrika_sort_of_term_u32.Goals as goal

pub returns : goal.returns
returns c = rw c.put_answer.ensures c.sort_of_term.ensures
