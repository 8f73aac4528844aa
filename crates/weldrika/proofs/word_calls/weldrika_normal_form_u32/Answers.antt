use Rattle.weldrika.proofs.word_calls.weldrika_normal_form_u32.Goals as goal

pub returns : goal.returns
returns c = rw c.put_answer.ensures c.normal_form-a.ensures
