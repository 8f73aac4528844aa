use Rattle.weldrika.proofs.files.weldrika_answer_file.Goals as goal

pub returns : goal.returns
returns c = rw (← c.built_in-table.ensures) c.answer_file.ensures
