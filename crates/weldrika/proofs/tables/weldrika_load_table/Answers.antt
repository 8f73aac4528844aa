use Rattle.weldrika.proofs.tables.weldrika_load_table.Goals as goal

pub returns : goal.returns
returns c = rw c.put_answer.ensures c.load-a.ensures
