use Rattle.free_variables.proofs.free_vars.Laws.{mark}
use Rattle.free_variables.proofs.free_vars.mark_of.Goals as goal

pub returns-then-n-v : goal.returns-then-n-v
returns-then-n-v c = search mark

pub returns-then-tag_at-ne-VARIABLE : goal.returns-then-tag_at-ne-VARIABLE
returns-then-tag_at-ne-VARIABLE c = search mark

pub returns-then-t-v : goal.returns-then-t-v
returns-then-t-v c = search mark

pub returns-then-is_free : goal.returns-then-is_free
returns-then-is_free c = search mark

pub returns : goal.returns
returns c = search mark
