use Rattle.quantifier_rules.proofs.qnt_join.Joining.{both-lists, joined-rest}
use Rattle.quantifier_rules.proofs.qnt_join.same_joined.Goals as goal

pub returns-in_default : goal.returns-in_default
returns-in_default c = search both-lists

pub returns-in_default-along_list : goal.returns-in_default-along_list
returns-in_default-along_list c = search both-lists

pub returns : goal.returns
returns c = rw c.saturating_sub.ensures (joined-rest _ _ _ _ c.along_list.ensures _ c.in-Some.is _ c.along_list-2.ensures _ c.in-Some-along_list.is)
