use Rattle.bindings.specs.BindingAnswer.{pairs_left}
use Rattle.quantifier_rules.proofs.qnt_join.Joining.{StillFollows}
use Rattle.quantifier_rules.proofs.qnt_join.along_list.Given as goal

abbrev pub invariant-loop-pair : goal.invariant-loop-pair
invariant-loop-pair l = StillFollows l.list l.right l.j (pairs_left l.pair-iterator) l.k
