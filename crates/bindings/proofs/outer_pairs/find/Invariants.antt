use Rattle.bindings.specs.BindingAnswer.{binding}
use Rattle.bindings.proofs.outer_pairs.Laws.{Seeking, naming}
use Rattle.bindings.proofs.outer_pairs.find.Given as goal

abbrev pub invariant-loop-next : goal.invariant-loop-next
invariant-loop-next l = Seeking l.prepared (binding l.pair) l.next

abbrev pub decreases-loop-next : goal.decreases-loop-next
decreases-loop-next l = naming l.next
