use Rattle.miniscoping.proofs.miniscope_split.Laws.{all_end, all-refused, all-next}
use Rattle.miniscoping.proofs.sides.Laws.{one-ended}
use Rattle.bindings.specs.Binding.{bindings_of}
use Rattle.bindings.specs.Used.{left_of}
use Rattle.formulas.specs.Formula.{is_forall}
use Rattle.miniscoping.proofs.miniscope_split.split_all.Goals as goal

pub loop-t-preserved : goal.loop-t-preserved
loop-t-preserved c = all-next _ _ _ (is_forall c.args.kind) (left_of c.loop-t.used (bindings_of c.args.outer.now)) _ _ c.loop-t.invariant _ _ _ _ c.in-Some.ensures.steps.0 c.in-Some.ensures.steps.1 (left_of c.split_one.new.used (bindings_of c.args.outer.now)) c.in_ok-split_one.ensures

pub returns-in_err-split_one : goal.returns-in_err-split_one
returns-in_err-split_one c = all-refused _ _ _ (is_forall c.args.kind) (left_of c.loop-t.used (bindings_of c.args.outer.now)) _ _ c.loop-t.invariant _ _ _ _ c.in-Some.ensures.steps.0 c.in-Some.ensures.steps.1 (left_of c.split_one.new.used (bindings_of c.args.outer.now)) _ c.in_err-split_one.ensures _ c.from_residual.ensures.1

pub returns : goal.returns
returns c = all_end _ _ _ _ _ _ _ c.loop-t.invariant (one-ended _ _ c.in-None.ensures.steps)
