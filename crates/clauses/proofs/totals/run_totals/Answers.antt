use Rattle.clauses.proofs.totals.Laws.{fold_start, fold_next}
use native.Mathlib.Omega.{arith}
use borrow.Author.Rules.{rules}
use Rattle.std.proofs.lemmas.Iterator.Adapters.{YieldsList-from_rev_slice}
use Rattle.std.proofs.lemmas.Iterator.Consumers.{YieldsList-turn}
use Rattle.std.proofs.lemmas.List.{length_push}
use Rattle.clauses.proofs.totals.run_totals.Goals as goal

pub loop-u-init : goal.loop-u-init
loop-u-init c = fold_start _ _ _ _ (omega arith) _ c.start-sum.ensures

pub loop-u-preserved : goal.loop-u-preserved
loop-u-preserved c =
    let t = YieldsList-turn (YieldsList-from_rev_slice c.args.run.now (search rules)) c.loop-u.yielded _ c.loop-u.yielded_by _ _ c.in-Some.u c.in-Some.is c.next.ensures.steps in
    fold_next _ _ _ _ _ c.loop-u.invariant _ t _ c.noted.ensures _ c.combine-sum.ensures _ (length_push c.loop-u.yielded c.in-Some.u)
