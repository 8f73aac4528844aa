use mathlib.Core.Path.{◌∙◌}
use Rattle.clauses.proofs.clause_list.Laws.{wrote-ask, wrote-ends, wrote-small, wrote-next}
use Rattle.clauses.proofs.clause_list.ClauseLists.write_clauses.Goals as goal

pub push-requires : goal.push-requires
push-requires c = record {
  ask = wrote-ask _ _ _ _ _ _ _ _ c.requires.ask _ c.requires.total _ _ _ _ _ c.loop-k.invariant.wrote c.loop-k-test.true;
  ends-room = wrote-ends _ _ _ _ _ _ _ _ c.requires.ask _ c.requires.total _ _ _ _ _ c.loop-k.invariant.wrote c.loop-k-test.true;
  small = wrote-small _ _ _ _ _ _ _ _ c.requires.ask _ c.requires.total _ _ _ _ _ c.loop-k.invariant.wrote c.loop-k-test.true;
}

pub loop-k-preserved : goal.loop-k-preserved
loop-k-preserved c =
    let p = c.push.ensures.next in
    let same = c.loop-k.invariant.same in
    record {
      wrote = wrote-next _ _ _ _ _ _ _ _ c.requires.ask _ c.requires.total _ _ _ _ _ c.loop-k.invariant.wrote c.loop-k-test.true _ _ p.written _ p.end _ p.count;
      same = (c.push.ensures.same_arrays.0 ∙ same.0, c.push.ensures.same_arrays.1 ∙ same.1);
    }
