use Rattle.std.specs.Prelude.{◌≡◌, None}
use Rattle.cells.specs.Cell.{is_at}
use Rattle.descriptions.specs.Index.{head_of, on_chain}
use Rattle.descriptions.proofs.index.first_in.Given as goal

abbrev pub invariant-loop-q : goal.invariant-loop-q
invariant-loop-q l = on_chain l.index (λ q. is_at l.pool.tags.now l.pool.values.now q l.tag l.cells) (head_of l.index l.b) None ≡ on_chain l.index (λ q. is_at l.pool.tags.now l.pool.values.now q l.tag l.cells) l.c l.last

abbrev pub decreases-loop-q : goal.decreases-loop-q
decreases-loop-q l = l.c
