use Rattle.cells.specs.HeadersLeft.{headers_left}
use Rattle.descriptions.proofs.index.Walked.{Entered}
use Rattle.descriptions.proofs.index.enter_headers.Given as goal

abbrev pub invariant-loop-p : goal.invariant-loop-p
invariant-loop-p l = Entered l.pool.tags.now l.pool.values.now l.n l.index (headers_left l.p-iterator)
