use Rattle.cells.specs.HeadersLeft.{headers_left}
use Rattle.descriptions.proofs.index.Entries.{Walking}
use Rattle.descriptions.proofs.index.first_repeat.Given as goal

abbrev pub invariant-loop-p : goal.invariant-loop-p
invariant-loop-p l = Walking l.pool.tags.now l.pool.values.now l.n l.index (headers_left l.p-iterator)
