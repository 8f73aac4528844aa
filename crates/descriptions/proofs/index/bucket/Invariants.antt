use Rattle.descriptions.proofs.index.Laws.{Hashing}
use Rattle.descriptions.proofs.index.bucket.Given as goal

abbrev pub invariant-loop-x : goal.invariant-loop-x
invariant-loop-x l = Hashing l.tag l.cells l.h l.x-index
