use borrow.Author.Tests.{eq-eqb, ne_eqb}
use Rattle.free_variables.specs.FreeMemo.{pair_kind_of}
use Rattle.free_variables.proofs.pair_kind.pair_kind_of.Goals as goal

pub returns-then-tag-eq-LET : goal.returns-then-tag-eq-LET
unfolding pair_kind_of
returns-then-tag-eq-LET c = rw (eq-eqb _ _ c.if-tag-eq-LET.true)

pub returns : goal.returns
unfolding pair_kind_of
returns c = rw (ne_eqb _ _ c.if-tag-eq-LET.false)
