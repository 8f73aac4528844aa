use borrow.Author.Tests.{eq-eqb, ne_eqb}
use Rattle.headers.specs.WellFormed.{pair_kind}
use Rattle.headers.proofs.well_formed.pair_kind.Goals as goal

pub returns-then-j-eq0 : goal.returns-then-j-eq0
unfolding pair_kind
returns-then-j-eq0 c = rw (eq-eqb _ _ c.if-j-eq0.true)

pub returns-then-j-eq1 : goal.returns-then-j-eq1
unfolding pair_kind
returns-then-j-eq1 c = rw (ne_eqb _ _ c.if-j-eq0.false, eq-eqb _ _ c.if-j-eq1.true)

pub returns-then-j-eq0-2 : goal.returns-then-j-eq0-2
unfolding pair_kind
returns-then-j-eq0-2 c = rw (ne_eqb _ _ c.if-j-eq0.false, ne_eqb _ _ c.if-j-eq1.false, eq-eqb _ _ c.if-j-eq0-2.true)

pub returns : goal.returns
unfolding pair_kind
returns c = rw (ne_eqb _ _ c.if-j-eq0.false, ne_eqb _ _ c.if-j-eq1.false, ne_eqb _ _ c.if-j-eq0-2.false)
