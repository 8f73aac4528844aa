use borrow.Author.Tests.{eq-eqb, ne_eqb}
use Rattle.headers.proofs.well_formed.first_then.Goals as goal

pub returns-then-j-eq0 : goal.returns-then-j-eq0
returns-then-j-eq0 c = rw (eq-eqb _ _ c.if-j-eq0.true)

pub returns-else-j-eq0 : goal.returns-else-j-eq0
returns-else-j-eq0 c = rw (ne_eqb _ _ c.if-j-eq0.false)
