use mathlib.Core.Path.{sym}
use Rattle.rules.proofs.check.check.Goals as goal

pub returns : goal.returns
returns c = rw (c.tags-1.given.1.1 (sym c.check_after.ensures.same_arrays.tags), c.values-1.given.1.1 (sym c.check_after.ensures.same_arrays.values)) c.check_after.ensures.step
