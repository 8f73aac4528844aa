use borrow.Author.Rules.{rules}
use native.Mathlib.Omega.{arith}
use mathlib.Core.Path.{refl}
use Rattle.building.proofs.terms.Cells.{pairs-none, pairs-all}
use Rattle.building.proofs.terms.gather_pairs.Goals as goal

pub returns-in_default : goal.returns-in_default
returns-in_default c = pairs-none _ _ _ c.requires.work_len c.in_default.len_below

pub returns : goal.returns
returns c = pairs-all _ _ _ c.requires.work_len c.requires.run_len_bound _ (search (rules, c.copy_cells.ensures)) _ _ refl (omega arith)
