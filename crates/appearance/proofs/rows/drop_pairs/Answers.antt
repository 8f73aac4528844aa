use borrow.Author.Rules.{rules}
use Prim.Native.Nat.{◌+◌}
use Rattle.appearance.proofs.rows.Dropping.{drop-one, drop-end}
use Rattle.appearance.proofs.rows.drop_pairs.Goals as goal
use Rattle.appearance.proofs.rows.drop_pairs.Goals.{in-Some, in_default}

pub loop-i-preserved : goal.loop-i-preserved
loop-i-preserved c = elim c.match-variable_of.branch [ in-Some w ↦ rw w.table-is (search (drop-one, rules)) | in_default w ↦ search rules ]

pub returns-after-variable_of : goal.returns-after-variable_of
returns-after-variable_of c = drop-end _ _ _ _ _ _ _ _ (c.loop-i.i + 2) (elim c.match-variable_of.branch [ in-Some w ↦ rw w.table-is (search (drop-one, rules)) | in_default w ↦ search rules ])
