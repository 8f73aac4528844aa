use lib.Seq.{take_all, length-take-le}
use native.Mathlib.Omega.{arith}
use mathlib.Core.Path.{sym}
use Rattle.free_pairs.proofs.free_masks.group.Goals as goal

pub returns-then-list-lt-GROUP : goal.returns-then-list-lt-GROUP
returns-then-list-lt-GROUP c = sym (take_all 62 c.args.list.now (omega arith))

pub slice_bounds-result-end : goal.slice_bounds-result-end
slice_bounds-result-end c = sym (length-take-le 62 c.args.list.now (omega arith))
