use mathlib.Core.Path.{◌≡◌, refl}
use Rattle.std.proofs.Common.{rules}
use Rattle.std.proofs.lemmas.Iterator.{YieldsList-from_slice}
use Rattle.std.proofs.lemmas.Iterator.Adapters.{YieldsList-from_skip}
use Rattle.cells.proofs.Cells.{same_from_eq}
use Rattle.sorts.proofs.list_sorts.Laws.{pair_sorts_from_step_by}
use Rattle.sorts.proofs.list_sorts.same_pair_sorts.Goals as goal

pub returns : goal.returns
returns c =
    same_from_eq (λ x y. y ≡ x) c.step_by.result _ c.eq.ensures.ran (YieldsList-from_slice c.args.cells.now (cc))
    (λ it h. rw h (pair_sorts_from_step_by c.args.pairs.now (YieldsList-from_skip 1 (YieldsList-from_slice c.args.pairs.now (cc)) (cc)) c.step_by.ensures.step_minus_one (search rules))) (λ x y. refl)
