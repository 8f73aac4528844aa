use mathlib.Core.Path.{◌≡◌, refl}
use Rattle.std.proofs.lemmas.Iterator.{YieldsList-from_slice}
use Rattle.std.proofs.lemmas.Iterator.Adapters.{YieldsList-from_rev_slice}
use Rattle.cells.proofs.Cells.{same_from_eq}
use Rattle.sorts.proofs.list_sorts.same_reversed.Goals as goal

pub returns : goal.returns
returns c =
    same_from_eq (λ x y. y ≡ x) c.rev.result _ c.eq.ensures.ran (YieldsList-from_slice c.args.a.now (cc)) (λ it h. rw h (YieldsList-from_rev_slice c.args.b.now (cc))) (λ x y. refl)
