use mathlib.Core.Path.{◌≡◌, refl}
use Rattle.std.proofs.Common.{rules}
use Rattle.std.proofs.lemmas.Iterator.{YieldsList-from_slice, YieldsList-from_map}
use Rattle.std.proofs.lemmas.Iterator.Consumers.{YieldsList-from_copied}
use Rattle.cells.specs.Cell.{sort_of}
use Rattle.cells.proofs.Cells.{same_from_eq}
use Rattle.sorts.proofs.list_sorts.same_sorts.Goals as goal

pub returns : goal.returns
returns c =
    same_from_eq (λ x y. y ≡ x) c.map-sorts.result _ c.eq.ensures.ran (YieldsList-from_copied (YieldsList-from_slice c.args.cells.now (cc)))
    (λ it h. rw h (YieldsList-from_map _ (sort_of c.args.pool.now.values.now) (YieldsList-from_slice c.args.os.now (cc)) c.map-sorts.ensures.closure (λ x r q k. search rules))) (λ x y. refl)
