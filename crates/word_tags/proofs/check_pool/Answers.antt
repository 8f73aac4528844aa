use Rattle.std.proofs.Common.{rules, inl, inr}
use Rattle.tag_layouts.proofs.Exits.{pool-apart}
use Rattle.tag_layouts.proofs.Calls.{check-pool-call}
use Rattle.word_tags.proofs.check_pool.Goals as goal

pub returns : goal.returns
returns c =
    elim c.read.ensures [
      | inl u ↦ pool-apart _ _ _ u.1 u.0 _ _
      | inr w ↦ check-pool-call _ _ w.bytes w.same w.k w.into _ _ _ (let (p, q) = w.answers.shows in let m = w.answers.called in search rules)
    ]
