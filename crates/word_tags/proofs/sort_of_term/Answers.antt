use Rattle.std.proofs.Common.{rules, inl, inr}
use Rattle.tag_layouts.proofs.Exits.{sort-apart}
use Rattle.tag_layouts.proofs.Calls.{sort-call}
use Rattle.word_tags.proofs.sort_of_term.Goals as goal

pub returns : goal.returns
returns c =
    elim c.read.ensures [
      | inl u ↦ sort-apart _ _ _ u.1 u.0 _ _ _
      | inr w ↦ sort-call _ _ w.bytes w.same w.k w.into _ _ _ _ (let (p, q) = w.answers.shows in let m = w.answers.called in search rules)
    ]
