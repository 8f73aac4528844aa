use Rattle.std.proofs.Common.{rules, inl, inr}
use Rattle.tag_layouts.proofs.Calls.{free-vars-call}
use Rattle.word_tags.proofs.Refused.{free-unlike}
use Rattle.word_tags.proofs.free_vars.Goals as goal

pub returns : goal.returns
returns c =
    elim c.read.ensures [
      | inl u ↦ let same = u.2 in free-unlike u.1 u.0 (search rules)
      | inr w ↦ free-vars-call _ _ w.bytes w.same w.k w.into _ _ _ _ _ _ (let (p, q) = w.answers.shows in let m = w.answers.called.met in search rules)
    ]
