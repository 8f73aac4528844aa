use mathlib.Core.Path.{refl}
use Rattle.cells.specs.TermTag.{is_term_tag}
use Rattle.cells.proofs.tags.is_term_tag.Goals as goal

pub returns : goal.returns
unfolding is_term_tag
returns c = refl
