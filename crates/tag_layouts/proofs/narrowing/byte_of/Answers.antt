use native.Mathlib.Omega.{arith}
use mathlib.Core.Path.{sym}
use Rattle.tag_layouts.proofs.Tags.{narrow-small, narrow-large}
use Rattle.tag_layouts.proofs.narrowing.byte_of.Goals as goal

pub returns-then-tag-gt-LAST_TAG : goal.returns-then-tag-gt-LAST_TAG
returns-then-tag-gt-LAST_TAG c = sym (narrow-large _ (omega arith))

pub returns-else-tag-gt-LAST_TAG : goal.returns-else-tag-gt-LAST_TAG
returns-else-tag-gt-LAST_TAG c = sym (narrow-small _ (omega arith))
