use Rattle.step_files.proofs.lines.Laws.{tag-past, tag_read}
use Rattle.step_files.proofs.lines.tag_of.Goals as goal

pub returns-then-n-i : goal.returns-then-n-i
returns-then-n-i c = search tag-past

pub returns : goal.returns
returns c = search tag_read
