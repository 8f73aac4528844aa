use Rattle.step_files.proofs.answer_lines.Laws.{line-put}
use Rattle.step_files.proofs.answer_lines.put_line.Goals as goal

pub returns : goal.returns
returns c = search line-put
