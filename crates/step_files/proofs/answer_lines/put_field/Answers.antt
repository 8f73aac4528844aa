use Rattle.step_files.proofs.answer_lines.Laws.{field_put}
use Rattle.step_files.proofs.answer_lines.put_field.Goals as goal

pub returns : goal.returns
returns c = search field_put
