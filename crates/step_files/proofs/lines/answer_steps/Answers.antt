use Rattle.step_files.proofs.lines.Laws.{made-ready}
use borrow.Author.Rules.{rules}
use Rattle.step_files.proofs.lines.answer_steps.Goals as goal

pub put_lines-requires : goal.put_lines-requires
put_lines-requires c = record { ready = search made-ready; indexed = search rules }
