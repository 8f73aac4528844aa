use borrow.Author.Rules.{rules}
use Rattle.weldrika.proofs.answer_array.Laws.{put_is}
use Rattle.weldrika.proofs.answer_array.put_answer.Goals as goal

pub returns : goal.returns
returns c = search (put_is, rules)
