use Rattle.clauses.proofs.conjunctive_normal_form.Laws.{chooses}
use Rattle.clauses.proofs.conjunctive_normal_form.choose.Goals as goal

pub returns-then-left-here : goal.returns-then-left-here
returns-then-left-here c = search chooses

pub loop-u-preserved : goal.loop-u-preserved
loop-u-preserved c = search chooses

pub returns : goal.returns
returns c = search chooses
