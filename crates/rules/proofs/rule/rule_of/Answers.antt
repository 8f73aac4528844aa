use Rattle.rules.proofs.rule.Laws.{no-code}
use Rattle.rules.proofs.rule.rule_of.Goals as goal

pub returns-in_default : goal.returns-in_default
returns-in_default c = search no-code
