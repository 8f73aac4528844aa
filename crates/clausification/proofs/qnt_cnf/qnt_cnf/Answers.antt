use Rattle.clausification.proofs.qnt_cnf.Laws.{leaves-cut}
use Rattle.clausification.proofs.qnt_cnf.qnt_cnf.Goals as goal

pub returns-clause-clausified : goal.returns-clause-clausified
returns-clause-clausified c = search leaves-cut
