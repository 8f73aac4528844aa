use Rattle.clausification.proofs.qnt_cnf.Follows.{comparison}
use Rattle.clausification.proofs.qnt_cnf.clause_follows.Goals as goal

pub returns-in-Some : goal.returns-in-Some
returns-in-Some c = search comparison

pub returns-then-not-any_clause : goal.returns-then-not-any_clause
returns-then-not-any_clause c = search comparison

pub returns-in-Some-first_missing : goal.returns-in-Some-first_missing
returns-in-Some-first_missing c = search comparison

pub returns-in-Some-first_taken : goal.returns-in-Some-first_taken
returns-in-Some-first_taken c = search comparison

pub returns : goal.returns
returns c = search comparison
