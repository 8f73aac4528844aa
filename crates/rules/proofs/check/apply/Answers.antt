use mathlib.Core.Path.{refl}
use native.Mathlib.Omega.{arith}
use Rattle.rules.specs.Step.{rule_outcome}
use Rattle.rules.proofs.check.Laws.{apply-other, apply-cnf, left-fits}
use Rattle.rules.proofs.check.apply.Goals as goal

pub miniscope_split-requires : goal.miniscope_split-requires
miniscope_split-requires c = rw (c.pool-source.ensures.tags, c.pool-source.ensures.values) (left-fits _ _ _ _ c.requires.checked_term)

pub returns-in-Cnf-clause-judged : goal.returns-in-Cnf-clause-judged
returns-in-Cnf-clause-judged c = rw c.in-Cnf.is (apply-cnf _ _ _ _ _ _ refl _ _ c.qnt_cnf.ensures.clausified)

pub returns-in-Join-clause-judged : goal.returns-in-Join-clause-judged
unfolding rule_outcome
returns-in-Join-clause-judged c = rw c.in-Join.is (apply-other _ _ _ _ _ _ (λ e. omega arith) (rw (c.pool-source.ensures.tags, c.pool-source.ensures.values) at c.qnt_join.ensures))

pub returns-in-RmUnused-clause-judged : goal.returns-in-RmUnused-clause-judged
unfolding rule_outcome
returns-in-RmUnused-clause-judged c = rw c.in-RmUnused.is (apply-other _ _ _ _ _ _ (λ e. omega arith) (rw (c.pool-source.ensures.tags, c.pool-source.ensures.values) at c.qnt_rm_unused.ensures))

pub returns-in-Distribute-clause-judged : goal.returns-in-Distribute-clause-judged
unfolding rule_outcome
returns-in-Distribute-clause-judged c = rw c.in-Distribute.is (apply-other _ _ _ _ _ _ (λ e. omega arith) (rw (c.pool-source.ensures.tags, c.pool-source.ensures.values) at c.miniscope_distribute.ensures))

pub returns-in-Split-clause-judged : goal.returns-in-Split-clause-judged
unfolding rule_outcome
returns-in-Split-clause-judged c = rw c.in-Split.is (apply-other _ _ _ _ _ _ (λ e. omega arith) (rw (c.pool-source.ensures.tags, c.pool-source.ensures.values) at c.miniscope_split.ensures))

pub returns-in-Ite-clause-judged : goal.returns-in-Ite-clause-judged
unfolding rule_outcome
returns-in-Ite-clause-judged c = rw c.in-Ite.is (apply-other _ _ _ _ _ _ (λ e. omega arith) (rw (c.pool-source.ensures.tags, c.pool-source.ensures.values) at c.miniscope_ite.ensures))
