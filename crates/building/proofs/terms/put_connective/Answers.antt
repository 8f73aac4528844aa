use mathlib.Core.Path.{◌∙◌}
use Rattle.building.proofs.terms.Cells.{run_short}
use Rattle.building.proofs.terms.put_connective.Goals as goal

pub gather-k-requires-clause-run_len_bound : goal.gather-k-requires-clause-run_len_bound
gather-k-requires-clause-run_len_bound c = run_short _ _ _ _ c.requires.pool_ready.state _ c.requires.t_lt_end _ (c.operands-run.ensures ∙ rw (c.first-source.ensures.tags, c.first-source.ensures.values))
