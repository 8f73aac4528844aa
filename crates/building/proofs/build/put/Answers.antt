use borrow.Author.Rules.{rules}
use Rattle.building.proofs.build.Laws.{put_at, put-small, put_full}
use Rattle.building.proofs.build.put.Goals as goal

pub returns-in_err-p-clause-puts : goal.returns-in_err-p-clause-puts
returns-in_err-p-clause-puts c = rw c.from_residual.ensures (put_full _ _ _ c.requires.state _ _ _ _ _ _ c.add.ensures.added_is c.in_err-p.was)

pub overflow_cast-result : goal.overflow_cast-result
overflow_cast-result c = let h = put-small _ _ _ c.requires.state _ _ _ _ _ _ c.add.ensures.added_is _ c.in_ok-p.was in
    search rules

pub returns-clause-puts : goal.returns-clause-puts
returns-clause-puts c = put_at _ _ _ c.requires.state _ _ _ _ _ _ c.add.ensures.added_is _ c.in_ok-p.was
