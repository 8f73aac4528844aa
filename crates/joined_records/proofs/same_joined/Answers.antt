use Rattle.joined_records.proofs.Laws.{outer-differs, inner-differs, both_followed}
use Rattle.joined_records.proofs.same_joined.Goals as goal

pub returns-in_default : goal.returns-in_default
returns-in_default c = outer-differs _ _ _ _ c.follow.ensures c.in_default.is

pub returns-in_default-follow : goal.returns-in_default-follow
returns-in_default-follow c = inner-differs _ _ _ _ c.follow.ensures _ c.in-Some.is _ c.follow-2.ensures c.in_default-follow.is

pub returns : goal.returns
returns c = both_followed _ _ _ _ c.follow.ensures _ c.in-Some.is _ c.follow-2.ensures _ c.in-Some-follow.is
