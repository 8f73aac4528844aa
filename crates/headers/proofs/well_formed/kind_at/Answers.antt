use Rattle.headers.specs.WellFormed.{kind_at}
use Rattle.headers.proofs.well_formed.Laws.{kind-of}
use Rattle.headers.proofs.well_formed.kind_at.Goals as goal

pub returns-in-Unknown : goal.returns-in-Unknown
unfolding kind_at
returns-in-Unknown c = search kind-of

pub returns-in-Nullary : goal.returns-in-Nullary
unfolding kind_at
returns-in-Nullary c = search kind-of

pub returns-in-Numbered : goal.returns-in-Numbered
unfolding kind_at
returns-in-Numbered c = search kind-of

pub returns-in-Named : goal.returns-in-Named
unfolding kind_at
returns-in-Named c = search kind-of

pub returns-in-Sorts : goal.returns-in-Sorts
unfolding kind_at
returns-in-Sorts c = search kind-of

pub returns-in-TwoSorts : goal.returns-in-TwoSorts
unfolding kind_at
returns-in-TwoSorts c = search kind-of

pub returns-in-OneSort : goal.returns-in-OneSort
unfolding kind_at
returns-in-OneSort c = search kind-of

pub returns-in-Constant : goal.returns-in-Constant
unfolding kind_at
returns-in-Constant c = search kind-of

pub returns-in-BitVector : goal.returns-in-BitVector
unfolding kind_at
returns-in-BitVector c = search kind-of

pub returns-in-Application : goal.returns-in-Application
unfolding kind_at
returns-in-Application c = search kind-of

pub returns-in-Binder : goal.returns-in-Binder
unfolding kind_at
returns-in-Binder c = search kind-of

pub returns-in-Let : goal.returns-in-Let
unfolding kind_at
returns-in-Let c = search kind-of

pub returns-in-Operator : goal.returns-in-Operator
unfolding kind_at
returns-in-Operator c = search kind-of
