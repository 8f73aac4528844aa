use Rattle.free_variables.proofs.term_names.Laws.{finds, find-variable}
use Rattle.free_variables.proofs.appearing.From.{occurs, from-variable}
use Rattle.free_variables.proofs.term_names.free_from.Goals as goal

pub returns-then-tag-lt-VARIABLE : goal.returns-then-tag-lt-VARIABLE
returns-then-tag-lt-VARIABLE c = (record { means = search finds; occurs = search occurs })

pub returns-then-tag-lt-APPLICATION : goal.returns-then-tag-lt-APPLICATION
returns-then-tag-lt-APPLICATION c = let tag = c.tag_at-tag.ensures in
    (record { means = find-variable _ _ _ _ tag c.if-tag-lt-VARIABLE.false c.if-tag-lt-APPLICATION.true; occurs = from-variable _ _ _ _ tag c.if-tag-lt-VARIABLE.false c.if-tag-lt-APPLICATION.true })

pub returns-then-tag-lt-FORALL : goal.returns-then-tag-lt-FORALL
returns-then-tag-lt-FORALL c = (record { means = search finds; occurs = search occurs })

pub returns-then-tag-ge-BINDERS_END : goal.returns-then-tag-ge-BINDERS_END
returns-then-tag-ge-BINDERS_END c = (record { means = search finds; occurs = search occurs })

pub returns-then-t-body : goal.returns-then-t-body
returns-then-t-body c = (record { means = search finds; occurs = search occurs })

pub returns-then-tag-eq-LET : goal.returns-then-tag-eq-LET
returns-then-tag-eq-LET c = (record { means = search finds; occurs = search occurs })

pub returns-then-t-body-2 : goal.returns-then-t-body-2
returns-then-t-body-2 c = (record { means = search finds; occurs = search occurs })

pub returns : goal.returns
returns c = (record { means = search finds; occurs = search occurs })
