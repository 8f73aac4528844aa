use Rattle.appearance.proofs.rows.Adding.{terms}
use Rattle.appearance.proofs.rows.add_term.Goals as goal

pub returns-then-tag-lt-VARIABLE : goal.returns-then-tag-lt-VARIABLE
returns-then-tag-lt-VARIABLE c = search terms

pub returns-then-tag-lt-APPLICATION : goal.returns-then-tag-lt-APPLICATION
returns-then-tag-lt-APPLICATION c = search terms

pub returns-then-slot-eq0 : goal.returns-then-slot-eq0
returns-then-slot-eq0 c = search terms

pub returns : goal.returns
returns c = search terms
