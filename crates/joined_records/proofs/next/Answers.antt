use Rattle.joined_records.specs.Records.{no_binding}
use Rattle.joined_records.proofs.Laws.{next-repeat, next-past, next-differs, next-agrees}
use Rattle.joined_records.proofs.next.Goals as goal

pub returns-then-is_repeat : goal.returns-then-is_repeat
returns-then-is_repeat c = next-repeat _ _ _ _ _ c.is_repeat.ensures c.if-is_repeat.true

pub returns-in_err-get : goal.returns-in_err-get
returns-in_err-get c = next-past _ _ _ _ _ c.is_repeat.ensures c.if-is_repeat.false c.in_err-get.ensures.lookup.3 _ c.from_residual.ensures

pub returns-then-ne : goal.returns-then-ne
returns-then-ne c =
    let found = c.in_ok-get.ensures.lookup.3 in
    next-differs _ _ _ _ _ c.is_repeat.ensures c.if-is_repeat.false found.0 _ (found.1 no_binding) _ c.ne.ensures c.if-ne.true

pub returns : goal.returns
returns c =
    let found = c.in_ok-get.ensures.lookup.3 in
    next-agrees _ _ _ _ _ c.is_repeat.ensures c.if-is_repeat.false found.0 _ (found.1 no_binding) _ c.ne.ensures c.if-ne.false
