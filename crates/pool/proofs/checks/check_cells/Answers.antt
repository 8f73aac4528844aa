use mathlib.Core.Path.{refl}
use Rattle.pool.proofs.checks.Laws.{cells-none, cells-bad, cells-repeated, cells-wrong, cells_right, indexed-bad, indexed-repeated, indexed-wrong, indexed-right, bad-fits, repeat-fits, wrong-fits}
use Rattle.pool.proofs.checks.check_cells.Goals as goal

pub returns-then-n-eq0 : goal.returns-then-n-eq0
returns-then-n-eq0 c = record { value = cells-none _ _ _ _ c.if-n-eq0.true _ refl; indexed = indexed-bad _ _ _ _ _ 0 refl }

pub overflow_cast-result : goal.overflow_cast-result
overflow_cast-result c = search bad-fits

pub returns-in-Some : goal.returns-in-Some
returns-in-Some c = record {
  value = cells-bad _ _ _ _ c.if-n-eq0.false _ c.first_bad.ensures _ c.in-Some.is _ refl;
  indexed = indexed-bad _ _ _ _ _ _ refl;
}

pub overflow_cast-result-in-Some-first_repeat : goal.overflow_cast-result-in-Some-first_repeat
overflow_cast-result-in-Some-first_repeat c = search repeat-fits

pub returns-in-Some-first_repeat : goal.returns-in-Some-first_repeat
returns-in-Some-first_repeat c = record {
  value = cells-repeated _ _ _ _ c.if-n-eq0.false _ c.first_bad.ensures c.in_default.is _ c.first_repeat.ensures.value _ c.in-Some-first_repeat.is _ refl;
  indexed = indexed-repeated _ _ _ _ _ _ refl;
}

pub overflow_cast-result-in-Some-first_wrong_sort : goal.overflow_cast-result-in-Some-first_wrong_sort
overflow_cast-result-in-Some-first_wrong_sort c = search wrong-fits

pub returns-in-Some-first_wrong_sort : goal.returns-in-Some-first_wrong_sort
returns-in-Some-first_wrong_sort c = record {
  value = cells-wrong _ _ _ _ c.if-n-eq0.false _ c.first_bad.ensures c.in_default.is _ c.first_repeat.ensures.value c.in_default-first_repeat.is _ c.first_wrong_sort.ensures _ c.in-Some-first_wrong_sort.is _ refl;
  indexed = indexed-wrong _ _ _ _ _ _ refl;
}

pub returns : goal.returns
returns c = record {
  value = cells_right _ _ _ _ c.if-n-eq0.false _ c.first_bad.ensures c.in_default.is _ c.first_repeat.ensures.value c.in_default-first_repeat.is _ c.first_wrong_sort.ensures c.in_default-first_wrong_sort.is _ refl;
  indexed = indexed-right _ _ _ _ _ c.requires _ c.first_bad.ensures c.in_default.is _ c.first_repeat.ensures.value c.in_default-first_repeat.is c.first_repeat.ensures.indexes;
}
