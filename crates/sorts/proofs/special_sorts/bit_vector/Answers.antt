use borrow.Author.Tests.{tests}
use Rattle.std.proofs.Common.{rules, None, Some}
use Rattle.std.proofs.lemmas.Iterator.{YieldsList-from_slice}
use Rattle.std.proofs.lemmas.Iterator.Search.{find_from_yields_List}
use Rattle.sorts.proofs.special_sorts.Laws.{bits-none, bits-other, bits-here}
use Rattle.sorts.proofs.special_sorts.bit_vector.Goals as goal

pub returns-in-None : goal.returns-in-None
returns-in-None c =
    bits-none _ _ _ _ (find_from_yields_List _ c.find.new.self _ None c.in-None.ensures.ran (YieldsList-from_slice c.args.os.now (cc)) (λ x b q h. search (rules, tests)))
    _ c.is_plain.ensures

pub returns-then-sort_tag-eq-BIT_VEC : goal.returns-then-sort_tag-eq-BIT_VEC
returns-then-sort_tag-eq-BIT_VEC c =
    bits-here _ _ _ _ _ (find_from_yields_List _ c.find.new.self _ (Some c.in-Some.o) c.in-Some.ensures.ran (YieldsList-from_slice c.args.os.now (cc)) (λ x b q h. search (rules, tests)))
    _ c.sort_tag.ensures c.if-sort_tag-eq-BIT_VEC.true _ c.sort_of.ensures

pub returns-else-sort_tag-eq-BIT_VEC : goal.returns-else-sort_tag-eq-BIT_VEC
returns-else-sort_tag-eq-BIT_VEC c =
    bits-other _ _ _ _ _ (find_from_yields_List _ c.find.new.self _ (Some c.in-Some.o) c.in-Some.ensures.ran (YieldsList-from_slice c.args.os.now (cc)) (λ x b q h. search (rules, tests)))
    _ c.sort_tag.ensures c.if-sort_tag-eq-BIT_VEC.false
