-- The order of checks inside rules 1 and 2, at the smallest steps that show it; each line is shown by computation.
--
--     rule 1, (= (forall (x) (exists (y) p)) p)      3 with p: the right side is asked for a quantifier before kinds are compared
--     rule 2, (= (forall (x) p) p)                   accepted: the left body as right side is asked for no quantifier
--     rule 2, (= (forall (x) x) (forall (y) x))      8 with y: a new variable comes before a missing one
--
-- x, y and p are the names 1, 2 and 3, of sort Bool.
-- Rests on answers' Outcome, on cells' ByPlace, Cell and Headers, on bindings' Binding, on descriptions' Description, on free_variables' Free,
-- on free_pairs' BindingFree, on formulas' Pattern, and on quantifier_rules' QntJoin and QntRmUnused.
use Rattle.std.specs.Prelude.{◌≡◌, refl, [], ◌∷◌}
use Rattle.cells.specs.ByPlace.{down_to, by_place}
use Rattle.cells.specs.Cell.{cells_of, sort_of, operands_of, same_cells, is_at}
use Rattle.cells.specs.Headers.{first_header, first_from, first_in}
use Rattle.descriptions.specs.Description.{find}
use Rattle.free_variables.specs.Free.{pair_in, bound_by, any_of, under_pairs, free_step, is_free}
use Rattle.answers.specs.Outcome.{pass, refuse, ◌>>=◌, ◌>>◌, need, guard, unless}
use Rattle.bindings.specs.Binding.{bindings_of, same, has, first_of}
use Rattle.free_pairs.specs.BindingFree.{binding_free}
use Rattle.formulas.specs.Pattern.{quantifier, operator, equality}
use Rattle.quantifier_rules.specs.QntJoin.{qnt_join}
use Rattle.quantifier_rules.specs.QntRmUnused.{removes, unused, body_or, qnt_rm_unused}

-- p at 1, (exists (y) p) at 4, (forall (x) ..) at 9, the equality at 14
pub right-before-kinds : qnt_join (1 ∷ 21 ∷ 0 ∷ 0 ∷ 24 ∷ 0 ∷ 0 ∷ 0 ∷ 0 ∷ 23 ∷ 0 ∷ 0 ∷ 0 ∷ 0 ∷ 39 ∷ 0 ∷ 0 ∷ 0 ∷ [])
    (0 ∷ 2 ∷ 0 ∷ 3 ∷ 4 ∷ 0 ∷ 1 ∷ 2 ∷ 0 ∷ 4 ∷ 0 ∷ 4 ∷ 1 ∷ 0 ∷ 3 ∷ 0 ∷ 9 ∷ 1 ∷ []) 14 ≡ refuse 3 1 0
unfolding qnt_join ◌>>=◌ ◌>>◌ need guard equality operator quantifier operands_of cells_of bindings_of
right-before-kinds = refl

-- p at 1, (forall (x) p) at 4, the equality at 9
pub body-accepted : qnt_rm_unused (1 ∷ 21 ∷ 0 ∷ 0 ∷ 23 ∷ 0 ∷ 0 ∷ 0 ∷ 0 ∷ 39 ∷ 0 ∷ 0 ∷ 0 ∷ []) (0 ∷ 2 ∷ 0 ∷ 3 ∷ 4 ∷ 0 ∷ 1 ∷ 1 ∷ 0 ∷ 3 ∷ 0 ∷ 4 ∷ 1 ∷ []) 13 9 ≡ pass tt
unfolding qnt_rm_unused body_or unused ◌>>=◌ need equality operator quantifier bindings_of first_of binding_free find first_header first_from first_in is_at same_cells operands_of cells_of
body-accepted = refl

-- x at 1, (forall (x) x) at 4, (forall (y) x) at 9, the equality at 14
pub new-before-missing : qnt_rm_unused (1 ∷ 21 ∷ 0 ∷ 0 ∷ 23 ∷ 0 ∷ 0 ∷ 0 ∷ 0 ∷ 23 ∷ 0 ∷ 0 ∷ 0 ∷ 0 ∷ 39 ∷ 0 ∷ 0 ∷ 0 ∷ [])
    (0 ∷ 2 ∷ 0 ∷ 1 ∷ 4 ∷ 0 ∷ 1 ∷ 1 ∷ 0 ∷ 4 ∷ 0 ∷ 1 ∷ 2 ∷ 0 ∷ 3 ∷ 0 ∷ 4 ∷ 9 ∷ []) 18 14 ≡ refuse 8 2 0
unfolding qnt_rm_unused body_or unused removes ◌>>=◌ ◌>>◌ need guard unless equality operator quantifier bindings_of same has first_of binding_free find first_header first_from first_in is_at same_cells operands_of sort_of cells_of down_to by_place pair_in bound_by any_of under_pairs free_step is_free
new-before-missing = refl
