-- Rule 3's premise is needed: a step that qnt_cnf accepts and that is false in a reading.
--
--     place   term
--     1       x, of sort Bool
--     4       z, of sort Bool
--     7       (forall (x) z)
--     12      (or x (forall (x) z))
--     16      l, (forall () (or x (forall (x) z)))
--     19      (not l)
--     22      (or x z)
--     26      (forall (x) (or x z))
--     31      (or (not l) (forall (x) (or x z)))
--
-- x is taken out of l's body and free in l. Where x is true and z is false, l is true and the clause is not true for every x.
-- Rests on answers' Outcome, on cells' ByPlace, Cell and Headers, on bindings' Binding, on descriptions' Description, on free_variables' Free,
-- on free_pairs' BindingFree, on formulas' Formula, Pattern and Built, on building's Arrays, on meaning's Sort, Term, Skeleton, Tree, FreeTree, Truth and
-- TruthCases, and on clausification's QntCnf.
use Rattle.std.specs.Prelude.{ℕ, ◌≡◌, refl, Bool, true, false, List, [], ◌∷◌}
use Rattle.std.proofs.Math.Decide.{ℕ_discrete}
use Rattle.cells.specs.Cell.{cells_of, sort_of, operands_of, same_cells, is_at}
use Rattle.cells.specs.Headers.{first_header, first_from, first_in}
use Rattle.cells.specs.ByPlace.{down_to, by_place}
use Rattle.descriptions.specs.Description.{find}
use Rattle.free_variables.specs.Free.{pair_in, bound_by, any_of, under_pairs, free_step, is_free}
use Rattle.meaning.specs.Sort.{Sort, Sort-discrete, bool}
use Rattle.meaning.specs.Term.{Var, Var-discrete, Term, var, quant, op, tnil, tcons, stated}
use Rattle.meaning.specs.FreeTree.{is_yes, same as same_var}
use Rattle.meaning.specs.Tree.{sort_from, sort_step, sort_tree, vars_of, terms_of, term_from, term_step, tree}
use Rattle.formulas.specs.Formula.{all_before, connective, quantifier as quantifier_view, view_of, form_by, form}
use Rattle.formulas.specs.Built.{put, intern, interns, normal_form, normal_view, normal_by, normal_at, taken_out_form}
use Rattle.meaning.specs.Skeleton.{skeleton, left_bool, form_of, not_of}
use Rattle.meaning.specs.Truth.{Assignment, value_at, assign, over, True}
use Rattle.meaning.specs.TruthCases.{two_values, x}
use Rattle.building.specs.Arrays.{fits}
use Rattle.answers.specs.Outcome.{pass, ◌>>=◌, ◌>>◌, need, guard, unless}
use Rattle.bindings.specs.Binding.{bindings_of, same, has, first_of}
use Rattle.free_pairs.specs.BindingFree.{binding_free}
use Rattle.formulas.specs.Pattern.{quantifier, operator}
use Rattle.clausification.specs.QntCnf.{implication, within_limits, is_clause, any_clause, taken_from, clauses_from, left_and_taken, clause_follows, clausified, qnt_cnf}

abbrev tags : List ℕ
tags =
    1 ∷ 21 ∷ 0 ∷ 0 ∷ 21 ∷ 0 ∷ 0 ∷ 23 ∷ 0 ∷ 0 ∷ 0 ∷ 0 ∷ 37 ∷ 0 ∷ 0 ∷ 0 ∷ 23 ∷ 0 ∷ 0 ∷ 34 ∷ 0 ∷ 0 ∷ 37 ∷ 0 ∷ 0 ∷ 0 ∷ 23 ∷ 0 ∷ 0 ∷ 0 ∷ 0 ∷ 37 ∷ 0 ∷ 0 ∷ 0 ∷ []

abbrev values : List ℕ
values =
    0 ∷ 2 ∷ 0 ∷ 1 ∷ 2 ∷ 0 ∷ 2 ∷ 4 ∷ 0 ∷ 4 ∷ 1 ∷ 0 ∷ 3 ∷ 0 ∷ 1 ∷ 7 ∷ 2 ∷ 0 ∷ 12 ∷ 2 ∷ 0 ∷ 16 ∷ 3 ∷ 0 ∷ 1 ∷ 4 ∷ 4 ∷ 0 ∷ 22 ∷ 1 ∷ 0 ∷ 3 ∷ 0 ∷ 19 ∷ 26 ∷ []

pub accepted : qnt_cnf tags values 35 31 ≡ pass tt
unfolding qnt_cnf clausified clause_follows implication within_limits is_clause any_clause taken_from clauses_from left_and_taken ◌>>=◌ ◌>>◌ need guard unless bindings_of same has first_of binding_free quantifier operator fits put intern interns normal_form normal_view normal_by normal_at taken_out_form all_before connective quantifier_view view_of form_by form find first_header first_from first_in down_to by_place cells_of sort_of operands_of same_cells is_at pair_in bound_by any_of under_pairs free_step is_free
accepted = refl

-- the conclusion as a term
abbrev z : Var
z = record { name = 2; sort = bool }

abbrev body : Term
body = op 37 bool (tcons (var x) (tcons (quant true bool (x ∷ []) (var z)) tnil))

abbrev conclusion : Term
conclusion =
    op 37 bool (tcons (op 34 bool (tcons (quant true bool [] body) tnil))
    (tcons (quant true bool (x ∷ []) (op 37 bool (tcons (var x) (tcons (var z) tnil)))) tnil))

pub conclusion-is : tree tags values 31 ≡ conclusion
unfolding tree term_step term_from terms_of vars_of sort_tree sort_step sort_from cells_of down_to by_place
conclusion-is = refl

-- x is true, and every other variable false
abbrev at_x : Assignment (λ (s : Sort). Bool)
at_x v = same_var v x

pub conclusion-false : True two_values conclusion at_x ≡ false
unfolding True skeleton left_bool form_of not_of stated over assign value_at same_var is_yes Var-discrete Sort-discrete ℕ_discrete
conclusion-false = refl
