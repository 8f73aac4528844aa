-- Cases of the premises: each line is shown by computation.
--
--     (f (or y (let ((y x)) y)))     holds a let
--     (f (or y y))                   holds none
--
-- And a let's values must count. With l, the term (let ((y x)) y):
--
--     place   term
--     1       x, of sort Bool
--     4       y, of sort Bool
--     7       l
--     12      (forall (x) l)
--     17      (= (forall (x) l) l)
--
-- x is free in l, so that rule 2 refuses (= (forall (x) l) l), with 3 and l's place. In a reading where a let that has x free has the truth
-- value of x, and which fixes every opaque term by its free variables' values, that equality is false if x is true.
-- Rests on answers' Outcome, on cells' ByPlace, Cell and Headers, on bindings' Binding, on descriptions' Description, on free_variables' Free,
-- on free_pairs' BindingFree, on formulas' Pattern, on meaning's Sort, Term, Lets, Skeleton, Tree, FreeTree, Truth and TruthCases, and on quantifier_rules'
-- QntRmUnused.
use Rattle.std.specs.Prelude.{ℕ, ◌≡◌, refl, Bool, true, false, cond, List, [], ◌∷◌}
use Rattle.std.proofs.Math.Decide.{ℕ_discrete}
use Rattle.cells.specs.Cell.{cells_of, sort_of, operands_of, same_cells, is_at}
use Rattle.cells.specs.Headers.{first_header, first_from, first_in}
use Rattle.cells.specs.ByPlace.{by-test, down_to, by_place}
use Rattle.descriptions.specs.Description.{find}
use Rattle.free_variables.specs.Free.{pair_in, bound_by, let_binds, any_of, values_in, let_values, under_pairs, free_step, is_free}
use Rattle.meaning.specs.Sort.{Sort, Sort-discrete, bool}
use Rattle.meaning.specs.Term.{Var, Var-discrete, Term, const, bit_vector, var, app, quant, bind, letin, op, no_term, tnil, tcons, lnil, lcons, stated}
use Rattle.meaning.specs.FreeTree.{is_yes, same, has, let_vars, free}
use Rattle.meaning.specs.Lets.{holds_let}
use Rattle.meaning.specs.Tree.{sort_from, sort_step, sort_tree, vars_of, lets_of, terms_of, term_from, term_step, tree}
use Rattle.meaning.specs.Skeleton.{skeleton, left_bool, iff_of, form_of}
use Rattle.meaning.specs.Truth.{Assignment, Reading, Local, value_at, assign, over, True}
use Rattle.meaning.specs.TruthCases.{either}
use Rattle.answers.specs.Outcome.{refuse, ◌>>=◌, ◌>>◌, need, guard, unless}
use Rattle.bindings.specs.Binding.{bindings_of, same as same_pair, has as has_pair, first_of}
use Rattle.free_pairs.specs.BindingFree.{binding_free}
use Rattle.formulas.specs.Pattern.{quantifier, operator, equality}
use Rattle.quantifier_rules.specs.QntRmUnused.{removes, unused, body_or, qnt_rm_unused}

abbrev x : Var
x = record { name = 1; sort = bool }

abbrev y : Var
y = record { name = 2; sort = bool }

abbrev f : Term
f = var (record { name = 3; sort = bool })

abbrev l : Term
l = letin bool (lcons 2 (var x) lnil) (var y)

pub deep-let : holds_let (app bool f (tcons (op 37 bool (tcons (var y) (tcons l tnil))) tnil)) ≡ true
unfolding holds_let
deep-let = refl

pub no-let : holds_let (app bool f (tcons (op 37 bool (tcons (var y) (tcons (var y) tnil))) tnil)) ≡ false
unfolding holds_let
no-let = refl

-- ---- a let's values count
abbrev tags : List ℕ
tags = 1 ∷ 21 ∷ 0 ∷ 0 ∷ 21 ∷ 0 ∷ 0 ∷ 27 ∷ 0 ∷ 0 ∷ 0 ∷ 0 ∷ 23 ∷ 0 ∷ 0 ∷ 0 ∷ 0 ∷ 39 ∷ 0 ∷ 0 ∷ 0 ∷ []

abbrev values : List ℕ
values = 0 ∷ 2 ∷ 0 ∷ 1 ∷ 2 ∷ 0 ∷ 2 ∷ 4 ∷ 0 ∷ 4 ∷ 2 ∷ 1 ∷ 4 ∷ 0 ∷ 7 ∷ 1 ∷ 0 ∷ 3 ∷ 0 ∷ 12 ∷ 7 ∷ []

abbrev conclusion : Term
conclusion = op 39 bool (tcons (quant true bool (x ∷ []) l) (tcons l tnil))

pub conclusion-is : tree tags values 17 ≡ conclusion
unfolding tree term_step term_from terms_of lets_of vars_of sort_tree sort_step sort_from cells_of down_to by_place
conclusion-is = refl

pub refused : qnt_rm_unused tags values 21 17 ≡ refuse 3 7 0
unfolding qnt_rm_unused removes unused body_or ◌>>=◌ ◌>>◌ need guard unless bindings_of same_pair has_pair first_of binding_free quantifier operator equality find first_header first_from first_in down_to by_place cells_of sort_of operands_of same_cells is_at pair_in bound_by let_binds any_of values_in let_values under_pairs free_step is_free
refused = refl

pub x-free : free l x ≡ true
unfolding free has let_vars stated same is_yes Var-discrete Sort-discrete ℕ_discrete
x-free = refl

-- every sort has the values true and false, a let in which x is free has the value of x, and every other opaque term is false
abbrev value_of : Term → Assignment (λ (s : Sort). Bool) → Bool
value_of (const k s c) ρ = false
value_of (bit_vector s w c) ρ = false
value_of (var v) ρ = false
value_of (app s g ts) ρ = false
value_of (quant b s vs t) ρ = false
value_of (bind k s vs t) ρ = false
value_of (letin s ls t) ρ = cond (free (letin s ls t) x) (ρ x) false
value_of (op k s ts) ρ = false
value_of no_term ρ = false

abbrev lets_lookup : Reading
lets_lookup = record { Value = λ s. Bool; values = λ s. true ∷ false ∷ []; listed = λ s. either; opaque-truth = value_of }

pub lets-local : Local lets_lookup
lets-local (const k s c) o ρ σ h = refl
lets-local (bit_vector s w c) o ρ σ h = refl
lets-local (var v) o ρ σ h = refl
lets-local (app s g ts) o ρ σ h = refl
lets-local (quant b s vs t) o ρ σ h = refl
lets-local (bind k s vs t) o ρ σ h = refl
lets-local (letin s ls t) o ρ σ h = by-test (free (letin s ls t) x) (λ e. rw e (h x e)) (λ e. rw e)
lets-local (op k s ts) o ρ σ h = refl
lets-local no_term o ρ σ h = refl

pub let-equality-false : True lets_lookup conclusion (λ v. true) ≡ false
unfolding True skeleton left_bool form_of iff_of free has let_vars stated same is_yes over assign value_at Var-discrete Sort-discrete ℕ_discrete
let-equality-false = refl
