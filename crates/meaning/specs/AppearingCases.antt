-- Small cases of the list of free variables: each line is shown by computation. P is an operator.
--
--     term                                  list
--     (P y x)                               y x
--     (and (forall (y) s) s), s = (P y x)   x y: a term that stands twice is looked at again where it is not bound
--     (let ((z x)) y)                       x y: a let's values come before its body
--     (let ((x x)) x)                       x: and stand outside its names
--     (let ((z y)) (P z x))                 y x
--     (x y), an application                 x y: the function precedes its arguments
--
-- And by place: of (and y x), where x stands at 1 and y at 4, the list is 4 1, not the order of places.
-- Rests on cells' ByPlace and Cell, on free_variables' Once and Appearing, and on Sort, Term, FreeTree and Occurrences.
use Rattle.std.specs.Prelude.{ℕ, ◌≡◌, refl, true, [], ◌∷◌}
use Rattle.std.proofs.Math.Decide.{ℕ_discrete}
use Rattle.cells.specs.ByPlace.{down_to, by_place}
use Rattle.cells.specs.Cell.{cells_of, operands_of}
use Rattle.free_variables.specs.Once.{leave_out, firsts}
use Rattle.free_variables.specs.Appearing.{joined, occurrences_from, occurrences_step, occurrences_at, appearing_at}
use Rattle.meaning.specs.Sort.{Sort-discrete, bool, int}
use Rattle.meaning.specs.Term.{Var, Var-discrete, Term, stated, var, app, quant, letin, op, tnil, tcons, lnil, lcons}
use Rattle.meaning.specs.FreeTree.{is_yes, same, has, let_vars}
use Rattle.meaning.specs.Occurrences.{occurrences, appearing}

abbrev named : ℕ → Var
named n = record { name = n; sort = int }

abbrev x : Var
x = named 1

abbrev y : Var
y = named 2

abbrev z : Var
z = named 3

abbrev P : Var → Var → Term
P u v = op 100 bool (tcons (var u) (tcons (var v) tnil))

pub left-to-right : appearing (P y x) ≡ y ∷ x ∷ []
unfolding appearing occurrences firsts leave_out has same is_yes Var-discrete Sort-discrete ℕ_discrete
left-to-right = refl

pub looked-at-again : appearing (op 36 bool (tcons (quant true bool (y ∷ []) (P y x)) (tcons (P y x) tnil))) ≡ x ∷ y ∷ []
unfolding appearing occurrences firsts leave_out has same is_yes Var-discrete Sort-discrete ℕ_discrete
looked-at-again = refl

pub values-first : appearing (letin int (lcons 3 (var x) lnil) (var y)) ≡ x ∷ y ∷ []
unfolding appearing occurrences firsts let_vars stated leave_out has same is_yes Var-discrete Sort-discrete ℕ_discrete
values-first = refl

pub own_name : appearing (letin int (lcons 1 (var x) lnil) (var x)) ≡ x ∷ []
unfolding appearing occurrences firsts let_vars stated leave_out has same is_yes Var-discrete Sort-discrete ℕ_discrete
own_name = refl

pub let-bound : appearing (letin int (lcons 3 (var y) lnil) (P z x)) ≡ y ∷ x ∷ []
unfolding appearing occurrences firsts let_vars stated leave_out has same is_yes Var-discrete Sort-discrete ℕ_discrete
let-bound = refl

pub function-first : appearing (app int (var x) (tcons (var y) tnil)) ≡ x ∷ y ∷ []
unfolding appearing occurrences firsts leave_out has same is_yes Var-discrete Sort-discrete ℕ_discrete
function-first = refl

pub not-by-place : appearing_at (1 ∷ 21 ∷ 0 ∷ 0 ∷ 21 ∷ 0 ∷ 0 ∷ 36 ∷ 0 ∷ 0 ∷ 0 ∷ []) (0 ∷ 2 ∷ 0 ∷ 1 ∷ 2 ∷ 0 ∷ 2 ∷ 3 ∷ 0 ∷ 4 ∷ 1 ∷ []) 7 ≡ 4 ∷ 1 ∷ []
unfolding appearing_at occurrences_at occurrences_step occurrences_from joined firsts leave_out operands_of cells_of down_to by_place
not-by-place = refl
