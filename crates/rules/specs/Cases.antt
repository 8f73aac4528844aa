-- 01, "Test formulas (M: proved)", all of them. Each is a theorem, shown by computation.
--
--     qnt_join of the lists    right list    outcome
--     x with y, x              x y x         accepted
--     x with y, x              x y           refused with 7
--     x with x                 x             accepted
--     x with x                 x x           refused with 7
--
--     formula             clauses
--     (= p q)             -p +q; -q +p
--     (ite p q r)         -p +q; +p +r
--     (not (ite p q r))   +p -p; +p -r; -q -p; -q -r
--     (or a (and))        none
--     (and (or))          13, an empty `or` reached; of the call over its cells too
--     (= p q r)           one opaque literal
--
-- Of joins the conclusion is `(= (forall outer (forall inner p)) (forall right p))` in a pool of its own. Of formulas clauses_of is the clause list
-- by which rule 3's schema goes: the normal form at true polarity with its foralls taken out; p, q, r and a are variables of sort Bool; a literal
-- is +t for t, -t for `not` t.
-- Rests on answers' Answer and Outcome, on cells' Bounded, ByPlace, Cell and Headers, on bindings' Binding, on headers' WellFormed, on descriptions'
-- Description, on sorts' SortRule, on sort_table's Table and TableAnswer, on pool's Check, on formulas' Formula, Pattern, Normal, Built and Clauses,
-- on building's Arrays, on meaning's Sort, Term and Skeleton, on normal_form's Calls, on quantifier_rules' QntJoin, and on schemas' Notation and
-- Schemas.
use Rattle.std.specs.Prelude.{◌≡◌, refl, ℕ, true, false, List, [], ◌∷◌, ◌++◌, length, replicate}
use Rattle.meaning.specs.Sort.{Sort-discrete}
use Rattle.meaning.specs.Term.{Vars, Term, stated}
use Rattle.formulas.specs.Normal.{Normal, lit}
use Rattle.formulas.specs.Clauses.{Clause, empty_or}
use Rattle.meaning.specs.Skeleton.{skeleton, left_bool, form_of, not_of, ite_of, iff_of}
use Rattle.cells.specs.Cell.{cells_of, operands_of, sort_of, same_cells, is_at}
use Rattle.answers.specs.Outcome.{Outcome, pass, refuse, ◌>>=◌, ◌>>◌, need, guard}
use Rattle.bindings.specs.Binding.{bindings_of, same, same_all}
use Rattle.formulas.specs.Pattern.{quantifier, operator, equality as equality_at}
use Rattle.schemas.specs.Notation.{variable, not', and', or', equals, ite'}
use Rattle.schemas.specs.Schemas.{clausal, clauses_of}
use Rattle.quantifier_rules.specs.QntJoin.{after_pair, without_adjacent, joined, qnt_join}
use Rattle.cells.specs.Bounded.{every_in, every}
use Rattle.cells.specs.ByPlace.{down_to, by_place}
use Rattle.cells.specs.Headers.{first_in, first_from, first_header}
use Rattle.headers.specs.WellFormed.{shape_of, count_fits, pair_kind, kind_at, is_sort_tag, is_term_tag, is_term, value_fits, cell_fits, bool_first, header_fits, first_bad}
use Rattle.descriptions.specs.Description.{find, repeats, first_repeat}
use Rattle.sorts.specs.SortRule.{is_sort, by_rule, compute_sort, states_sort, first_wrong_sort}
use Rattle.sort_table.specs.Table.{built_in}
use Rattle.sort_table.specs.TableAnswer.{first_entry, forbids, is_connective, loses_bool, table_answer}
use Rattle.answers.specs.Answer.{refused}
use Rattle.pool.specs.Check.{arrays_fit, check_cells, check_pool, and_then, check_term}
use Rattle.formulas.specs.Formula.{all_before, connective, view_of, form_by, form}
use Rattle.formulas.specs.Built.{put, intern, interns, normal_form, normal_view, normal_by, normal_at, taken_out_form}
use Rattle.building.specs.Arrays.{fits}
use Rattle.normal_form.specs.Calls.{clause_answer}

-- ---- joins: Bool at 0, p at 1, the inner forall at 4, the outer one after it, then the right one and the equality
-- a header's tags, and its values
abbrev tags_of : ℕ → List ℕ → List ℕ
tags_of tag cells = tag ∷ replicate (length cells) 0

abbrev values_of : List ℕ → List ℕ
values_of cells = length cells ∷ cells

-- the cells of a forall over the term at the place body
abbrev forall_cells : ℕ → List ℕ → List ℕ
forall_cells body pairs = 0 ∷ body ∷ pairs

module _ (outer inner right : List ℕ) where
  -- the tags up to the inner forall, the outer one, the right one
  abbrev with_inner : List ℕ
  with_inner = 1 ∷ tags_of 21 (0 ∷ 3 ∷ []) ++ tags_of 23 (forall_cells 1 inner)

  abbrev with_outer : List ℕ
  with_outer = with_inner ++ tags_of 23 (forall_cells 4 outer)

  abbrev with_right : List ℕ
  with_right = with_outer ++ tags_of 23 (forall_cells 1 right)

  -- the outer forall stands after the inner one, the right one after that, then the equality
  abbrev equality_cells : List ℕ
  equality_cells = 0 ∷ length with_inner ∷ length with_outer ∷ []

  abbrev join_tags : List ℕ
  join_tags = with_right ++ tags_of 39 equality_cells

  abbrev join_values : List ℕ
  join_values =
      0 ∷ values_of (0 ∷ 3 ∷ []) ++ (values_of (forall_cells 1 inner) ++ (values_of (forall_cells 4 outer)
      ++ (values_of (forall_cells 1 right) ++ values_of equality_cells)))

  unfoldable pub join : Outcome (Unit {0})
  join = qnt_join join_tags join_values (length with_right)

-- the pairs of the variables x and y, names 1 and 2 of sort Bool
abbrev x : List ℕ
x = 1 ∷ 0 ∷ []

abbrev y : List ℕ
y = 2 ∷ 0 ∷ []

pub join-keeps-later : join x (y ++ x) (x ++ (y ++ x)) ≡ pass tt
unfolding join qnt_join ◌>>=◌ ◌>>◌ need guard equality_at operator quantifier operands_of cells_of bindings_of joined without_adjacent after_pair same same_all
join-keeps-later = refl

pub join-not-shorter : join x (y ++ x) (x ++ y) ≡ refuse 7 11 16
unfolding join qnt_join ◌>>=◌ ◌>>◌ need guard equality_at operator quantifier operands_of cells_of bindings_of joined without_adjacent after_pair same same_all
join-not-shorter = refl

pub join-drops-adjacent : join x x x ≡ pass tt
unfolding join qnt_join ◌>>=◌ ◌>>◌ need guard equality_at operator quantifier operands_of cells_of bindings_of joined without_adjacent after_pair same same_all
join-drops-adjacent = refl

pub join-not-twice : join x x (x ++ x) ≡ refuse 7 9 14
unfolding join qnt_join ◌>>=◌ ◌>>◌ need guard equality_at operator quantifier operands_of cells_of bindings_of joined without_adjacent after_pair same same_all
join-not-twice = refl

-- ---- formulas
abbrev p : Term
p = variable 1

abbrev q : Term
q = variable 2

abbrev r : Term
r = variable 3

abbrev a : Term
a = variable 4

-- ---- clauses
abbrev + : Term → Normal Vars Term
+ t = lit true t

abbrev - : Term → Normal Vars Term
- t = lit false t

abbrev two : Normal Vars Term → Normal Vars Term → Clause Vars Term
two l m = l ∷ m ∷ []

-- ---- the table
pub equality : clauses_of (equals (p ∷ q ∷ [])) ≡ two (- p) (+ q) ∷ two (- q) (+ p) ∷ []
unfolding skeleton left_bool form_of iff_of stated Sort-discrete
equality = refl

pub choice : clauses_of (ite' p q r) ≡ two (- p) (+ q) ∷ two (+ p) (+ r) ∷ []
unfolding skeleton left_bool form_of ite_of stated Sort-discrete
choice = refl

pub choice-negated : clauses_of (not' (ite' p q r)) ≡ two (+ p) (- p) ∷ two (+ p) (- r) ∷ two (- q) (- p) ∷ two (- q) (- r) ∷ []
unfolding skeleton left_bool form_of ite_of not_of stated Sort-discrete
choice-negated = refl

pub or-empty-and : clauses_of (or' (a ∷ and' [] ∷ [])) ≡ []
unfolding skeleton left_bool form_of stated Sort-discrete
or-empty-and = refl

pub and-empty-or : empty_or (clausal (and' (or' [] ∷ []))) ≡ true
unfolding skeleton left_bool form_of stated Sort-discrete
and-empty-or = refl

-- (or) at 1, (and (or)) at 3
pub and-empty-or-refused : clause_answer (1 ∷ 37 ∷ 0 ∷ 36 ∷ 0 ∷ 0 ∷ []) (0 ∷ 1 ∷ 0 ∷ 2 ∷ 0 ∷ 1 ∷ []) built_in 6 3 8192 2048 ≡ refused 13 0 0
unfolding clause_answer and_then check_term check_pool arrays_fit table_answer first_entry forbids loses_bool is_connective check_cells first_bad first_repeat first_wrong_sort first_header first_from first_in header_fits bool_first cell_fits value_fits kind_at pair_kind count_fits shape_of is_sort_tag is_term_tag is_term every every_in repeats find is_at same_cells cells_of sort_of operands_of states_sort compute_sort by_rule is_sort built_in fits normal_form taken_out_form normal_at normal_by normal_view form by_place down_to form_by view_of connective all_before intern interns put
and-empty-or-refused = refl

pub equality-of-three : clauses_of (equals (p ∷ q ∷ r ∷ [])) ≡ (+ (equals (p ∷ q ∷ r ∷ [])) ∷ []) ∷ []
unfolding skeleton left_bool form_of iff_of stated Sort-discrete
equality-of-three = refl
