-- The sort and the term that stand at a place, as trees.
--     sort_tree tags values s     the sort at s
--     tree tags values t         the term at t
-- 01, "Pool": the tags, and the cells after a header in their order. A cell that names a sort or term is read as the tree at the place
-- that it holds. Where a sort names a sort, or a term a term, that does not stand before it, that is read as none; check 14 rules it out.
-- Rests on cells' ByPlace and Cell, and on Sort and Term.
use Rattle.std.specs.Prelude.{ℕ, true, false, cond, List, [], ◌∷◌, get_or, drop, ltb, eqb}
use Rattle.cells.specs.Cell.{cells_of}
use Rattle.cells.specs.ByPlace.{by_place}
use Rattle.meaning.specs.Sort.{Sort, Sorts, bool, int, real, string, reglan, param_bit_vec, bit_vec, sort_var, atom, function, array, set, tuple, no_sort, snil, scons}
use Rattle.meaning.specs.Term.{Vars, Term, Terms, Lets, const, bit_vector, var, app, quant, bind, letin, op, no_term, tnil, tcons, lnil, lcons}

-- ---- sorts
-- the sorts at a list of places, where sort_at gives the sort at a place
unfoldable pub sorts_of : (ℕ → Sort) → List ℕ → Sorts
sorts_of sort_at [] = snil
sorts_of sort_at (s ∷ ss) = scons (sort_at s) (sorts_of sort_at ss)

-- the sort with this tag and these cells
unfoldable pub sort_from : ℕ → List ℕ → (ℕ → Sort) → Sort
sort_from tag cells sort_at =
    cond (eqb tag 1) bool
    (cond (eqb tag 2) int
    (cond (eqb tag 3) real
    (cond (eqb tag 4) string
    (cond (eqb tag 5) reglan
    (cond (eqb tag 6) param_bit_vec
    (cond (eqb tag 7) (bit_vec (get_or cells 0 0))
    (cond (eqb tag 8) (sort_var (get_or cells 0 0))
    (cond (eqb tag 9) (atom (get_or cells 0 0) (sorts_of sort_at (drop 1 cells)))
    (cond (eqb tag 10) (function (sorts_of sort_at cells))
    (cond (eqb tag 11) (array (sort_at (get_or cells 0 0)) (sort_at (get_or cells 1 0)))
    (cond (eqb tag 12) (set (sort_at (get_or cells 0 0)))
    (cond (eqb tag 13) (tuple (sorts_of sort_at cells))
    no_sort))))))))))))

unfoldable pub sort_step : List ℕ → List ℕ → ℕ → (ℕ → Sort) → Sort
sort_step tags values s before = sort_from (get_or tags s 0) (cells_of values s) before

unfoldable pub sort_tree : List ℕ → List ℕ → ℕ → Sort
sort_tree tags values s = by_place (sort_step tags values) no_sort s

-- ---- terms
-- the variables of a list of pairs of name and sort
unfoldable pub vars_of : (ℕ → Sort) → List ℕ → Vars
vars_of sort_at [] = []
vars_of sort_at (a ∷ []) = []
vars_of sort_at (a ∷ (s ∷ rest)) = record { name = a; sort = sort_at s } ∷ vars_of sort_at rest

-- the terms at a list of places
unfoldable pub terms_of : (ℕ → Term) → List ℕ → Terms
terms_of term_at [] = tnil
terms_of term_at (t ∷ ts) = tcons (term_at t) (terms_of term_at ts)

-- the names with their values of a list of pairs of name and term
unfoldable pub lets_of : (ℕ → Term) → List ℕ → Lets
lets_of term_at [] = lnil
lets_of term_at (a ∷ []) = lnil
lets_of term_at (a ∷ (t ∷ rest)) = lcons a (term_at t) (lets_of term_at rest)

-- the term with this tag and these cells: its sort stands first, a body second
unfoldable pub term_from : ℕ → List ℕ → (ℕ → Sort) → (ℕ → Term) → Term
term_from tag cells sort_at term_at =
    cond (ltb tag 16) no_term  -- a sort's tag, or none
    (cond (ltb tag 20) (const tag (sort_at (get_or cells 0 0)) (get_or cells 1 0))
    (cond (eqb tag 20) (bit_vector (sort_at (get_or cells 0 0)) (get_or cells 1 0) (get_or cells 2 0))
    (cond (eqb tag 21) (var (record { name = get_or cells 1 0; sort = sort_at (get_or cells 0 0) }))
    (cond (eqb tag 22) (app (sort_at (get_or cells 0 0)) (term_at (get_or cells 1 0)) (terms_of term_at (drop 2 cells)))
    (cond (eqb tag 23) (quant true (sort_at (get_or cells 0 0)) (vars_of sort_at (drop 2 cells)) (term_at (get_or cells 1 0)))
    (cond (eqb tag 24) (quant false (sort_at (get_or cells 0 0)) (vars_of sort_at (drop 2 cells)) (term_at (get_or cells 1 0)))
    (cond (ltb tag 27) (bind tag (sort_at (get_or cells 0 0)) (vars_of sort_at (drop 2 cells)) (term_at (get_or cells 1 0)))
    (cond (eqb tag 27) (letin (sort_at (get_or cells 0 0)) (lets_of term_at (drop 2 cells)) (term_at (get_or cells 1 0)))
    (cond (ltb tag 32) no_term
    (cond (ltb tag 167) (op tag (sort_at (get_or cells 0 0)) (terms_of term_at (drop 1 cells)))
    no_term))))))))))

unfoldable pub term_step : List ℕ → List ℕ → ℕ → (ℕ → Term) → Term
term_step tags values t before = term_from (get_or tags t 0) (cells_of values t) (sort_tree tags values) before

unfoldable pub tree : List ℕ → List ℕ → ℕ → Term
tree tags values t = by_place (term_step tags values) no_term t
