-- Check 14: a pool whose headers and cells are well formed, and the first header that is not.
-- 01, "Pool, from src/ast/term.rs": the tags of sorts and terms, their cells, and what a cell that names a sort or term holds.
-- Rests on cells' Bounded, Headers and TermTag, and on the enums `Shape` and `CellKind`.
use Rattle.std.specs.Prelude.{ℕ, ◌+◌, ◌-◌, ◌%◌, Bool, true, false, not, ◌&&◌, ◌||◌, cond, List, get_or, leb, ltb, eqb, Option}
use Rattle.cells.specs.Bounded.{every}
use Rattle.cells.specs.Headers.{first_header}
unfoldable pub use Rattle.cells.specs.TermTag.{is_term_tag, is_term}
use Rattle.headers.specs.declared.well_formed.Shape.{Shape}
use Rattle.headers.specs.declared.well_formed.Shape.TheVariants.{Unknown, Nullary, Numbered, Named, Sorts, TwoSorts, OneSort, Constant, BitVector, Application, Binder, Let, Operator}
use Rattle.headers.specs.declared.well_formed.CellKind.{CellKind}
use Rattle.headers.specs.declared.well_formed.CellKind.TheVariants.{Number, OfSort, OfTerm}

-- how the cells of a header are laid out, by its tag
unfoldable pub shape_of : ℕ → Shape
shape_of tag =
    cond (ltb tag 1) Unknown
    (cond (ltb tag 7) Nullary  -- 1 Bool, 2 Int, 3 Real, 4 String, 5 RegLan, 6 ParamBitVec (n=0)
    (cond (ltb tag 9) Numbered  -- 7 BitVec (width), 8 Var (name)
    (cond (ltb tag 10) Named  -- 9 Atom (name, sorts)
    (cond (ltb tag 11) Sorts  -- 10 Function (sorts)
    (cond (ltb tag 12) TwoSorts  -- 11 Array (two sorts)
    (cond (ltb tag 13) OneSort  -- 12 Set (sort)
    (cond (ltb tag 14) Sorts  -- 13 Tuple (sorts)
    (cond (ltb tag 16) Unknown
    (cond (ltb tag 20) Constant  -- 16 integer (number); 17 real, 18 string, 19 regular language (serial)
    (cond (ltb tag 21) BitVector  -- 20 bit vector (width, serial)
    (cond (ltb tag 22) Constant  -- 21 variable (name)
    (cond (ltb tag 23) Application  -- 22 application (function, arguments)
    (cond (ltb tag 27) Binder  -- 23 forall, 24 exists, 25 choice, 26 lambda (body, then pairs of name and sort)
    (cond (ltb tag 28) Let  -- 27 let (body, then pairs of name and term)
    (cond (ltb tag 32) Unknown
    (cond (ltb tag 167) Operator  -- 32 to 166 an operator (operands)
    Unknown))))))))))))))))

-- a header of this shape may have k cells; a term's first cell is its sort
unfoldable pub count_fits : Shape → ℕ → Bool
count_fits Unknown k = false
count_fits Nullary k = eqb k 0
count_fits Numbered k = eqb k 1
count_fits Named k = leb 1 k
count_fits Sorts k = true
count_fits TwoSorts k = eqb k 2
count_fits OneSort k = eqb k 1
count_fits Constant k = eqb k 2
count_fits BitVector k = eqb k 3
count_fits Application k = leb 2 k
count_fits Binder k = leb 2 k && eqb (k % 2) 0
count_fits Let k = leb 2 k && eqb (k % 2) 0
count_fits Operator k = leb 1 k

-- after a binder's or a let's sort and body stand pairs: a name, then what odd positions hold
unfoldable pub pair_kind : CellKind → ℕ → CellKind
pair_kind second j = cond (eqb j 0) OfSort (cond (eqb j 1) OfTerm (cond (eqb (j % 2) 0) Number second))

-- what the cell at position j, counted from 0 after the header, holds
unfoldable pub kind_at : Shape → ℕ → CellKind
kind_at Unknown j = Number
kind_at Nullary j = Number
kind_at Numbered j = Number
kind_at Named j = cond (eqb j 0) Number OfSort
kind_at Sorts j = OfSort
kind_at TwoSorts j = OfSort
kind_at OneSort j = OfSort
kind_at Constant j = cond (eqb j 0) OfSort Number
kind_at BitVector j = cond (eqb j 0) OfSort Number
kind_at Application j = cond (eqb j 0) OfSort OfTerm
kind_at Binder j = pair_kind OfSort j
kind_at Let j = pair_kind OfTerm j
kind_at Operator j = cond (eqb j 0) OfSort OfTerm

-- a sort's tag, a term's tag
unfoldable pub is_sort_tag : ℕ → Bool
is_sort_tag tag = leb 1 tag && ltb tag 14

-- "Cells that name a sort or term hold the place of one that stands earlier than the header." A cell between headers has tag 0, so a
-- place whose tag is a sort's or a term's is a header's.
unfoldable pub value_fits : List ℕ → ℕ → CellKind → ℕ → Bool
value_fits tags p Number v = true
value_fits tags p OfSort v = ltb v p && is_sort_tag (get_or tags v 0)
value_fits tags p OfTerm v = ltb v p && is_term_tag (get_or tags v 0)

-- the cell at position j of the header at p has tag 0 and holds what it must
unfoldable pub cell_fits : List ℕ → List ℕ → ℕ → Shape → ℕ → Bool
cell_fits tags values p shape j =
    eqb (get_or tags (p + 1 + j) 0) 0 && value_fits tags p (kind_at shape j) (get_or values (p + 1 + j) 0)

-- "Cell 0 is the sort Bool."
unfoldable pub bool_first : List ℕ → ℕ → Bool
bool_first tags p = not (eqb p 0) || eqb (get_or tags p 0) 1

-- the header at p is well formed among n cells: its cells stand below n, it may have so many, and each is right
unfoldable pub header_fits : List ℕ → List ℕ → ℕ → ℕ → Bool
header_fits tags values n p =
    bool_first tags p && (ltb (get_or values p 0) (n - p) && (count_fits (shape_of (get_or tags p 0)) (get_or values p 0)
    && every (cell_fits tags values p (shape_of (get_or tags p 0))) 0 (get_or values p 0)))

-- "14 pool ill-formed (place of the first bad header, 0 if N is 0)"
unfoldable pub first_bad : List ℕ → List ℕ → ℕ → Option ℕ
first_bad tags values n = first_header values n (λ p. not (header_fits tags values n p))
