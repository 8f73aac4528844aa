-- Laws of `WellFormed`: one for each way out of a function of check 14, and one for a turn of a loop.
-- Assumes nothing.
use Prim.Native.Nat.{ℕ, zero, suc, ◌+◌, ◌-◌, ◌≤◌, ◌<◌}
use mathlib.Core.Path.{◌≡◌, refl}
use mathlib.Core.Bool.{Bool, true, false, not, ◌&&◌, ◌||◌}
use mathlib.Core.List.{List, [], ◌∷◌}
use lib.ListN.{get_or}
use lib.Dec.{leb, ltb, eqb}
use native.Mathlib.Omega.{arith}
use borrow.Author.Tests.{leb-true, leb-false, lt-ltb, le-ltb, eq-eqb, ne_eqb, eqb-true, not-true, not-false}
use native.Mathlib.Numerals.{add-one}
use Rattle.std.specs.List.{list_all, range_with_len}
use Rattle.cells.specs.Bounded.{every_in, every}
use Rattle.cells.specs.ByPlace.{by-test}
use Rattle.headers.specs.WellFormed.{shape_of, count_fits, kind_at, value_fits, cell_fits, bool_first, header_fits}
use Rattle.headers.specs.declared.well_formed.Shape.{Shape}
use Rattle.headers.specs.declared.well_formed.CellKind.{CellKind}

-- ---- the shape of a tag
-- the tags at which another shape begins
abbrev pub bounds : List ℕ
bounds = 1 ∷ 7 ∷ 9 ∷ 10 ∷ 11 ∷ 12 ∷ 13 ∷ 14 ∷ 16 ∷ 20 ∷ 21 ∷ 22 ∷ 23 ∷ 27 ∷ 28 ∷ 32 ∷ 167 ∷ []

-- none of the listed numbers lies after a and below b
abbrev pub apart : ℕ → ℕ → List ℕ → Bool
apart a b [] = true
apart a b (t ∷ ts) = (leb t a || leb b t) && apart a b ts

-- t is one of the listed numbers
among : ℕ → List ℕ → Bool
among t [] = false
among t (u ∷ us) = eqb t u || among t us

module _ (a b x : ℕ) (from : a ≤ x) (to : x < b) where
  same-side : (t : ℕ) → (leb t a || leb b t) ≡ true → ltb x t ≡ ltb a t
  same-side t o =
      by-test (leb t a)
      (λ l. rw (le-ltb x t (omega (arith, leb-true t a l)), le-ltb a t (leb-true t a l)))
      (λ l. rw (lt-ltb x t (omega (arith, leb-true b t (rw l at o))), lt-ltb a t (leb-false t a l)))

  same-sides : (ts : List ℕ) → apart a b ts ≡ true → (t : ℕ) → among t ts ≡ true → ltb x t ≡ ltb a t
  unfolding among
  same-sides [] o t m = cc
  same-sides (u ∷ us) o t m =
      by-test (leb u a || leb b u)
      (λ l. by-test (eqb t u) (λ e. rw (eqb-true t u e) (same-side u l)) (λ e. same-sides us (rw l at o) t (rw e at m)))
      (λ l. let z : false ≡ true = rw l at o in cc)

-- the tags from a up to b have one shape, if no other begins between
pub shape-within : (a b : ℕ) {s : Shape} {x : ℕ} → a ≤ x → x < b → s ≡ shape_of a → apart a b bounds ≡ true → s ≡ shape_of x
unfolding shape_of among
shape-within a b {s} {x} from to is o = simp (same-sides a b x from to bounds o, is)

-- ---- an arm of a match on a shape or a kind
pub count_of : (shape s : Shape) (k : ℕ) (r : Bool) → shape ≡ s → r ≡ count_fits s k → r ≡ count_fits shape k
count_of shape s k r is e = rw is e

pub kind-of : (shape s : Shape) (j : ℕ) (r : CellKind) → shape ≡ s → r ≡ kind_at s j → r ≡ kind_at shape j
kind-of shape s j r is e = rw is e

pub value_of : (tags : List ℕ) (p : ℕ) (kind s : CellKind) (v : ℕ) (r : Bool) → kind ≡ s → r ≡ value_fits tags p s v → r ≡ value_fits tags p kind v
value_of tags p kind s v r is e = rw is e

-- ---- a cell
module _ (tags values : List ℕ) (p : ℕ) (shape : Shape) (j tag : ℕ) (t : tag ≡ get_or tags (p + 1 + j) 0) where
  pub cell-header : (tag ≡ 0 → ⊥) → false ≡ cell_fits tags values p shape j
  unfolding cell_fits
  cell-header h = rw (← t, ne_eqb _ _ h)

  pub cell-value : tag ≡ 0 → (kind : CellKind) → kind ≡ kind_at shape j → (v : ℕ) → v ≡ get_or values (p + 1 + j) 0 → (r : Bool) → r ≡ value_fits tags p kind v → r ≡ cell_fits tags values p shape j
  unfolding cell_fits
  cell-value h kind e v w r is = rw (← t, eq-eqb _ _ h, ← e, ← w) is

pub ruleset cell = (cell-header, cell-value)

-- a test at every position of a range, as the library's word for it
pub every_in-all : (test : ℕ → Bool) (n j : ℕ) → every_in test n j ≡ list_all test (range_with_len j n)
unfolding every_in
every_in-all test zero j = refl
every_in-all test (suc n) j = rw (add-one j, every_in-all test n (suc j)) refl

-- ---- a header
module _ (tags : List ℕ) (p : ℕ) where
  pub first-other : (p ≡ 0 → ⊥) → not (eqb p 0) ≡ bool_first tags p
  unfolding bool_first
  first-other h = rw (ne_eqb _ _ h)

  pub first-bool : p ≡ 0 → (tag : ℕ) → tag ≡ get_or tags p 0 → eqb tag 1 ≡ bool_first tags p
  unfolding bool_first
  first-bool h tag t = rw (t, eq-eqb _ _ h)

pub ruleset bool-first = (first-other, first-bool)

-- f, q and r say of the header at p whether cell 0 is right, the count k fits and the cells fit
module _ (tags values : List ℕ) (n p : ℕ) (f : Bool) (first : f ≡ bool_first tags p) where
  pub header-first : not f ≡ true → false ≡ header_fits tags values n p
  unfolding header_fits
  header-first e = rw (← first, not-true f e)

  module _ (e : not f ≡ false) (k : ℕ) (cells : k ≡ get_or values p 0) where
    pub header-long : n - p ≤ k → false ≡ header_fits tags values n p
    unfolding header_fits
    header-long h = rw (← first, not-false f e, ← cells, le-ltb _ _ h)

    module _ (h : k < n - p) (tag : ℕ) (t : tag ≡ get_or tags p 0) (shape : Shape) (s : shape ≡ shape_of tag) (q : Bool) (count : q ≡ count_fits shape k) where
      pub header-count : not q ≡ true → false ≡ header_fits tags values n p
      unfolding header_fits
      header-count o = rw (← first, not-false f e, ← cells, lt-ltb _ _ h, ← t, ← s, ← count, not-true q o)

      pub header-cells : not q ≡ false → (r : Bool) → r ≡ every (cell_fits tags values p shape) 0 k → r ≡ header_fits tags values n p
      unfolding header_fits
      header-cells o r is = rw (← first, not-false f e, ← cells, lt-ltb _ _ h, ← t, ← s, ← count, not-false q o) is

pub ruleset header = (header-first, header-long, header-count, header-cells)

-- ---- the first bad header
abbrev pub is_bad : List ℕ → List ℕ → ℕ → ℕ → Bool
is_bad tags values n p = not (header_fits tags values n p)
