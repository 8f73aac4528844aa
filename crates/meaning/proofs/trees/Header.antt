-- What check 14 says of a header that passes it, as facts.
-- Assumes nothing.
use Prim.Native.Nat.{ℕ, zero, suc, ◌+◌, ◌-◌, ◌≤◌, ◌<◌}
use mathlib.Core.Path.{◌≡◌, refl}
use mathlib.Core.Bool.{Bool, true, false, ◌&&◌}
use mathlib.Core.List.{List, [], ◌∷◌}
use lib.ListN.{length, get_or, take, drop, length-drop}
use lib.Seq.{drop-cons, length-take-le}
use lib.Dec.{ltb, leb, eqb}
use native.Mathlib.Omega.{arith}
use borrow.Author.Tests.{ltb-true, leb-true, eqb-true}
use Rattle.cells.specs.Bounded.{every_in, every}
use Rattle.cells.specs.Cell.{cells_of}
use Rattle.headers.specs.WellFormed.{shape_of, count_fits, kind_at, is_sort_tag, is_term_tag, value_fits, cell_fits, bool_first, header_fits}
use Rattle.headers.specs.declared.well_formed.Shape.{Shape}
use Rattle.headers.specs.declared.well_formed.CellKind.TheVariants.{OfSort, OfTerm}

pub both : (a b : Bool) → (a && b) ≡ true → (a ≡ true) × (b ≡ true)
both true b e = (refl, e)
both false b e = let z : ◌≡◌ {A = ℕ} 0 1 = cc in absurd (omega arith)

-- a test that holds at f positions from j on holds at each
every-at : (test : ℕ → Bool) (f j : ℕ) → every_in test f j ≡ true → (i : ℕ) → i < f → test (j + i) ≡ true
unfolding every_in
every-at test zero j e i h = absurd (omega arith)
every-at test (suc f) j e zero h =
    let z : j + 0 ≡ j = omega arith in
    rw z (both (test j) (every_in test f (suc j)) e).0
every-at test (suc f) j e (suc i) h =
    let z : j + suc i ≡ suc j + i = omega arith in
    rw z (every-at test f (suc j) (both (test j) (every_in test f (suc j)) e).1 i (omega arith))

-- ---- a header that passes check 14 among n cells
module _ (tags values : List ℕ) where
  -- the tag of a place, and the number of cells after it
  abbrev pub tag_at : ℕ → ℕ
  tag_at p = get_or tags p 0

  abbrev pub count_at : ℕ → ℕ
  count_at p = get_or values p 0

  pub record Header (n p : ℕ) : Type 0 where
    pub below : p + 1 + count_at p ≤ n
    pub count : count_fits (shape_of (tag_at p)) (count_at p) ≡ true
    pub blank : (j : ℕ) → j < count_at p → get_or tags (p + 1 + j) 0 ≡ 0
    pub holds : (j : ℕ) → j < count_at p → value_fits tags p (kind_at (shape_of (tag_at p)) j) (get_or values (p + 1 + j) 0) ≡ true

  pub header : (n p : ℕ) → header_fits tags values n p ≡ true → Header n p
  unfolding header_fits every cell_fits
  header n p e =
      let e₁ = (both (bool_first tags p) _ e).1 in
      let e₂ = (both (ltb (count_at p) (n - p)) _ e₁).1 in
      record {
        below = omega (arith, ltb-true (count_at p) (n - p) (both (ltb (count_at p) (n - p)) _ e₁).0);
        count = (both (count_fits shape (count_at p)) _ e₂).0;
        blank = λ j h. eqb-true (get_or tags (p + 1 + j) 0) 0 (both _ _ (at (both (count_fits shape (count_at p)) _ e₂).1 j h)).0;
        holds = λ j h. (both (eqb (get_or tags (p + 1 + j) 0) 0) _ (at (both (count_fits shape (count_at p)) _ e₂).1 j h)).1;
      }
    where
      shape : Shape
      shape = shape_of (tag_at p)

      at : every (cell_fits tags values p shape) 0 (count_at p) ≡ true → (j : ℕ) → j < count_at p → cell_fits tags values p shape j ≡ true
      at a j h =
          let z : 0 + j ≡ j = omega arith in
          rw z at (every-at (cell_fits tags values p shape) (count_at p - 0) 0 a j (omega arith))

-- ---- the same of the list of its cells
module _ (tags : List ℕ) (p : ℕ) (shape : Shape) where
  -- the cells of a list that stands at position j hold what they must
  abbrev pub Each : ℕ → List ℕ → Type 0
  Each j [] = Unit {0}
  Each j (c ∷ cs) = (value_fits tags p (kind_at shape j) c ≡ true) × Each (suc j) cs

  each : (values : List ℕ) (f j : ℕ) → p + 1 + j + f ≤ length values
      → ((i : ℕ) → i < f → value_fits tags p (kind_at shape (j + i)) (get_or values (p + 1 + (j + i)) 0) ≡ true)
      → Each j (take f (drop (p + 1 + j) values))
  each values zero j l h = tt
  each values (suc f) j l h =
      let z : j + 0 ≡ j = omega arith in
      let s : suc (p + 1 + j) ≡ p + 1 + suc j = omega arith in
      rw (drop-cons values (p + 1 + j) 0 (omega arith), s)
      (rw z at (h 0 (omega arith)), each values f (suc j) (omega arith) (λ i k. let y : j + suc i ≡ suc j + i = omega arith in rw y at (h (suc i) (omega arith))))

module _ (tags values : List ℕ) (p : ℕ) where
  pub record Described : Type 0 where
    pub count : count_fits (shape_of (get_or tags p 0)) (length (cells_of values p)) ≡ true
    pub each-cell : Each tags p (shape_of (get_or tags p 0)) 0 (cells_of values p)

  pub cells-length : (n : ℕ) → n ≤ length values → Header tags values n p → length (cells_of values p) ≡ get_or values p 0
  unfolding cells_of
  cells-length n l h = length-take-le (get_or values p 0) (drop (p + 1) values) (rw length-drop (omega arith))

  pub described : (n : ℕ) → n ≤ length values → Header tags values n p → Described
  unfolding cells_of
  described n l h =
      record {
        count = rw (cells-length n l h) h.count;
        each-cell = let z : p + 1 + 0 ≡ p + 1 = omega arith in
            rw z at (each tags p (shape_of (get_or tags p 0)) values (get_or values p 0) 0 (omega arith) (λ i k. let y : 0 + i ≡ i = omega arith in rw y (h.holds i k)));
      }

-- ---- a cell that names a sort or a term
module _ (tags : List ℕ) (p c : ℕ) where
  pub sort-cell : value_fits tags p OfSort c ≡ true → (c < p) × (is_sort_tag (get_or tags c 0) ≡ true)
  unfolding value_fits
  sort-cell e = (ltb-true c p (both (ltb c p) _ e).0, (both (ltb c p) _ e).1)

  pub term-cell : value_fits tags p OfTerm c ≡ true → (c < p) × (is_term_tag (get_or tags c 0) ≡ true)
  unfolding value_fits
  term-cell e = (ltb-true c p (both (ltb c p) _ e).0, (both (ltb c p) _ e).1)

-- a sort's and a term's tag is not 0
pub sort-tagged : (k : ℕ) → is_sort_tag k ≡ true → k ≡ 0 → ⊥
unfolding is_sort_tag
sort-tagged k e z = omega (arith, leb-true 1 k (both (leb 1 k) _ e).0)

pub term-tagged : (k : ℕ) → is_term_tag k ≡ true → k ≡ 0 → ⊥
unfolding is_term_tag
term-tagged k e z = omega (arith, leb-true 16 k e)
