-- The parts of a description: what its cells hold, each by its kind. Where the sorts and terms that cells name are told apart by their
-- trees, a tree from which the tag and the parts of two places can be read off gives them one description.
-- Assumes nothing.
use Prim.Native.Nat.{ℕ, suc, ◌≤◌, ◌<◌, ◌%◌}
use mathlib.Core.Path.{◌≡◌, refl, sym, ap₂, ◌∙◌}
use mathlib.Core.Bool.{true, cond}
use mathlib.Core.List.{List, [], ◌∷◌}
use lib.ListN.{length, get_or}
use lib.Dec.{eqb}
use native.Mathlib.Omega.{arith}
use borrow.Author.Tests.{ne_eqb}
use Rattle.cells.specs.Cell.{cells_of}
use Rattle.headers.specs.WellFormed.{shape_of, kind_at, pair_kind, is_sort_tag, is_term_tag, value_fits}
use Rattle.headers.specs.declared.well_formed.Shape.{Shape}
use Rattle.headers.specs.declared.well_formed.CellKind.{CellKind}
use Rattle.headers.specs.declared.well_formed.CellKind.TheVariants.{Number, OfSort, OfTerm}
use Rattle.meaning.proofs.trees.Header.{Each, Described, sort-cell, term-cell}

pub data Part (S T : Type 0) : Type 0 where
  number : ℕ → Part S T
  sort : S → Part S T
  term : T → Part S T

module _ {S T : Type 0} (sort_at : ℕ → S) (term_at : ℕ → T) where
  abbrev pub part : CellKind → ℕ → Part S T
  part Number c = number c
  part OfSort c = sort (sort_at c)
  part OfTerm c = term (term_at c)

  -- the parts of the cells that stand at position j
  abbrev pub parts : Shape → ℕ → List ℕ → List (Part S T)
  parts shape j [] = []
  parts shape j (c ∷ cs) = part (kind_at shape j) c ∷ parts shape (suc j) cs

  module _ (tags : List ℕ) (p q : ℕ)
      (sorts-apart : (c d : ℕ) → c < p → d < q → is_sort_tag (get_or tags c 0) ≡ true → is_sort_tag (get_or tags d 0) ≡ true → sort_at c ≡ sort_at d → c ≡ d)
      (terms-apart : (c d : ℕ) → c < p → d < q → is_term_tag (get_or tags c 0) ≡ true → is_term_tag (get_or tags d 0) ≡ true → term_at c ≡ term_at d → c ≡ d) where
    part-one : (k : CellKind) (c d : ℕ) → value_fits tags p k c ≡ true → value_fits tags q k d ≡ true → part k c ≡ part k d → c ≡ d
    part-one Number c d h l e = cc
    part-one OfSort c d h l e =
        sorts-apart c d (sort-cell tags p c h).0 (sort-cell tags q d l).0 (sort-cell tags p c h).1 (sort-cell tags q d l).1 (cc)
    part-one OfTerm c d h l e =
        terms-apart c d (term-cell tags p c h).0 (term-cell tags q d l).0 (term-cell tags p c h).1 (term-cell tags q d l).1 (cc)

    pub parts-one : (shape : Shape) (j : ℕ) (cs ds : List ℕ) → Each tags p shape j cs → Each tags q shape j ds → parts shape j cs ≡ parts shape j ds → cs ≡ ds
    parts-one shape j [] [] h l e = refl
    parts-one shape j [] (d ∷ ds) h l e = cc
    parts-one shape j (c ∷ cs) [] h l e = cc
    parts-one shape j (c ∷ cs) (d ∷ ds) h l e =
        ap₂ ◌∷◌ (part-one (kind_at shape j) c d h.0 l.0 (cc)) (parts-one shape (suc j) cs ds h.1 l.1 (cc))

-- ---- the tag and the parts of a place are read off a tree again
module _ {S T A : Type 0} (sort_at : ℕ → S) (term_at : ℕ → T) (tag_of : A → ℕ) (parts_of : A → List (Part S T)) (tags values : List ℕ) where
  pub record Reads (p : ℕ) (tree : A) : Type 0 where
    pub tag_is : tag_of tree ≡ get_or tags p 0
    pub parts_are : parts_of tree ≡ parts sort_at term_at (shape_of (get_or tags p 0)) 0 (cells_of values p)

  pub one-description : (p q : ℕ) (tree : A) → Reads p tree → Reads q tree → Described tags values p → Described tags values q
      → ((c d : ℕ) → c < p → d < q → is_sort_tag (get_or tags c 0) ≡ true → is_sort_tag (get_or tags d 0) ≡ true → sort_at c ≡ sort_at d → c ≡ d)
      → ((c d : ℕ) → c < p → d < q → is_term_tag (get_or tags c 0) ≡ true → is_term_tag (get_or tags d 0) ≡ true → term_at c ≡ term_at d → c ≡ d)
      → (get_or tags p 0 ≡ get_or tags q 0) × (cells_of values p ≡ cells_of values q)
  one-description p q tree r o f g sorts-apart terms-apart =
      let tag : get_or tags p 0 ≡ get_or tags q 0 = sym r.tag_is ∙ o.tag_is in (
        tag,
        parts-one sort_at term_at tags p q sorts-apart terms-apart (shape_of (get_or tags p 0)) 0 (cells_of values p) (cells_of values q)
            f.each-cell (rw (← tag) at g.each-cell) (sym r.parts_are ∙ (o.parts_are ∙ rw tag)),
      )

-- ---- the kinds of cells after the first
pub not_first : {A : Type 0} (a b : A) (j : ℕ) → 1 ≤ j → cond (eqb j 0) a b ≡ b
not_first a b j h = rw (ne_eqb j 0 (λ z. omega arith))

-- pairs begin at even positions
module _ (second : CellKind) (j : ℕ) (h : 2 ≤ j) (even : j % 2 ≡ 0) where
  pub pair-name : pair_kind second j ≡ Number
  unfolding pair_kind
  pair-name = rw (ne_eqb j 0 (λ z. omega arith), ne_eqb j 1 (λ z. omega arith), even)

  pub pair-second : pair_kind second (suc j) ≡ second
  unfolding pair_kind
  pair-second = rw (ne_eqb (suc j) 0 (λ z. omega arith), ne_eqb (suc j) 1 (λ z. omega arith), ne_eqb (suc j % 2) 0 (λ z. omega arith))

-- ---- lists of known length
module _ (P : List ℕ → Type 0) where
  pub no_cell : P [] → (cells : List ℕ) → length cells ≡ 0 → P cells
  no_cell p [] e = p
  no_cell p (a ∷ cs) e = absurd (omega arith)

  pub one_cell : ((a : ℕ) → P (a ∷ [])) → (cells : List ℕ) → length cells ≡ 1 → P cells
  one_cell p [] e = absurd (omega arith)
  one_cell p (a ∷ []) e = p a
  one_cell p (a ∷ (b ∷ cs)) e = absurd (omega arith)

  pub two_cells : ((a b : ℕ) → P (a ∷ (b ∷ []))) → (cells : List ℕ) → length cells ≡ 2 → P cells
  two_cells p [] e = absurd (omega arith)
  two_cells p (a ∷ []) e = absurd (omega arith)
  two_cells p (a ∷ (b ∷ [])) e = p a b
  two_cells p (a ∷ (b ∷ (c ∷ cs))) e = absurd (omega arith)

  pub three-cells : ((a b c : ℕ) → P (a ∷ (b ∷ (c ∷ [])))) → (cells : List ℕ) → length cells ≡ 3 → P cells
  three-cells p [] e = absurd (omega arith)
  three-cells p (a ∷ []) e = absurd (omega arith)
  three-cells p (a ∷ (b ∷ [])) e = absurd (omega arith)
  three-cells p (a ∷ (b ∷ (c ∷ []))) e = p a b c
  three-cells p (a ∷ (b ∷ (c ∷ (d ∷ cs)))) e = absurd (omega arith)

  -- at least so many
  pub from_one : ((a : ℕ) (cs : List ℕ) → P (a ∷ cs)) → (cells : List ℕ) → 1 ≤ length cells → P cells
  from_one p [] e = absurd (omega arith)
  from_one p (a ∷ cs) e = p a cs

  pub from-two : ((a b : ℕ) (cs : List ℕ) → P (a ∷ (b ∷ cs))) → (cells : List ℕ) → 2 ≤ length cells → P cells
  from-two p [] e = absurd (omega arith)
  from-two p (a ∷ []) e = absurd (omega arith)
  from-two p (a ∷ (b ∷ cs)) e = p a b cs
