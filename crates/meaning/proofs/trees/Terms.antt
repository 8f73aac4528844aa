-- The terms of a pool that passes checks 14 and 15.
--     term_is        the term at a place is what its cells say, of the sorts and terms at the places that they hold
--     term-one       two places with equal terms are one place
-- A term's tag and parts are read off its tree again.
-- Assumes nothing.
use Rattle.std.specs.Prelude.{None}
use Prim.Native.Nat.{ℕ, zero, suc, ◌≤◌, ◌<◌, ◌%◌}
use mathlib.Core.Path.{◌≡◌, refl, ap, ap₂, ◌∙◌}
use mathlib.Core.Bool.{Bool, true, false, ◌&&◌, cond}
use mathlib.Core.List.{List, [], ◌∷◌}
use lib.ListN.{length, get_or, drop}
use lib.Dec.{ltb, leb, eqb}
use native.Mathlib.Omega.{arith}
use borrow.Author.Tests.{eqb-true, leb-true, lt-ltb, le-ltb, ne_eqb}
use Rattle.cells.specs.Cell.{cells_of}
use Rattle.cells.specs.ByPlace.{by_place-is}
use Rattle.headers.specs.WellFormed.{shape_of, count_fits, kind_at, pair_kind, value_fits, is_term_tag, first_bad}
use Rattle.descriptions.specs.Description.{first_repeat}
use Rattle.meaning.specs.Sort.{Sort}
use Rattle.meaning.specs.Term.{Vars, Term, Terms, Lets, const, bit_vector, var, app, quant, bind, letin, op, no_term, tnil, tcons, lnil, lcons}
use Rattle.meaning.specs.Tree.{sort_tree, vars_of, terms_of, lets_of, term_from, term_step, tree}
use Rattle.headers.specs.declared.well_formed.Shape.{Shape}
use Rattle.headers.specs.declared.well_formed.Shape.TheVariants.{Application, Binder, Let, Operator}
use Rattle.headers.specs.declared.well_formed.CellKind.TheVariants.{OfSort, OfTerm}
use Rattle.meaning.proofs.trees.Header.{both, Each, Described, term-cell, term-tagged}
use Rattle.meaning.proofs.trees.Walk.{place-described, one_place}
use Rattle.meaning.proofs.trees.Tags.{shape-op, by-term-tag}
use Rattle.meaning.proofs.trees.Parts.{Part, number, sort, term, parts, Reads, one-description, not_first, pair-name, pair-second, two_cells, three-cells, from_one, from-two}
use Rattle.meaning.proofs.trees.Sorts.{sort-one}

-- ---- a term's tag and parts
abbrev Parts : Type 0
Parts = List (Part Sort Term)

quant_tag : Bool → ℕ
quant_tag true = 23
quant_tag false = 24

tag_of : Term → ℕ
unfolding quant_tag
tag_of (const k s c) = k
tag_of (bit_vector s w c) = 20
tag_of (var v) = 21
tag_of (app s f ts) = 22
tag_of (quant b s vs t) = quant_tag b
tag_of (bind k s vs t) = k
tag_of (letin s ls t) = 27
tag_of (op k s ts) = k
tag_of no_term = 0

term_parts : Terms → Parts
term_parts tnil = []
term_parts (tcons t ts) = term t ∷ term_parts ts

var_parts : Vars → Parts
var_parts [] = []
var_parts (v ∷ vs) = number v.name ∷ (sort v.sort ∷ var_parts vs)

let_parts : Lets → Parts
let_parts lnil = []
let_parts (lcons a t ls) = number a ∷ (term t ∷ let_parts ls)

parts_of : Term → Parts
unfolding term_parts var_parts let_parts
parts_of (const k s c) = sort s ∷ (number c ∷ [])
parts_of (bit_vector s w c) = sort s ∷ (number w ∷ (number c ∷ []))
parts_of (var v) = sort v.sort ∷ (number v.name ∷ [])
parts_of (app s f ts) = sort s ∷ (term f ∷ term_parts ts)
parts_of (quant b s vs t) = sort s ∷ (term t ∷ var_parts vs)
parts_of (bind k s vs t) = sort s ∷ (term t ∷ var_parts vs)
parts_of (letin s ls t) = sort s ∷ (term t ∷ let_parts ls)
parts_of (op k s ts) = sort s ∷ term_parts ts
parts_of no_term = []

-- the count of a binder or a let: two, and pairs
pub even-rest : (k : ℕ) → (leb 2 k && eqb (k % 2) 0) ≡ true → (2 ≤ k) × (k % 2 ≡ 0)
even-rest k e = (leb-true 2 k (both (leb 2 k) _ e).0, eqb-true (k % 2) 0 (both (leb 2 k) _ e).1)

module _ (sort_at : ℕ → Sort) (term_at : ℕ → Term) where
  pub term-op : (k : ℕ) (cells : List ℕ) → 32 ≤ k → k < 167 → term_from k cells sort_at term_at ≡ op k (sort_at (get_or cells 0 0)) (terms_of term_at (drop 1 cells))
  unfolding term_from
  term-op k cells h l =
      rw (
        le-ltb k 16 (omega arith),
        le-ltb k 20 (omega arith),
        ne_eqb k 20 (λ z. omega arith),
        ne_eqb k 21 (λ z. omega arith),
        ne_eqb k 22 (λ z. omega arith),
        ne_eqb k 23 (λ z. omega arith),
        ne_eqb k 24 (λ z. omega arith),
        le-ltb k 27 (omega arith),
        ne_eqb k 27 (λ z. omega arith),
        le-ltb k 32 h,
        lt-ltb k 167 l,
      )

  terms-parts : (shape : Shape) (j : ℕ) (cs : List ℕ) → ((i : ℕ) → j ≤ i → kind_at shape i ≡ OfTerm) → term_parts (terms_of term_at cs) ≡ parts sort_at term_at shape j cs
  unfolding term_parts terms_of
  terms-parts shape j [] k = refl
  terms-parts shape j (c ∷ cs) k = rw (k j (omega arith)) (ap (λ (l : Parts). term (term_at c) ∷ l) (terms-parts shape (suc j) cs (λ i h. k i (omega arith))))

  vars-parts : (j : ℕ) (cs : List ℕ) → 2 ≤ j → j % 2 ≡ 0 → length cs % 2 ≡ 0 → var_parts (vars_of sort_at cs) ≡ parts sort_at term_at Binder j cs
  unfolding var_parts vars_of kind_at
  vars-parts j [] h e l = refl
  vars-parts j (a ∷ []) h e l = absurd (omega arith)
  vars-parts j (a ∷ (s ∷ cs)) h e l =
      rw (pair-name OfSort j h e, pair-second OfSort j h e)
      (ap (λ (l : Parts). number a ∷ (sort (sort_at s) ∷ l)) (vars-parts (suc (suc j)) cs (omega arith) (omega arith) (omega arith)))

  lets-parts : (j : ℕ) (cs : List ℕ) → 2 ≤ j → j % 2 ≡ 0 → length cs % 2 ≡ 0 → let_parts (lets_of term_at cs) ≡ parts sort_at term_at Let j cs
  unfolding let_parts lets_of kind_at
  lets-parts j [] h e l = refl
  lets-parts j (a ∷ []) h e l = absurd (omega arith)
  lets-parts j (a ∷ (t ∷ cs)) h e l =
      rw (pair-name OfTerm j h e, pair-second OfTerm j h e)
      (ap (λ (l : Parts). number a ∷ (term (term_at t) ∷ l)) (lets-parts (suc (suc j)) cs (omega arith) (omega arith) (omega arith)))

  abbrev Read : ℕ → List ℕ → Type 0
  Read k cells = (tag_of (term_from k cells sort_at term_at) ≡ k) × (parts_of (term_from k cells sort_at term_at) ≡ parts sort_at term_at (shape_of k) 0 cells)

  reads-op : (cells : List ℕ) (k : ℕ) → 32 ≤ k → k < 167 → count_fits (shape_of k) (length cells) ≡ true → Read k cells
  unfolding tag_of parts_of count_fits kind_at
  reads-op cells k h l e =
      rw (term-op k cells h l, shape-op k h l) (
        refl,
        from_one (λ (cs : List ℕ). parts_of (op k (sort_at (get_or cs 0 0)) (terms_of term_at (drop 1 cs))) ≡ parts sort_at term_at Operator 0 cs)
            (λ s cs. ap (λ (l : Parts). sort (sort_at s) ∷ l) (terms-parts Operator 1 cs (λ i j. not_first _ _ i j)))
            cells (leb-true 1 (length cells) (rw (shape-op k h l) at e)),
      )

  binder-parts : (s b : ℕ) (cs : List ℕ) → length (s ∷ (b ∷ cs)) % 2 ≡ 0
      → ◌≡◌ {A = Parts} (sort (sort_at s) ∷ (term (term_at b) ∷ var_parts (vars_of sort_at cs))) (parts sort_at term_at Binder 0 (s ∷ (b ∷ cs)))
  unfolding kind_at pair_kind
  binder-parts s b cs e = ap (λ (l : Parts). sort (sort_at s) ∷ (term (term_at b) ∷ l)) (vars-parts 2 cs (omega arith) refl (omega arith))

  let-parts : (s b : ℕ) (cs : List ℕ) → length (s ∷ (b ∷ cs)) % 2 ≡ 0
      → ◌≡◌ {A = Parts} (sort (sort_at s) ∷ (term (term_at b) ∷ let_parts (lets_of term_at cs))) (parts sort_at term_at Let 0 (s ∷ (b ∷ cs)))
  unfolding kind_at pair_kind
  let-parts s b cs e = ap (λ (l : Parts). sort (sort_at s) ∷ (term (term_at b) ∷ l)) (lets-parts 2 cs (omega arith) refl (omega arith))

  -- by the number of cells: a binder's or a let's is even
  abbrev Pairs : ℕ → List ℕ → Type 0
  Pairs k cells = length cells % 2 ≡ 0 → Read k cells

  reads : (cells : List ℕ) (k : ℕ) → is_term_tag k ≡ true → count_fits (shape_of k) (length cells) ≡ true → Read k cells
  unfolding tag_of parts_of term_from shape_of count_fits kind_at
  reads cells k t c =
      by-term-tag (λ k. count_fits (shape_of k) (length cells) ≡ true → Read k cells)
      (λ e. two_cells (Read 16) (λ s c. (refl, refl)) cells (eqb-true _ _ e))
      (λ e. two_cells (Read 17) (λ s c. (refl, refl)) cells (eqb-true _ _ e))
      (λ e. two_cells (Read 18) (λ s c. (refl, refl)) cells (eqb-true _ _ e))
      (λ e. two_cells (Read 19) (λ s c. (refl, refl)) cells (eqb-true _ _ e))
      (λ e. three-cells (Read 20) (λ s w c. (refl, refl)) cells (eqb-true _ _ e))
      (λ e. two_cells (Read 21) (λ s a. (refl, refl)) cells (eqb-true _ _ e))
      (λ e. from-two (Read 22) (λ s f cs. (refl, ap (λ (l : Parts). sort (sort_at s) ∷ (term (term_at f) ∷ l)) (terms-parts Application 2 cs (λ i h. not_first _ _ i (omega arith))))) cells (leb-true _ _ e))
      (λ e. from-two (Pairs 23) (λ s b cs o. (refl, binder-parts s b cs o)) cells (even-rest _ e).0 (even-rest _ e).1)
      (λ e. from-two (Pairs 24) (λ s b cs o. (refl, binder-parts s b cs o)) cells (even-rest _ e).0 (even-rest _ e).1)
      (λ e. from-two (Pairs 25) (λ s b cs o. (refl, binder-parts s b cs o)) cells (even-rest _ e).0 (even-rest _ e).1)
      (λ e. from-two (Pairs 26) (λ s b cs o. (refl, binder-parts s b cs o)) cells (even-rest _ e).0 (even-rest _ e).1)
      (λ e. from-two (Pairs 27) (λ s b cs o. (refl, let-parts s b cs o)) cells (even-rest _ e).0 (even-rest _ e).1)
      (λ k h l. reads-op cells k h l)
      k (length cells) t c c

-- ---- the cells of a term name earlier places
module _ (tags : List ℕ) (p : ℕ) (sort_at : ℕ → Sort) (before term_at : ℕ → Term) (agree : (c : ℕ) → c < p → before c ≡ term_at c) where
  agree-cell : (c : ℕ) → value_fits tags p OfTerm c ≡ true → before c ≡ term_at c
  agree-cell c h = agree c (term-cell tags p c h).0

  terms-agree : (shape : Shape) (j : ℕ) (cs : List ℕ) → ((i : ℕ) → j ≤ i → kind_at shape i ≡ OfTerm) → Each tags p shape j cs → terms_of before cs ≡ terms_of term_at cs
  unfolding terms_of
  terms-agree shape j [] k h = refl
  terms-agree shape j (c ∷ cs) k h = ap₂ tcons (agree-cell c (rw (k j (omega arith)) at h.0)) (terms-agree shape (suc j) cs (λ i l. k i (omega arith)) h.1)

  lets-agree : (j : ℕ) (cs : List ℕ) → 2 ≤ j → j % 2 ≡ 0 → Each tags p Let j cs → lets_of before cs ≡ lets_of term_at cs
  unfolding lets_of kind_at
  lets-agree j [] l e h = refl
  lets-agree j (a ∷ []) l e h = refl
  lets-agree j (a ∷ (t ∷ cs)) l e h =
      ap₂ (lcons a) (agree-cell t (rw (pair-second OfTerm j l e) at h.1.0)) (lets-agree (suc (suc j)) cs (omega arith) (omega arith) h.1.1)

  abbrev Agrees : ℕ → List ℕ → Type 0
  Agrees k cells = Each tags p (shape_of k) 0 cells → term_from k cells sort_at before ≡ term_from k cells sort_at term_at

  agrees-op : (cells : List ℕ) (k : ℕ) → 32 ≤ k → k < 167 → count_fits (shape_of k) (length cells) ≡ true → Agrees k cells
  unfolding count_fits kind_at
  agrees-op cells k h l e f =
      rw (term-op sort_at before k cells h l, term-op sort_at term_at k cells h l)
      (from_one (λ (cs : List ℕ). Each tags p Operator 0 cs → op k (sort_at (get_or cs 0 0)) (terms_of before (drop 1 cs)) ≡ op k (sort_at (get_or cs 0 0)) (terms_of term_at (drop 1 cs)))
      (λ s cs g. ap (op k (sort_at s)) (terms-agree Operator 1 cs (λ i j. not_first _ _ i j) g.1))
      cells (leb-true 1 (length cells) (rw (shape-op k h l) at e)) (rw (shape-op k h l) at f))

  agrees : (cells : List ℕ) (k : ℕ) → is_term_tag k ≡ true → count_fits (shape_of k) (length cells) ≡ true → Agrees k cells
  unfolding term_from shape_of count_fits kind_at pair_kind
  agrees cells k t c =
      by-term-tag (λ k. count_fits (shape_of k) (length cells) ≡ true → Agrees k cells)
      (λ e h. refl)
      (λ e h. refl)
      (λ e h. refl)
      (λ e h. refl)
      (λ e h. refl)
      (λ e h. refl)
      (λ e. from-two (Agrees 22) (λ s f cs h. ap₂ (app (sort_at s)) (agree-cell f h.1.0) (terms-agree Application 2 cs (λ i l. not_first _ _ i (omega arith)) h.1.1)) cells (leb-true _ _ e))
      (λ e. from-two (Agrees 23) (λ s b cs h. ap (quant true (sort_at s) (vars_of sort_at cs)) (agree-cell b h.1.0)) cells (even-rest _ e).0)
      (λ e. from-two (Agrees 24) (λ s b cs h. ap (quant false (sort_at s) (vars_of sort_at cs)) (agree-cell b h.1.0)) cells (even-rest _ e).0)
      (λ e. from-two (Agrees 25) (λ s b cs h. ap (bind 25 (sort_at s) (vars_of sort_at cs)) (agree-cell b h.1.0)) cells (even-rest _ e).0)
      (λ e. from-two (Agrees 26) (λ s b cs h. ap (bind 26 (sort_at s) (vars_of sort_at cs)) (agree-cell b h.1.0)) cells (even-rest _ e).0)
      (λ e. from-two (Agrees 27) (λ s b cs h. ap₂ (letin (sort_at s)) (lets-agree 2 cs (omega arith) refl h.1.1) (agree-cell b h.1.0)) cells (even-rest _ e).0)
      (λ k h l. agrees-op cells k h l)
      k (length cells) t c c

-- ---- the theorems
module _ (tags values : List ℕ) (n : ℕ) (whole : n ≤ length values) (formed : first_bad tags values n ≡ None) where
  at : (t : ℕ) → t < n → is_term_tag (get_or tags t 0) ≡ true → Described tags values t
  at t h k = place-described tags values n formed whole t h (term-tagged _ k)

  -- the term at t is what its cells say
  pub term_is : (t : ℕ) → t < n → is_term_tag (get_or tags t 0) ≡ true
      → tree tags values t ≡ term_from (get_or tags t 0) (cells_of values t) (sort_tree tags values) (tree tags values)
  unfolding tree term_step
  term_is t h k =
      by_place-is (term_step tags values) no_term t
      ∙ agrees tags t (sort_tree tags values) (λ u. cond (ltb u t) (tree tags values u) no_term) (tree tags values) (λ c l. rw (lt-ltb c t l))
      (cells_of values t) (get_or tags t 0) k (at t h k).count (at t h k).each-cell

  read_at : (t : ℕ) → t < n → is_term_tag (get_or tags t 0) ≡ true → Reads (sort_tree tags values) (tree tags values) tag_of parts_of tags values t (tree tags values t)
  read_at t h k =
      let (e, p) = reads (sort_tree tags values) (tree tags values) (cells_of values t) (get_or tags t 0) k (at t h k).count in
      record { tag_is = rw (term_is t h k) e; parts_are = rw (term_is t h k) p }

  module _ (single : first_repeat tags values n ≡ None) where
    same-term : (d t u : ℕ) → t < d → t < n → u < n → is_term_tag (get_or tags t 0) ≡ true → is_term_tag (get_or tags u 0) ≡ true
        → tree tags values t ≡ tree tags values u → t ≡ u
    same-term zero t u f h l k m e = absurd (omega arith)
    same-term (suc d) t u f h l k m e =
        let (tag, cells) = one-description (sort_tree tags values) (tree tags values) tag_of parts_of tags values t u (tree tags values t)
        (read_at t h k) (rw e (read_at u l m)) (at t h k) (at u l m)
        (λ a b i j. sort-one tags values n whole formed single a b (omega arith) (omega arith))
        (λ a b i j. same-term d a b (omega arith) (omega arith) (omega arith)) in
        one_place tags values n formed single t u h l (term-tagged _ k) tag cells

    -- two places with equal terms are one place
    pub term-one : (t u : ℕ) → t < n → u < n → is_term_tag (get_or tags t 0) ≡ true → is_term_tag (get_or tags u 0) ≡ true
        → tree tags values t ≡ tree tags values u → t ≡ u
    term-one t u = same-term (suc t) t u (omega arith)
