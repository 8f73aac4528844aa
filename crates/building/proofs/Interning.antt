-- Laws of putting forms into a pool: the pool grows, what was put stands there, and what stands is found again however the pool grows.
-- Assumes nothing.
use Rattle.std.specs.Prelude.{Option, Some, None}
use Prim.Native.Nat.{ℕ, ◌+◌, ◌≤◌, ◌<◌}
use mathlib.Core.Path.{◌≡◌, refl, sym, ap, ◌∙◌}
use mathlib.Core.Bool.{true, false}
use mathlib.Core.List.{List, [], ◌∷◌, ◌++◌}
use lib.ListN.{length, get_or, replicate, length-append, length-replicate, get_or-append}
use lib.Seq.{get_or_at, drop_at, take-length, append_snoc}
use native.Mathlib.Omega.{arith}
use borrow.Author.Tests.{eq-eqb}
use Rattle.cells.specs.Cell.{cells_of, is_at}
use Rattle.descriptions.specs.Description.{find}
use Rattle.cells.proofs.Cells.{same_refl}
use Rattle.cells.proofs.Walks.{first-here, first_below}
use Rattle.descriptions.proofs.description.Fills.{Fills, filled, more, fills-grown}
use Rattle.descriptions.proofs.description.Growth.{Same, find-grown}
use Rattle.formulas.specs.Normal.{Normal, Normals, lit, nmany, nall, nnil, ncons}
use Rattle.formulas.specs.Built.{Pool, Placed, PlacedAll, count, extend, place_at, put, intern, interns}
use Rattle.formulas.specs.Formula.{quantifier_tag, connective_tag}
use Rattle.building.specs.Walk.{Stands, StandAll}

-- a pool whose headers with their cells fill it
pub record Good (q : Pool) : Type 0 where
  pub size : length q.values ≡ count q
  pub fills : Fills q.values (count q) 0

-- q' has the cells of q, and then its own
pub record Grows (q q' : Pool) : Type 0 where
  pub longer : count q ≤ count q'
  pub tags-same : (i : ℕ) → i < count q → get_or q'.tags i 0 ≡ get_or q.tags i 0
  pub values_same : (i : ℕ) → i < count q → get_or q'.values i 0 ≡ get_or q.values i 0

pub grows-refl : (q : Pool) → Grows q q
grows-refl q = record { longer = omega arith; tags-same = λ i h. refl; values_same = λ i h. refl }

pub grows-trans : (q q₁ q₂ : Pool) → Grows q q₁ → Grows q₁ q₂ → Grows q q₂
grows-trans q q₁ q₂ g h = record {
  longer = omega (arith, g.longer, h.longer);
  tags-same = λ i l. h.tags-same i (omega (arith, g.longer)) ∙ g.tags-same i l;
  values_same = λ i l. h.values_same i (omega (arith, g.longer)) ∙ g.values_same i l;
}

-- what a pool becomes: itself, or a longer one
pub data Becomes (q : Pool) : Pool → Type 0 where
  same : Becomes q q
  longer : {q' : Pool} → count q < count q' → Becomes q q'

becomes-trans : (q q₁ q₂ : Pool) → Becomes q q₁ → Becomes q₁ q₂ → Becomes q q₂
becomes-trans q q₁ q₂ same b = b
becomes-trans q q₁ q₂ (longer h) same = longer h
becomes-trans q q₁ q₂ (longer h) (longer l) = longer {q' = q₂} (omega arith)

pub becomes-longer : (q q' : Pool) → Becomes q q' → count q ≤ count q'
becomes-longer q q' same = omega arith
becomes-longer q q' (longer h) = omega arith

-- a pool that comes back to itself did not change on the way
becomes-back : (q q₁ : Pool) → Becomes q q₁ → Becomes q₁ q → q₁ ≡ q
becomes-back q q₁ same b = refl
becomes-back q q₁ (longer h) b = absurd (omega (arith, becomes-longer q₁ q b))

-- ---- one more header
module _ (q : Pool) (tag : ℕ) (cells : List ℕ) where
  pub extend-count : count (extend q tag cells) ≡ count q + 1 + length cells
  extend-count = simp (length-append, length-replicate) (omega arith)

  module _ (good : Good q) where
    extend-size : length (q.values ++ (length cells ∷ cells)) ≡ count q + 1 + length cells
    extend-size = simp length-append (omega (arith, good.size))

    extend-grows : Grows q (extend q tag cells)
    extend-grows = record {
      longer = omega (arith, extend-count);
      tags-same = λ i h. get_or-append q.tags (tag ∷ replicate (length cells) 0) 0 i h;
      values_same = λ i h. get_or-append q.values (length cells ∷ cells) 0 i (omega (arith, good.size));
    }

    extend-header : get_or (q.values ++ (length cells ∷ cells)) (count q) 0 ≡ length cells
    extend-header = get_or_at q.values (length cells) cells 0 (count q) good.size

    extend-cells : cells_of (q.values ++ (length cells ∷ cells)) (count q) ≡ cells
    unfolding cells_of
    extend-cells =
        rw (extend-header, ← append_snoc q.values (length cells) cells)
        (rw (drop_at (q.values ++ (length cells ∷ [])) cells (count q + 1) (simp length-append (omega (arith, good.size))))
        (take-length cells))

    extend-at : is_at (extend q tag cells).tags (extend q tag cells).values (count q) tag cells ≡ true
    unfolding is_at
    extend-at =
        rw (eq-eqb _ _ (get_or_at q.tags tag (replicate (length cells) 0) 0 (count q) refl), extend-cells)
        (same_refl cells)

    extend-good : Good (extend q tag cells)
    extend-good =
        let e : count q + (1 + get_or (extend q tag cells).values (count q) 0) ≡ count (extend q tag cells) = omega (arith, extend-count, extend-header) in
        record {
          size = extend-size ∙ sym extend-count;
          fills = fills-grown q.values (count q) (extend q tag cells).values (count (extend q tag cells)) (omega (arith, extend-count)) extend-grows.values_same good.fills
              (more {p = count q} (omega (arith, extend-count)) (omega (arith, extend-count, extend-header)) (rw e filled));
        }

-- ---- a description that stands
module _ (q q' : Pool) (good : Good q) (good' : Good q') (g : Grows q q') where
  grows-cells : Same (count q) q.tags q.values q'.tags q'.values
  grows-cells = record {
    long = omega (arith, good.size);
    long' = omega (arith, good'.size, g.longer);
    tags-same = g.tags-same;
    values_same = g.values_same;
  }

  -- is found there in every pool that goes on
  find-still : (tag : ℕ) (cells : List ℕ) (p : ℕ) → find q.tags q.values (count q) tag cells ≡ Some p
      → find q'.tags q'.values (count q') tag cells ≡ Some p
  find-still tag cells p e =
      rw (find-grown (count q) q.tags q.values q'.tags q'.values grows-cells (count q') tag cells g.longer good.fills, e)

-- ---- putting a description
-- o is a pool that goes on from q, with the description at its place
pub record PutOn (q : Pool) (tag : ℕ) (cells : List ℕ) (o : Placed) : Type 0 where
  pub good : Good o.pool
  pub grows : Grows q o.pool
  pub below : o.place < count o.pool
  pub found : find o.pool.tags o.pool.values (count o.pool) tag cells ≡ Some o.place

module _ (q : Pool) (tag : ℕ) (cells : List ℕ) where
  pub put-becomes : Becomes q (put q tag cells).pool
  unfolding put
  put-becomes = go (find q.tags q.values (count q) tag cells)
    where
      go : (f : Option ℕ) → Becomes q (place_at q tag cells f).pool
      go (Some p) = same
      go None = longer {q' = extend q tag cells} (omega (arith, extend-count q tag cells))

  pub put-found : (p : ℕ) → find q.tags q.values (count q) tag cells ≡ Some p → put q tag cells ≡ record { pool = q; place = p }
  unfolding put
  put-found p e = rw e

  pub put_on : Good q → PutOn q tag cells (put q tag cells)
  unfolding put find
  put_on good = go (find q.tags q.values (count q) tag cells) refl
    where
      go : (f : Option ℕ) → find q.tags q.values (count q) tag cells ≡ f → PutOn q tag cells (place_at q tag cells f)
      go (Some p) e = record { good = good; grows = grows-refl q; below = first_below q.values (count q) _ p e; found = e }
      go None e = record {
        good = extend-good q tag cells good;
        grows = extend-grows q tag cells good;
        below = omega (arith, extend-count q tag cells);
        found =
            rw (
              find-grown (count q) q.tags q.values (extend q tag cells).tags (extend q tag cells).values
                  (grows-cells q (extend q tag cells) good (extend-good q tag cells good) (extend-grows q tag cells good))
                  (count (extend q tag cells)) tag cells (extend-grows q tag cells good).longer good.fills,
              e,
            )
            (sym (first-here (extend q tag cells).values (count (extend q tag cells)) (λ p. is_at (extend q tag cells).tags (extend q tag cells).values p tag cells) _ (count q) refl
            (omega (arith, extend-count q tag cells)) true (sym (extend-at q tag cells good)) refl));
      }

  -- a put that leaves a pool as it was before: the description stood there
  put_back : (q₀ : Pool) (p : ℕ) → Becomes q₀ q → put q tag cells ≡ record { pool = q₀; place = p }
      → (q ≡ q₀) × (find q.tags q.values (count q) tag cells ≡ Some p)
  unfolding put
  put_back q₀ p b = go (find q.tags q.values (count q) tag cells)
    where
      go : (f : Option ℕ) → place_at q tag cells f ≡ record { pool = q₀; place = p } → (q ≡ q₀) × (f ≡ Some p)
      go (Some x) e = (ap (λ (o : Placed). o.pool) e, ap (λ (o : Placed). Some o.place) e)
      go None e =
          let z : count (extend q tag cells) ≡ count q₀ = ap (λ (o : Placed). count o.pool) e in
          absurd (omega (arith, extend-count q tag cells, becomes-longer q₀ q b))

-- ---- putting a form
mutual
  unfolding intern interns

  pub intern-becomes : (f : Normal (List ℕ) ℕ) (q : Pool) → Becomes q (intern f q).pool
  intern-becomes (lit true x) q = same
  intern-becomes (lit false x) q = put-becomes q 34 (0 ∷ x ∷ [])
  intern-becomes (nmany b ns) q =
      becomes-trans q (interns ns q).pool _ (interns-becomes ns q) (put-becomes (interns ns q).pool (connective_tag b) (0 ∷ (interns ns q).places))
  intern-becomes (nall b vs n) q =
      becomes-trans q (intern n q).pool _ (intern-becomes n q) (put-becomes (intern n q).pool (quantifier_tag b) (0 ∷ (intern n q).place ∷ vs))

  pub interns-becomes : (fs : Normals (List ℕ) ℕ) (q : Pool) → Becomes q (interns fs q).pool
  interns-becomes nnil q = same
  interns-becomes (ncons n ns) q =
      becomes-trans q (intern n q).pool _ (intern-becomes n q) (interns-becomes ns (intern n q).pool)

-- q' goes on from q, filled by its headers
pub record GoesOn (q q' : Pool) : Type 0 where
  pub good : Good q'
  pub grows : Grows q q'

goes_on : (q q₁ q₂ : Pool) → GoesOn q q₁ → GoesOn q₁ q₂ → GoesOn q q₂
goes_on q q₁ q₂ g h = record { good = h.good; grows = grows-trans q q₁ q₂ g.grows h.grows }

pub put-goes-on : (q : Pool) (tag : ℕ) (cells : List ℕ) → Good q → GoesOn q (put q tag cells).pool
put-goes-on q tag cells good = let o = put_on q tag cells good in record { good = o.good; grows = o.grows }

mutual
  unfolding intern interns

  pub intern-goes-on : (f : Normal (List ℕ) ℕ) (q : Pool) → Good q → GoesOn q (intern f q).pool
  intern-goes-on (lit true x) q good = record { good = good; grows = grows-refl q }
  intern-goes-on (lit false x) q good = put-goes-on q 34 (0 ∷ x ∷ []) good
  intern-goes-on (nmany b ns) q good =
      let g = interns-goes-on ns q good in
      goes_on q (interns ns q).pool _ g (put-goes-on (interns ns q).pool (connective_tag b) (0 ∷ (interns ns q).places) g.good)
  intern-goes-on (nall b vs n) q good =
      let g = intern-goes-on n q good in
      goes_on q (intern n q).pool _ g (put-goes-on (intern n q).pool (quantifier_tag b) (0 ∷ (intern n q).place ∷ vs) g.good)

  pub interns-goes-on : (fs : Normals (List ℕ) ℕ) (q : Pool) → Good q → GoesOn q (interns fs q).pool
  interns-goes-on nnil q good = record { good = good; grows = grows-refl q }
  interns-goes-on (ncons n ns) q good =
      let g = intern-goes-on n q good in
      goes_on q (intern n q).pool _ g (interns-goes-on ns (intern n q).pool g.good)

-- ---- a form that stands does so in every pool that goes on
module _ (q q' : Pool) (good : Good q) (good' : Good q') (g : Grows q q') where
  put-still : (q₁ : Pool) (tag : ℕ) (cells : List ℕ) (p : ℕ) → Becomes q q₁ → put q₁ tag cells ≡ record { pool = q; place = p }
      → (q₁ ≡ q) × (put q' tag cells ≡ record { pool = q'; place = p })
  put-still q₁ tag cells p b e =
      let (s, f) = put_back q₁ tag cells q p b e in
      (s, put-found q' tag cells p (find-still q q' good good' g tag cells p (rw s at f)))

  mutual
    unfolding intern interns

    pub stands-still : (f : Normal (List ℕ) ℕ) (p : ℕ) → Stands q f p → Stands q' f p
    stands-still (lit true x) p e = rw (ap (λ (o : Placed). o.place) e)
    stands-still (lit false x) p e = (put-still q 34 (0 ∷ x ∷ []) p same e).1
    stands-still (nmany b ns) p e =
        let (s, f) = put-still (interns ns q).pool (connective_tag b) (0 ∷ (interns ns q).places) p (interns-becomes ns q) e in
        rw (stand-still ns (interns ns q).places (ap (λ (x : Pool). record { pool = x; places = (interns ns q).places }) s)) f
    stands-still (nall b vs n) p e =
        let (s, f) = put-still (intern n q).pool (quantifier_tag b) (0 ∷ (intern n q).place ∷ vs) p (intern-becomes n q) e in
        rw (stands-still n (intern n q).place (ap (λ (x : Pool). record { pool = x; place = (intern n q).place }) s)) f

    pub stand-still : (fs : Normals (List ℕ) ℕ) (ps : List ℕ) → StandAll q fs ps → StandAll q' fs ps
    stand-still nnil ps e = rw (ap (λ (o : PlacedAll). o.places) e)
    stand-still (ncons n ns) ps e =
        let r = intern n q in
        let s = interns ns r.pool in
        let back : s.pool ≡ q = ap (λ (o : PlacedAll). o.pool) e in
        let here : r.pool ≡ q = becomes-back q r.pool (intern-becomes n q) (rw back at (interns-becomes ns r.pool)) in
        let first : Stands q' n r.place = stands-still n r.place (ap (λ (x : Pool). record { pool = x; place = r.place }) here) in
        let rest : StandAll q' ns s.places = stand-still ns s.places (ap (interns ns) (sym here) ∙ ap (λ (x : Pool). record { pool = x; places = s.places }) back) in
        let are : r.place ∷ s.places ≡ ps = ap (λ (o : PlacedAll). o.places) e in
        rw (first, rest, are)

-- ---- what was put stands
mutual
  unfolding intern interns

  pub intern-stands : (f : Normal (List ℕ) ℕ) (q : Pool) → Good q → Stands (intern f q).pool f (intern f q).place
  intern-stands (lit true x) q good = refl
  intern-stands (lit false x) q good = put-found _ 34 (0 ∷ x ∷ []) _ (put_on q 34 (0 ∷ x ∷ []) good).found
  intern-stands (nmany b ns) q good =
      let r = interns ns q in
      let g = interns-goes-on ns q good in
      let o = put_on r.pool (connective_tag b) (0 ∷ r.places) g.good in
      rw (stand-still r.pool _ g.good o.good o.grows ns r.places (interns-stand ns q good))
      (put-found _ (connective_tag b) (0 ∷ r.places) _ o.found)
  intern-stands (nall b vs n) q good =
      let r = intern n q in
      let g = intern-goes-on n q good in
      let o = put_on r.pool (quantifier_tag b) (0 ∷ r.place ∷ vs) g.good in
      rw (stands-still r.pool _ g.good o.good o.grows n r.place (intern-stands n q good))
      (put-found _ (quantifier_tag b) (0 ∷ r.place ∷ vs) _ o.found)

  pub interns-stand : (fs : Normals (List ℕ) ℕ) (q : Pool) → Good q → StandAll (interns fs q).pool fs (interns fs q).places
  interns-stand nnil q good = refl
  interns-stand (ncons n ns) q good =
      let r = intern n q in
      let g = intern-goes-on n q good in
      let h = interns-goes-on ns r.pool g.good in
      rw (stands-still r.pool _ g.good h.good h.grows n r.place (intern-stands n q good), interns-stand ns r.pool g.good)
