-- The public normal form of a term: in every reading the term that it puts has the value of the term at true polarity, and the negated
-- value at false polarity, whatever the number of new cells.
-- 01, demand 3, of `negation_normal_form`.
-- Assumes nothing.
use Prim.Native.Nat.{ℕ, ◌<◌}
use mathlib.Core.Path.{◌≡◌, refl, sym, ap, ◌∙◌}
use mathlib.Core.Bool.{Bool, true, not}
use mathlib.Core.List.{List}
use lib.ListN.{get_or, take}
use lib.Seq.{get_or-take, length-take-le}
use native.Mathlib.Omega.{arith}
use Rattle.cells.proofs.Walks.{first-end}
use Rattle.headers.specs.WellFormed.{is_term_tag, header_fits}
use Rattle.descriptions.proofs.description.Fills.{well-formed-fills}
use Rattle.descriptions.proofs.description.Growth.{Same}
use Rattle.meaning.specs.Term.{Term}
use Rattle.meaning.specs.Tree.{tree}
use Rattle.meaning.proofs.trees.Passed.{Passed}
use Rattle.formulas.specs.Normal.{nnf}
use Rattle.formulas.specs.Built.{count}
use Rattle.meaning.specs.Skeleton.{skeleton, build}
use Rattle.meaning.specs.Truth.{Reading, True, HasValue}
use Rattle.meaning.proofs.places.FormTree.{one_bool}
use Rattle.meaning.proofs.truth.NormalTruth.{normal-truth}
use Rattle.meaning.proofs.places.SameTree.{formed-kept, tree-kept}
use Rattle.building.specs.Arrays.{pool_of}
use Rattle.normal_form.specs.Calls.{normal_place}
use Rattle.building.proofs.build.Laws.{pool-good}
use Rattle.normal_form.proofs.TreeGrows.{Sound}
use Rattle.normal_form.proofs.InternTree.{term_in, Interned, normal-form-tree}

module _ {tags values rules : List ℕ} {n : ℕ} (c : Passed tags values rules n) where
  -- ---- the used cells alone
  pub used-same : Same n tags values (take n tags) (take n values)
  used-same = record {
    long = c.whole;
    long' = rw (length-take-le n values c.whole) (omega arith);
    tags-same = λ i h. get_or-take n tags i 0 h;
    values_same = λ i h. get_or-take n values i 0 h;
  }

  pub used-count : count (pool_of tags values n) ≡ n
  used-count = length-take-le n tags (omega (arith, c.equal, c.whole))

  pub used_sound : Sound (pool_of tags values n)
  used_sound = record {
    good = pool-good n n tags values (record {
      size = c.equal;
      within = omega (arith, c.equal, c.whole);
      small = c.limit;
      fills = well-formed-fills tags values n c.formed;
      source = omega arith;
    });
    formed =
        rw used-count
        (formed-kept n tags values (take n tags) (take n values) used-same c.formed n (omega arith)
        (sym (first-end (take n values) n (λ p. not (header_fits (take n tags) (take n values) n p)) _ n refl (omega arith))));
    some = let z : n ≡ 0 → ⊥ = c.some in rw used-count (omega arith);
  }

  module _ (t : ℕ) (h : t < n) (k : is_term_tag (get_or tags t 0) ≡ true) where
    pub used-tree : term_in (pool_of tags values n) t ≡ tree tags values t
    used-tree = tree-kept n tags values (take n tags) (take n values) used-same c.formed t h k

    -- the normal form stands as the term that it builds
    pub normal-form-is : (p : Bool) → Interned (pool_of tags values n) (normal_place tags values rules n t p) (build (nnf (skeleton (tree tags values t)) p))
    normal-form-is p =
        rw used-tree at
        (normal-form-tree (pool_of tags values n) used_sound
        (λ s l e. one_bool c s (omega (arith, used-count)) (sym (get_or-take n tags s 0 (omega (arith, used-count))) ∙ e))
        t (omega (arith, used-count)) (rw (get_or-take n tags t 0 h) k) p)

    -- its truth
    pub normal-form-truth : (R : Reading) (p : Bool)
        → HasValue R p (term_in (normal_place tags values rules n t p).pool (normal_place tags values rules n t p).place) (tree tags values t)
    normal-form-truth R p ρ = ap (λ (x : Term). True R x ρ) (normal-form-is p).is ∙ normal-truth R (tree tags values t) p ρ
