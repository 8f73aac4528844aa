-- What is put after n cells: no description twice, and every new header is a `not`, `and`, `or`, forall or exists that states the sort at
-- place 0.
--     Clean            this of a pool that goes on from n cells
--     intern-clean     a form that is put keeps it so
-- Assumes nothing.
use Rattle.std.specs.Prelude.{Option, Some, None}
use Prim.Native.Nat.{ℕ, suc, ◌+◌, ◌-◌, ◌≤◌, ◌<◌}
use mathlib.Core.Path.{◌≡◌, refl, ap, ◌∙◌}
use mathlib.Core.Bool.{true, false}
use mathlib.Core.List.{List, [], ◌∷◌}
use lib.ListN.{length, get_or, replicate, get_or-replicate}
use lib.Seq.{get_or_at, get_or-append-add}
use lib.Dec.{ltb, eqb}
use native.Mathlib.Omega.{arith}
use borrow.Author.Tests.{ltb-true, ltb-false, eqb-true, eqb-false}
use Rattle.cells.specs.ByPlace.{by-test}
use Rattle.descriptions.specs.Description.{find, first_repeat}
use Rattle.formulas.specs.Normal.{Normal, Normals, lit, nmany, nall, nnil, ncons}
use Rattle.formulas.specs.Built.{Pool, count, extend, place_at, put, intern, interns}
use Rattle.building.proofs.Interning.{Good, PutOn, extend-count, put_on}
use Rattle.normal_form.proofs.Repeats.{repeat-extended}

-- the tags of the terms that are built
pub data BuiltTag : ℕ → Type 0 where
  forall-tag : BuiltTag 23
  exists-tag : BuiltTag 24
  not-tag : BuiltTag 34
  and-tag : BuiltTag 36
  or-tag : BuiltTag 37

pub record BuiltAt (q : Pool) (t : ℕ) : Type 0 where
  pub inside : t + 1 < count q
  pub states-bool : get_or q.values (t + 1) 0 ≡ 0
  pub tag : BuiltTag (get_or q.tags t 0)

pub record Clean (n : ℕ) (q : Pool) : Type 0 where
  pub good : Good q
  pub single : first_repeat q.tags q.values (count q) ≡ None
  pub built : (t : ℕ) → n ≤ t → t < count q → (get_or q.tags t 0 ≡ 0 → ⊥) → BuiltAt q t

module _ (n : ℕ) where
  -- ---- one more header, with the sort at place 0
  module _ (q : Pool) (k : ℕ) (us : List ℕ) (b : BuiltTag k) (c : Clean n q) where
    abbrev q⁺ : Pool
    q⁺ = extend q k (0 ∷ us)

    longer : count q⁺ ≡ count q + 1 + suc (length us)
    longer = extend-count q k (0 ∷ us)

    new-tag : get_or q⁺.tags (count q) 0 ≡ k
    new-tag = get_or_at q.tags k (replicate (length (0 ∷ us)) 0) 0 (count q) refl

    new-sort : get_or q⁺.values (count q + 1) 0 ≡ 0
    new-sort =
        let z : count q + 1 ≡ length q.values + 1 = omega (arith, c.good.size) in
        ap (λ (i : ℕ). get_or q⁺.values i 0) z ∙ get_or-append-add q.values (length (0 ∷ us) ∷ (0 ∷ us)) 1 0

    new-blank : (t : ℕ) → count q < t → t < count q⁺ → get_or q⁺.tags t 0 ≡ 0
    new-blank t h l =
        let j : ℕ = t - suc (count q) in
        let z : t ≡ length q.tags + suc j = omega arith in
        ap (λ (i : ℕ). get_or q⁺.tags i 0) z
        ∙ (get_or-append-add q.tags (k ∷ replicate (length (0 ∷ us)) 0) (suc j) 0 ∙ get_or-replicate (length (0 ∷ us)) j 0 0 (omega (arith, longer)))

    built-on : PutOn q k (0 ∷ us) (record { pool = q⁺; place = count q }) → (t : ℕ) → n ≤ t → t < count q⁺ → (get_or q⁺.tags t 0 ≡ 0 → ⊥) → BuiltAt q⁺ t
    built-on o t h l tagged =
        by-test (ltb t (count q))
        (λ e.
        let m : t < count q = ltb-true t (count q) e in
        let old = c.built t h m (λ z. tagged (o.grows.tags-same t m ∙ z)) in
        record {
          inside = omega (arith, old.inside, longer);
          states-bool = o.grows.values_same (t + 1) old.inside ∙ old.states-bool;
          tag = rw (o.grows.tags-same t m) old.tag;
        })
        (λ e. by-test (eqb t (count q))
        (λ i.
        let z : t ≡ count q = eqb-true t (count q) i in
        record { inside = omega (arith, longer); states-bool = rw z new-sort; tag = rw (z, new-tag) b })
        (λ i. absurd (tagged (new-blank t (omega (arith, ltb-false t (count q) e, eqb-false t (count q) i)) l))))

    pub put-clean : Clean n (put q k (0 ∷ us)).pool
    unfolding put
    put-clean = go (find q.tags q.values (count q) k (0 ∷ us)) refl (put_on q k (0 ∷ us) c.good)
      where
        go : (f : Option ℕ) → find q.tags q.values (count q) k (0 ∷ us) ≡ f → PutOn q k (0 ∷ us) (place_at q k (0 ∷ us) f) → Clean n (place_at q k (0 ∷ us) f).pool
        go (Some p) e o = c
        go None e o = record {
          good = o.good;
          single = repeat-extended q k (0 ∷ us) c.good o.good o.grows e o.found c.single;
          built = built-on o;
        }

  -- ---- a form
  mutual
    unfolding intern interns

    pub intern-clean : (f : Normal (List ℕ) ℕ) (q : Pool) → Clean n q → Clean n (intern f q).pool
    intern-clean (lit true x) q c = c
    intern-clean (lit false x) q c = put-clean q 34 (x ∷ []) not-tag c
    intern-clean (nmany true ns) q c = put-clean (interns ns q).pool 36 (interns ns q).places and-tag (interns-clean ns q c)
    intern-clean (nmany false ns) q c = put-clean (interns ns q).pool 37 (interns ns q).places or-tag (interns-clean ns q c)
    intern-clean (nall true vs m) q c = put-clean (intern m q).pool 23 ((intern m q).place ∷ vs) forall-tag (intern-clean m q c)
    intern-clean (nall false vs m) q c = put-clean (intern m q).pool 24 ((intern m q).place ∷ vs) exists-tag (intern-clean m q c)

    interns-clean : (fs : Normals (List ℕ) ℕ) (q : Pool) → Clean n q → Clean n (interns fs q).pool
    interns-clean nnil q c = c
    interns-clean (ncons m ms) q c = interns-clean ms (intern m q).pool (intern-clean m q c)
