-- Laws of the two forms that are built of a term one after the other, its normal form and that with foralls taken out: what the first
-- leaves the second to start from, and that the cells of the pool before both are kept.
-- Assumes nothing.
use Rattle.std.specs.Prelude.{Option, Some, None}
use Prim.Native.Nat.{ℕ, zero, suc, ◌≤◌, ◌<◌}
use mathlib.Core.Path.{◌≡◌, refl, sym, ap, ap₂, ◌∙◌}
use mathlib.Core.Bool.{true}
use mathlib.Core.List.{List, [], ◌∷◌}
use lib.ListN.{length, get_or, take}
use lib.Seq.{get_or-take, take-take}
use native.Mathlib.Omega.{arith}
use Rattle.cells.specs.declared.TermPlace.{TermPlace}
use Rattle.descriptions.specs.Description.{zero_from}
use Rattle.descriptions.proofs.description.Fills.{well-formed-fills}
use Rattle.meaning.proofs.trees.Passed.{Passed}
use Rattle.formulas.specs.Normal.{prenex}
use Rattle.formulas.specs.Built.{Pool, Placed, count, normal_form, normal_at, taken_out_form}
use Rattle.building.specs.Arrays.{pool_of, normal_in, clausal_in}
use Rattle.building.specs.Walk.{State, Holds, NormalBuilt}
use Rattle.building.proofs.Interning.{GoesOn, grows-trans, becomes-longer, intern-becomes, intern-goes-on}
use Rattle.building.proofs.build.Laws.{fits_not, pool-count, pool-good}

-- ---- what the walkers start from
pub passed-state : {tags values rules : List ℕ} {n : ℕ} → Passed tags values rules n → State n n tags values
passed-state {tags} {values} {rules} {n} p = record {
  size = p.equal;
  within = omega (arith, p.whole, p.equal);
  small = p.limit;
  fills = well-formed-fills tags values n p.formed;
  source = omega arith;
}

-- ---- the cells of a pool that has grown
-- arrays that have kept their first n cells, cut back to these
pub zero-kept : (n : ℕ) (l l' : List ℕ) → length l' ≡ length l → take n l' ≡ take n l → zero_from n l' ≡ zero_from n l
unfolding zero_from
zero-kept n l l' e k = rw (e, k)

pub take_same : (n : ℕ) (l l' : List ℕ) → n ≤ length l → n ≤ length l' → ((i : ℕ) → i < n → get_or l' i 0 ≡ get_or l i 0) → take n l' ≡ take n l
take_same zero l l' h h' e = refl
take_same (suc n) [] l' h h' e = absurd (omega arith)
take_same (suc n) (x ∷ l) [] h h' e = absurd (omega arith)
take_same (suc n) (x ∷ l) (y ∷ l') h h' e =
    ap₂ (λ (a : ℕ) (b : List ℕ). a ∷ b) (e 0 (omega arith)) (take_same n l l' (omega arith) (omega arith) (λ i k. e (suc i) (omega arith)))

-- arrays that hold a pool that goes on from the first n cells have kept these
module _ (n : ℕ) (tags values : List ℕ) (s : State n n tags values) (o : Placed) (on : GoesOn (pool_of tags values n) o.pool)
    (p m : ℕ) (tags₁ values₁ : List ℕ) (h : Holds n o p m tags₁ values₁) where
  cell-kept : (l l₁ used : List ℕ) → take m l₁ ≡ used → ((i : ℕ) → i < count (pool_of tags values n) → get_or used i 0 ≡ get_or (take n l) i 0)
      → (i : ℕ) → i < n → get_or l₁ i 0 ≡ get_or l i 0
  cell-kept l l₁ used e same i k =
      sym (get_or-take m l₁ i 0 (omega (arith, h.state.source)))
      ∙ (ap (λ (x : List ℕ). get_or x i 0) e
      ∙ (same i (omega (arith, pool-count tags values n s.within)) ∙ get_or-take n l i 0 k))

  pub tags-kept : take n tags₁ ≡ take n tags
  tags-kept =
      take_same n tags tags₁ s.within (omega (arith, h.state.within, h.state.source))
      (cell-kept tags tags₁ o.pool.tags (ap (λ (q : Pool). q.tags) h.pool-is) on.grows.tags-same)

  pub values-kept : take n values₁ ≡ take n values
  values-kept =
      take_same n values values₁ (omega (arith, s.within, s.size)) (omega (arith, h.state.within, h.state.size, h.state.source))
      (cell-kept values values₁ o.pool.values (ap (λ (q : Pool). q.values) h.pool-is) on.grows.values_same)

-- ---- a form taken out of a pool of n cells
pub taken-on : (n : ℕ) (tags values : List ℕ) (x : ℕ) → State n n tags values → GoesOn (pool_of tags values n) (taken_out_form (pool_of tags values n) x).pool
unfolding taken_out_form
taken-on n tags values x s = intern-goes-on (prenex (normal_at (pool_of tags values n) x)) (pool_of tags values n) (pool-good n n tags values s)

-- ---- the normal form, and that with foralls taken out
module _ (tags values : List ℕ) (n t : ℕ) where
  normal-on : State n n tags values → GoesOn (pool_of tags values n) (normal_in tags values n t true).pool
  unfolding normal_form
  normal-on s = intern-goes-on _ (pool_of tags values n) (pool-good n n tags values s)

  pub clausal-on : State n n tags values → GoesOn (pool_of tags values n) (clausal_in tags values n t).pool
  unfolding taken_out_form
  clausal-on s =
      let g = normal-on s in
      let h = intern-goes-on (prenex (normal_at (normal_in tags values n t true).pool (normal_in tags values n t true).place))
      (normal_in tags values n t true).pool g.good in
      record { good = h.good; grows = grows-trans _ _ _ g.grows h.grows }

  clausal-longer : count (normal_in tags values n t true).pool ≤ count (clausal_in tags values n t).pool
  unfolding taken_out_form
  clausal-longer = becomes-longer _ _ (intern-becomes _ (normal_in tags values n t true).pool)

  module _ (b : Option (TermPlace × ℕ)) (tags₁ values₁ : List ℕ) (built : NormalBuilt n tags values (normal_in tags values n t true) b tags₁ values₁) where
    pub clausal-full : b ≡ None → NormalBuilt n tags values (clausal_in tags values n t) None tags₁ values₁
    clausal-full e = let (left, full) = rw e at built in (left, fits_not _ _ (length tags) clausal-longer full)

    module _ (x : TermPlace) (m : ℕ) (e : b ≡ Some (x, m)) where
      pub normal-holds : Holds n (normal_in tags values n t true) x.0 m tags₁ values₁
      normal-holds = let (h, room) = rw e at built in h

      -- what taking the foralls out starts from
      pub normal-state : State m m tags₁ values₁
      normal-state =
          let s = normal-holds.state in
          record { size = s.size; within = s.within; small = s.small; fills = s.fills; source = omega arith }

      clausal-is : taken_out_form (pool_of tags₁ values₁ m) x.0 ≡ clausal_in tags values n t
      clausal-is = ap₂ taken_out_form normal-holds.pool-is normal-holds.place_is

      pub clausal-then : State n n tags values → length tags₁ ≡ length tags → length values₁ ≡ length values → (r : Option (TermPlace × ℕ)) (tags₂ values₂ : List ℕ)
          → NormalBuilt m tags₁ values₁ (taken_out_form (pool_of tags₁ values₁ m) x.0) r tags₂ values₂
          → NormalBuilt n tags values (clausal_in tags values n t) r tags₂ values₂
      clausal-then s size size₂ (Some (p, l)) tags₂ values₂ y =
          let (h, room) = rw clausal-is at y in (
            record {
              pool-is = h.pool-is;
              place_is = h.place_is;
              below = h.below;
              state = record {
                size = h.state.size;
                within = h.state.within;
                small = h.state.small;
                fills = h.state.fills;
                source = omega (arith, h.state.source, normal-holds.state.source);
              };
            },
            rw size at room,
          )
      clausal-then s size size₂ None tags₂ values₂ y =
          let (left, full) = rw clausal-is at y in
          let less : n ≤ m = normal-holds.state.source in (
            record {
              tags-size = left.tags-size ∙ size;
              values-size = left.values-size ∙ size₂;
              tags-kept = sym (take-take n m tags₂ less) ∙ (ap (take n) left.tags-kept ∙ (take-take n m tags₁ less
                  ∙ tags-kept n tags values s (normal_in tags values n t true) (normal-on s) x.0 m tags₁ values₁ normal-holds));
              values-kept = sym (take-take n m values₂ less) ∙ (ap (take n) left.values-kept ∙ (take-take n m values₁ less
                  ∙ values-kept n tags values s (normal_in tags values n t true) (normal-on s) x.0 m tags₁ values₁ normal-holds));
            },
            rw size at full,
          )
