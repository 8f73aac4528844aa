-- Laws of `build_forms`: what is built on each way out, the pool's cells that are kept, and the index of the pool.
-- Assumes nothing.
use Rattle.std.specs.Prelude.{Option, Some, None}
use Prim.Native.Nat.{ℕ, ◌<◌}
use mathlib.Core.Path.{◌≡◌, refl, sym, ap, ◌∙◌}
use mathlib.Core.Bool.{true}
use mathlib.Core.List.{List}
use lib.ListN.{length, get_or, take}
use lib.Seq.{get_or-take}
use native.Mathlib.Omega.{arith}
use Rattle.cells.specs.declared.TermPlace.{TermPlace}
use Rattle.descriptions.specs.Index.{Reached, Index, Earlier}
use Rattle.descriptions.proofs.description.Growth.{Same}
use Rattle.descriptions.proofs.index.Entries.{reached-same}
use Rattle.descriptions.proofs.index.Kept.{index_kept}
use Rattle.formulas.specs.Built.{taken_out_form}
use Rattle.building.specs.Arrays.{pool_of, normal_in, clausal_in}
use Rattle.building.specs.Walk.{State, Left, Holds, NormalBuilt}
use Rattle.normal_form.proofs.Clausal.{tags-kept, values-kept, clausal-on, clausal-full, clausal-then}
use Rattle.normal_form.specs.ClausalForms.{Both, FormsBuilt}

-- a cell below n, of arrays with equal first n cells
pub cell_same : (n : ℕ) (l l' : List ℕ) → take n l' ≡ take n l → (i : ℕ) → i < n → get_or l i 0 ≡ get_or l' i 0
cell_same n l l' e i h = sym (get_or-take n l i 0 h) ∙ (ap (λ (k : List ℕ). get_or k i 0) (sym e) ∙ get_or-take n l' i 0 h)

-- both forms, one after the other: the second is the taken-out normal form of the term
pub both-clausal : (n t : ℕ) (tags values : List ℕ) → State n n tags values → (x : TermPlace) (m : ℕ) (y : TermPlace) (k : ℕ) (tags₂ values₂ : List ℕ)
    → Both n t tags values x m y k tags₂ values₂ → NormalBuilt n tags values (clausal_in tags values n t) (Some (y, k)) tags₂ values₂
both-clausal n t tags values s x m y k tags₂ values₂ forms =
    clausal-then tags values n t (Some (x, m)) forms.tags₁ forms.values₁ forms.normal x m refl s forms.first-tags forms.first-values
    (Some (y, k)) tags₂ values₂ forms.taken

-- ---- arrays that have kept the pool's cells
module _ (n : ℕ) (tags values : List ℕ) (s : State n n tags values) (tags' values' : List ℕ) (left : Left n tags values tags' values') where
  kept_same : Same n tags' values' tags values
  kept_same = record {
    long = omega (arith, s.within, s.size, left.values-size);
    long' = omega (arith, s.within, s.size);
    tags-same = cell_same n tags tags' left.tags-kept;
    values_same = cell_same n values values' left.values-kept;
  }

  index-of-pool : (index : List ℕ) → Index tags' values' n index → Index tags values n index
  index-of-pool index i = index_kept n tags' values' tags values kept_same index i

  still-reached : Reached values n → Reached values' n
  still-reached r = reached-same values values' n (λ q h. sym (kept_same.values_same q h)) r (omega arith)

module _ (n t : ℕ) (tags values : List ℕ) (s : State n n tags values) (index : List ℕ) (i : Index tags values n index)
    (b : Option (TermPlace × ℕ)) (tags₁ values₁ : List ℕ) (first : NormalBuilt n tags values (normal_in tags values n t true) b tags₁ values₁) where
  -- ---- no room for the normal form
  module _ (e : b ≡ None) where
    no-normal : NormalBuilt n tags values (clausal_in tags values n t) None tags₁ values₁
    no-normal = clausal-full tags values n t b tags₁ values₁ first e

    pub no-normal-forms : FormsBuilt n t tags values None tags₁ values₁
    no-normal-forms = no-normal

    pub no-normal-ask : Earlier values₁ n n
    no-normal-ask = record { reached = still-reached n tags values s tags₁ values₁ no-normal.0 i.reached; before = omega arith; small = s.small }

    pub no-normal-index : (index' : List ℕ) → Index tags₁ values₁ n index' → Index tags values n index'
    no-normal-index = index-of-pool n tags values s tags₁ values₁ no-normal.0

  module _ (x : TermPlace) (m : ℕ) (e : b ≡ Some (x, m)) (b₂ : Option (TermPlace × ℕ)) (tags₂ values₂ : List ℕ)
      (second : NormalBuilt m tags₁ values₁ (taken_out_form (pool_of tags₁ values₁ m) x.0) b₂ tags₂ values₂)
      (size : length tags₁ ≡ length tags) (size₂ : length values₁ ≡ length values) where
    both-built : NormalBuilt n tags values (clausal_in tags values n t) b₂ tags₂ values₂
    both-built = clausal-then tags values n t b tags₁ values₁ first x m e s size size₂ b₂ tags₂ values₂ second

    -- ---- no room for the taken-out form
    module _ (f : b₂ ≡ None) where
      no-taken : NormalBuilt n tags values (clausal_in tags values n t) None tags₂ values₂
      no-taken = rw f at both-built

      pub no-taken-forms : FormsBuilt n t tags values None tags₂ values₂
      no-taken-forms = no-taken

      pub no-taken-ask : Earlier values₂ n n
      no-taken-ask = record { reached = still-reached n tags values s tags₂ values₂ no-taken.0 i.reached; before = omega arith; small = s.small }

      pub no-taken-index : (index' : List ℕ) → Index tags₂ values₂ n index' → Index tags values n index'
      no-taken-index = index-of-pool n tags values s tags₂ values₂ no-taken.0

    -- ---- both forms
    module _ (y : TermPlace) (k : ℕ) (f : b₂ ≡ Some (y, k)) (size' : length tags₂ ≡ length tags) (size₂' : length values₂ ≡ length values) where
      pub both-forms : FormsBuilt n t tags values (Some (record { normal = x; normal_count = m; taken_out = y; count = k })) tags₂ values₂
      both-forms = record {
        tags₁ = tags₁;
        values₁ = values₁;
        normal = rw e at first;
        taken = rw f at second;
        first-tags = size;
        first-values = size₂;
        tags-size = size';
        values-size = size₂';
      }

      clausal : Holds n (clausal_in tags values n t) y.0 k tags₂ values₂
      clausal = let (h, room) = rw f at both-built in h

      left : Left n tags values tags₂ values₂
      left =
          let on = clausal-on tags values n t s in
          record {
            tags-size = size';
            values-size = size₂';
            tags-kept = tags-kept n tags values s _ on y.0 k tags₂ values₂ clausal;
            values-kept = values-kept n tags values s _ on y.0 k tags₂ values₂ clausal;
          }

      pub both-ask : Earlier values₂ n k
      both-ask = record {
        reached = still-reached n tags values s tags₂ values₂ left i.reached;
        before = clausal.state.source;
        small = clausal.state.small;
      }

      pub both-index : (index' : List ℕ) → Index tags₂ values₂ n index' → Index tags values n index'
      both-index = index-of-pool n tags values s tags₂ values₂ left
