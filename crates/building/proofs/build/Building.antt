-- Laws of walkers that build: one step after another, a refusal on the way, and one more term. They hold whatever forms the memo has.
-- Assumes nothing.
use Rattle.std.specs.Prelude.{Option, Some, None}
use Prim.Native.Nat.{ℕ, suc, ◌≤◌, ◌<◌}
use mathlib.Core.Path.{◌≡◌, refl, sym, ap, ◌∙◌}
use mathlib.Core.Bool.{false}
use mathlib.Core.List.{List}
use lib.ListN.{length, get_or, take, set, length-set}
use lib.Seq.{take-take, take-set-lt, get_or-take, get_or-set_same, get_or-set_other}
use native.Mathlib.Omega.{arith}
use native.Mathlib.Decide.{ℕ_discrete}
use Rattle.cells.specs.Place.{term_at}
use Rattle.cells.specs.declared.TermPlace.{TermPlace}
use Rattle.formulas.specs.Normal.{Normal}
use Rattle.formulas.specs.Built.{Pool, Placed, count, intern}
use Rattle.building.specs.Arrays.{pool_of, fits}
use Rattle.building.specs.Walk.{State, Left, Holds, Puts, Stands, Builds, memo_of, MemoKept, FormsMemo, FormsNoted}
use Rattle.building.proofs.Interning.{GoesOn, stands-still, intern-stands}
use Rattle.building.proofs.build.Laws.{fits_not, pool-count, pool-good}

-- ---- the memo in a walk's array
pub memo-stays : (work : List ℕ) → MemoKept work work
memo-stays work = record { size = refl; same = refl }

pub memo-read : (work : List ℕ) (i : ℕ) → i < 16384 → get_or (memo_of work) i 0 ≡ get_or work i 0
unfolding memo_of
memo-read work i h = get_or-take 16384 work i 0 h

-- after an entry is written
module _ (work : List ℕ) (size : length work ≡ 24576) (i : ℕ) (h : i < 16384) (v : ℕ) where
  pub memo-here : get_or (memo_of (set work i v)) i 0 ≡ v
  memo-here = memo-read (set work i v) i h ∙ get_or-set_same work i v 0 (omega arith)

  memo-there : (j : ℕ) → (j ≡ i → ⊥) → get_or (memo_of (set work i v)) j 0 ≡ get_or (memo_of work) j 0
  unfolding memo_of
  memo-there j d = rw (take-set-lt 16384 work i v h) (get_or-set_other (take 16384 work) i j v 0 d)

-- ---- what is left
pub left-refl : (end : ℕ) (tags values : List ℕ) → Left end tags values tags values
left-refl end tags values = record { tags-size = refl; values-size = refl; tags-kept = refl; values-kept = refl }

left-trans : (end : ℕ) (tags values tags₁ values₁ tags₂ values₂ : List ℕ) → Left end tags values tags₁ values₁ → Left end tags₁ values₁ tags₂ values₂
    → Left end tags values tags₂ values₂
left-trans end tags values tags₁ values₁ tags₂ values₂ l k = record {
  tags-size = k.tags-size ∙ l.tags-size;
  values-size = k.values-size ∙ l.values-size;
  tags-kept = k.tags-kept ∙ l.tags-kept;
  values-kept = k.values-kept ∙ l.values-kept;
}

-- more cells that are kept
left_less : (end n : ℕ) (tags values tags' values' : List ℕ) → end ≤ n → Left n tags values tags' values' → Left end tags values tags' values'
left_less end n tags values tags' values' h l = record {
  tags-size = l.tags-size;
  values-size = l.values-size;
  tags-kept = rw (← take-take end n tags' h, ← take-take end n tags h, l.tags-kept);
  values-kept = rw (← take-take end n values' h, ← take-take end n values h, l.values-kept);
}

module _ (form_at : ℕ → Normal (List ℕ) ℕ) (end : ℕ) where
  -- one more term: nothing is kept in the memo
  module _ (n : ℕ) (tags values work : List ℕ) (s : State end n tags values) (right : FormsMemo form_at (pool_of tags values n) work) where
    pub builds-put : (o : Placed) → GoesOn (pool_of tags values n) o.pool → (r : Option (TermPlace × ℕ)) (tags' values' work' : List ℕ)
        → Puts n tags values o r tags' values' → MemoKept work work' → Builds form_at end tags values work o r tags' values' work'
    builds-put o on (Some (p, m)) tags' values' work' y kept =
        let h = y.outcome in
        record {
          puts = record {
            outcome = record {
              pool-is = h.pool-is;
              place_is = h.place_is;
              below = h.below;
              state = record {
                size = h.state.size;
                within = h.state.within;
                small = h.state.small;
                fills = h.state.fills;
                source = omega (arith, s.source, h.state.source);
              };
            };
            left = left_less end n tags values tags' values' s.source y.left;
          };
          memo-is = record {
            right = record {
              size = kept.size ∙ right.size;
              entry = λ i x e.
                  rw h.pool-is
                  (stands-still (pool_of tags values n) o.pool (pool-good end n tags values s) on.good on.grows (form_at i) x
                  (right.entry i x (rw kept.same at e)));
              below = λ i x e. omega (arith, ap (λ (q : Pool). count q) h.pool-is, right.below i x (rw kept.same at e), on.grows.longer);
            };
            keeps = λ i x e. rw kept.same e;
          };
        }
    builds-put o on None tags' values' work' y kept = record {
      puts = record { outcome = y.outcome; left = left_less end n tags values tags' values' s.source y.left };
      memo-is = tt;
    }

    -- nothing to do: the form stands
    pub builds-stood : (f : Normal (List ℕ) ℕ) (p : ℕ) → p < n → Stands (pool_of tags values n) f p
        → Builds form_at end tags values work (intern f (pool_of tags values n)) (Some ((term_at p), n)) tags values work
    builds-stood f p h e =
        rw e (record {
          puts = record { outcome = record { pool-is = refl; place_is = refl; below = h; state = s }; left = left-refl end tags values };
          memo-is = record { right = right; keeps = λ i x k. k };
        })

  module _ (tags values work : List ℕ) (o : Placed) (r : Option (TermPlace × ℕ)) (tags₁ values₁ work₁ : List ℕ) (b : Builds form_at end tags values work o r tags₁ values₁ work₁) where
    -- a refusal on the way refuses the whole
    pub builds-full : r ≡ None → (o' : Placed) → count o.pool ≤ count o'.pool → Builds form_at end tags values work o' None tags₁ values₁ work₁
    builds-full e o' h =
        let full : fits o.pool (length tags) ≡ false = rw e at b.puts.outcome in
        record { puts = record { outcome = fits_not o.pool o'.pool (length tags) h full; left = b.puts.left }; memo-is = tt }

    module _ (p : TermPlace) (m : ℕ) (e : r ≡ Some (p, m)) where
      pub builds-holds : Holds end o p.0 m tags₁ values₁
      builds-holds = rw e at b.puts.outcome

      pub builds-noted : FormsNoted form_at (pool_of tags₁ values₁ m) work work₁
      builds-noted = rw e at b.memo-is

      -- the next step
      pub builds-then : (o₂ : Placed) (r₂ : Option (TermPlace × ℕ)) (tags₂ values₂ work₂ : List ℕ) → Builds form_at end tags₁ values₁ work₁ o₂ r₂ tags₂ values₂ work₂
          → Builds form_at end tags values work o₂ r₂ tags₂ values₂ work₂
      builds-then o₂ (Some (q, l)) tags₂ values₂ work₂ b₂ = record {
        puts = record { outcome = b₂.puts.outcome; left = left-trans end tags values tags₁ values₁ tags₂ values₂ b.puts.left b₂.puts.left };
        memo-is = record { right = b₂.memo-is.right; keeps = λ i x k. b₂.memo-is.keeps i x (builds-noted.keeps i x k) };
      }
      builds-then o₂ None tags₂ values₂ work₂ b₂ = record {
        puts = record {
          outcome = rw b.puts.left.tags-size at b₂.puts.outcome;
          left = left-trans end tags values tags₁ values₁ tags₂ values₂ b.puts.left b₂.puts.left;
        };
        memo-is = tt;
      }

  -- what was built is kept at i, where the memo had nothing
  module _ (n : ℕ) (tags values work : List ℕ) (s : State end n tags values) (f : Normal (List ℕ) ℕ) (i : ℕ) (is : form_at i ≡ f) (free : get_or (memo_of work) i 0 ≡ 0)
      (p m : ℕ) (tags₁ values₁ work₁ : List ℕ) (b : Builds form_at end tags values work (intern f (pool_of tags values n)) (Some ((term_at p), m)) tags₁ values₁ work₁) where
    stands-there : Stands (pool_of tags₁ values₁ m) f p
    stands-there =
        rw (b.puts.outcome.pool-is, b.puts.outcome.place_is) (intern-stands f (pool_of tags values n) (pool-good end n tags values s))

    pub builds-kept : i < 16384 → Builds form_at end tags values work (intern f (pool_of tags values n)) (Some ((term_at p), m)) tags₁ values₁ (set work₁ i (suc p))
    builds-kept h = record {
      puts = b.puts;
      memo-is = record {
        right = record { size = length-set work₁ i (suc p) ∙ size; entry = λ j x e. entry j x e (ℕ_discrete j i); below = λ j x e. below j x e (ℕ_discrete j i) };
        keeps = λ j x e. keep j x e (ℕ_discrete j i);
      };
    }
      where
        size : length work₁ ≡ 24576
        size = b.memo-is.right.size

        entry : (j x : ℕ) → get_or (memo_of (set work₁ i (suc p))) j 0 ≡ suc x → Dec (j ≡ i) → Stands (pool_of tags₁ values₁ m) (form_at j) x
        entry j x e (yes q) =
            let z : suc p ≡ suc x = sym (memo-here work₁ size i h (suc p)) ∙ (rw q at e) in
            let w : p ≡ x = omega arith in
            rw (q, is, ← w) stands-there
        entry j x e (no d) = b.memo-is.right.entry j x (sym (memo-there work₁ size i h (suc p) j d) ∙ e)

        below : (j x : ℕ) → get_or (memo_of (set work₁ i (suc p))) j 0 ≡ suc x → Dec (j ≡ i) → x < count (pool_of tags₁ values₁ m)
        below j x e (yes q) =
            let z : suc p ≡ suc x = sym (memo-here work₁ size i h (suc p)) ∙ (rw q at e) in
            omega (arith, pool-count tags₁ values₁ m b.puts.outcome.state.within, b.puts.outcome.below)
        below j x e (no d) = b.memo-is.right.below j x (sym (memo-there work₁ size i h (suc p) j d) ∙ e)

        keep : (j x : ℕ) → get_or (memo_of work) j 0 ≡ suc x → Dec (j ≡ i) → get_or (memo_of (set work₁ i (suc p))) j 0 ≡ suc x
        keep j x e (yes q) = absurd (let z : suc x ≡ 0 = sym e ∙ (rw q free) in omega arith)
        keep j x e (no d) = memo-there work₁ size i h (suc p) j d ∙ b.memo-is.keeps j x e
