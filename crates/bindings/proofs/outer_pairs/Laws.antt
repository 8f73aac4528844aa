-- Laws of `OuterPairs`, one for each way through the code.
-- Assumes nothing.
use Prim.Native.Nat.{ℕ, zero, suc, ◌+◌, ◌-◌, ◌*◌, ◌/◌, ◌%◌, ◌≤◌, ◌<◌}
use mathlib.Core.Path.{◌≡◌, refl, sym, ap, ◌∙◌}
use mathlib.Core.Bool.{Bool, true, false}
use mathlib.Core.List.{List, [], ◌∷◌}
use lib.ListN.{length, get_or, set, length-set}
use lib.Seq.{get_or-set_same, get_or-set_other}
use lib.Dec.{eqb}
use native.Mathlib.Omega.{arith}
use native.Mathlib.Nat.{mod-lt}
use borrow.Author.Tests.{eq-eqb, ne_eqb, eqb-true, eqb-false}
use Rattle.cells.specs.ByPlace.{by-test}
use Rattle.answers.specs.Outcome.{Outcome, ◌>>◌, guard}
use Rattle.std.specs.Prelude.{Option, Some, None, is_some, SomeIff, Ok, Err}
use Rattle.answers.specs.declared.refusal.Refusal.TheVariants.{NewVariable}
use Rattle.bindings.specs.Binding.{Binding, bindings_of, same, has}
use Rattle.bindings.specs.BindingAnswer.{pair}
use Rattle.bindings.specs.Used.{use_all}
use Rattle.bindings.specs.Distinct.{added, added_all, distinct}
use Rattle.bindings.specs.OuterPairs.{pair_in, link_of, head_of, still_left, is_pair, left_below, left_in, bucket_of, named, scan, OnChain, Prepared, Bucket, entered, Room, Filled, Puts, Blank, PreparedFor, UsesPrepared, Leaves}
use Rattle.bindings.proofs.binding.Laws.{same-is}
use Rattle.bindings.proofs.Distinct.{clash}
use Rattle.bindings.proofs.outer_pairs.Left.{left-inside, pair_left, pair_same, left-none, left-some, scan-none, scan-one, scan-found, scan-lacks, below_more, below-without, chain-end, chain_next, chain-kept}
use Rattle.bindings.proofs.outer_pairs.Entering.{filled⁺, pairs⁺}

-- ---- the bucket of a pair
pub bucket-is : (cells : List ℕ) (a s : ℕ) → 5 ≤ length cells → Bucket cells (pair a s) ((a * 1021 + s) % (length cells / 5))
unfolding bucket_of
bucket-is cells a s h =
    let small : (a * 1021 + s) % (length cells / 5) < length cells / 5 = mod-lt (a * 1021 + s) (omega arith) in
    record { is = refl; inside = omega arith }

pub ruleset buckets = (bucket-is)

-- ---- whether pair k is left and is a: l is its mark
module _ (cells : List ℕ) (a : Binding) (k l : ℕ) (mark : l ≡ get_or cells (5 * k + 2) 0) where
  pub test-gone : l ≡ 0 → false ≡ is_pair cells a k
  unfolding is_pair still_left
  test-gone e = rw (eq-eqb _ _ (sym mark ∙ e))

  pub test-left : (l ≡ 0 → ⊥) → (x y : ℕ) → x ≡ get_or cells (5 * k) 0 → y ≡ get_or cells (5 * k + 1) 0 → (r : Bool) → r ≡ same (pair x y) a
      → r ≡ is_pair cells a k
  unfolding is_pair still_left
  test-left n x y p q r e = rw (ne_eqb _ _ (λ z. n (mark ∙ z)), ← p, ← q) e

pub ruleset tests = (test-gone, test-left)

-- ---- a pair stands at one place
one_place : (cells : List ℕ) → Prepared cells → (a : Binding) (j k : ℕ) → is_pair cells a j ≡ true → is_pair cells a k ≡ true → j ≡ k
one_place cells p a j k s t =
    p.single j k (pair_left cells a j s) (pair_left cells a k t)
    (rw (← same-is (pair_in cells k) a (pair_same cells a k t)) at (pair_same cells a j s))

-- ---- a pair sought: every place of a is on the chain that starts at this pair
-- the cell that names a pair, or none
abbrev pub naming : Option ℕ → ℕ
naming None = 0
naming (Some k) = suc k

naming-named : (c : ℕ) → naming (named c) ≡ c
naming-named zero = refl
naming-named (suc k) = refl

pub record Seeking (cells : List ℕ) (a : Binding) (start : Option ℕ) : Type 0 where
  pub left : (k : ℕ) → is_pair cells a k ≡ true → OnChain cells (naming start) k

module _ (cells : List ℕ) (a : Binding) where
  pub seek-start : Prepared cells → (b : ℕ) → Bucket cells a b → (start : Option ℕ) → start ≡ named (head_of cells b) → Seeking cells a start
  seek-start p b k start is = record {
    left = λ j e.
        rw (is, naming-named, k.is)
        (rw (same-is (pair_in cells j) a (pair_same cells a j e)) at (p.reached j (pair_left cells a j e)));
  }

  module _ (start : Option ℕ) (s : Seeking cells a start) where
    pub seek-end : start ≡ None → None ≡ scan cells a
    seek-end h = sym (scan-none cells a (λ k. by-test (is_pair cells a k) (λ t. absurd (chain-end cells k (s.left k t) (ap naming h))) (λ t. t)))

    module _ (k : ℕ) (one : start ≡ Some k) (r : Bool) (is : r ≡ is_pair cells a k) where
      pub seek-here : Prepared cells → r ≡ true → Some k ≡ scan cells a
      seek-here p e = sym (scan-one cells a k (sym is ∙ e) (λ j t. one_place cells p a j k t (sym is ∙ e)))

      pub seek-next : r ≡ false → (next : Option ℕ) → next ≡ named (link_of cells k) → Seeking cells a next
      seek-next e next l = record {
        left = λ j t. rw (l, naming-named) (chain_next cells j (s.left j t) k (ap naming one) (λ z. clash (is_pair cells a j) t (rw z (sym is ∙ e))));
      }

-- a chain goes back: the measure
pub link-less : (cells : List ℕ) (start : Option ℕ) (k : ℕ) (next : Option ℕ) → Prepared cells → start ≡ Some k → next ≡ named (link_of cells k)
    → naming next < naming start
link-less cells start k next p one e = rw (one, e, naming-named) (omega (arith, p.back k))

-- the pair that a cell names, as the code takes it
pub named-is : (c : ℕ) (r : Option ℕ) → SomeIff r (1 ≤ c) (c - 1) → r ≡ named c
named-is zero None s = refl
named-is zero (Some x) s = absurd (omega (arith, s.0))
named-is (suc k) None s = absurd (s (omega arith))
named-is (suc k) (Some x) s = ap Some (omega (arith, s.1))

-- ---- a pair put at the end, unless it is there
module _ (cells : List ℕ) (a : Binding) (n : ℕ) (f : Filled cells n) where
  there : (o : Option ℕ) → o ≡ scan cells a → is_some o ≡ true → Puts a cells n cells n
  unfolding added
  there None found o = clash false o refl
  there (Some k) found o =
      let has-it : has (left_in cells) a ≡ true = left-some cells a k (scan-found cells a k (sym found)) in
      record { filled = f; more = omega arith; pairs = rw has-it }

  pub put-there : (o : Option ℕ) → o ≡ scan cells a → (h : Bool) → h ≡ is_some o → h ≡ true → Puts a cells n cells n
  put-there o found h is y = there o found (sym is ∙ y)

  module _ (there : Option ℕ) (found : there ≡ scan cells a) (h : Bool) (is : h ≡ is_some there) (z : h ≡ false) where
    none : (o : Option ℕ) → is_some o ≡ false → o ≡ None
    none None e = refl
    none (Some k) e = clash true refl e

    lacks : (j : ℕ) → is_pair cells a j ≡ false
    lacks = scan-lacks cells a (sym found ∙ none there (sym is ∙ z))

    pub put-new : Room cells n → (b : ℕ) → Bucket cells a b → (after : List ℕ) → after ≡ entered cells n a b → Puts a cells n after (n + 1)
    unfolding added
    put-new r b k after e =
        rw e
        (record {
          filled = filled⁺ cells n a b r k f lacks;
          more = omega arith;
          pairs = pairs⁺ cells n a b r k f lacks ∙ rw (left-none cells a lacks);
        })

pub ruleset puts = (put-there, put-new)

-- ---- the outer list prepared: n pairs are entered, and these are left to read
pub record Preparing (outer cells : List ℕ) (n : ℕ) (left : List Binding) : Type 0 where
  pub filled : Filled cells n
  pub few : 2 * (n + length left) ≤ length outer
  pub enough : 5 * length outer ≤ 2 * length cells
  pub small : length outer ≤ 8192
  pub pairs : distinct (bindings_of outer) ≡ added_all (left_in cells) left

-- a pair has two cells
pub two_cells : (l : List ℕ) → 2 * length (bindings_of l) ≤ length l
unfolding bindings_of
two_cells [] = omega arith
two_cells (a ∷ []) = omega arith
two_cells (a ∷ (s ∷ l)) = omega (arith, two_cells l)

module _ (cells : List ℕ) (zeroes : (i : ℕ) → get_or cells i 0 ≡ 0) where
  none_left : (k : ℕ) → still_left cells k ≡ false
  unfolding still_left
  none_left k = rw (zeroes (5 * k + 2))

  all-zero : left_in cells ≡ []
  unfolding left_in left_below
  all-zero = below_more cells 0 (λ k h. none_left k) (length cells) (omega arith)

  filled_none : 5 ≤ length cells → Filled cells 0
  filled_none h = record {
    ready = record {
      room = h;
      back = λ k. omega (arith, zeroes (5 * k + 3));
      reached = λ k e. clash (still_left cells k) e (none_left k);
      single = λ j k l m s. clash (still_left cells j) l (none_left j);
    };
    rest = λ k h. none_left k;
    heads = λ b. omega (arith, zeroes (5 * b + 4));
  }

module _ (outer cells : List ℕ) where
  pub prepare-start : Blank cells (length outer) → Preparing outer cells 0 (bindings_of outer)
  unfolding distinct
  prepare-start b = record {
    filled = filled_none cells b.zeroes b.room;
    few = omega (arith, two_cells outer);
    enough = b.enough;
    small = b.small;
    pairs = rw (all-zero cells b.zeroes);
  }

  module _ (n : ℕ) (left : List Binding) (p : Preparing outer cells n left) where
    pub prepare-end : left ≡ [] → PreparedFor (bindings_of outer) cells
    unfolding added_all
    prepare-end e = record { ready = p.filled.ready; pairs = sym (rw e at p.pairs) }

    module _ (a : Binding) (rest : List Binding) (one : left ≡ a ∷ rest) where
      fewer : 2 * (n + suc (length rest)) ≤ length outer
      fewer = rw one at p.few

      pub prepare-room : Room cells n
      prepare-room = record { inside = omega (arith, fewer, p.enough); small = omega (arith, fewer, p.small) }

      pub prepare-next : (after : List ℕ) (m : ℕ) → length after ≡ length cells → Puts a cells n after m → Preparing outer after m rest
      unfolding added_all
      prepare-next after m e q = record {
        filled = q.filled;
        few = omega (arith, q.more, fewer);
        enough = omega (arith, p.enough);
        small = p.small;
        pairs = p.pairs ∙ rw (one, q.pairs);
      }

-- ---- one pair used
module _ (cells : List ℕ) (p : Prepared cells) (q : ℕ) where
  abbrev used : List ℕ
  used = set cells (5 * q + 2) 0

  -- no other cell changes
  kept : (i : ℕ) → (i ≡ 5 * q + 2 → ⊥) → get_or used i 0 ≡ get_or cells i 0
  kept i o = get_or-set_other cells (5 * q + 2) i 0 0 o

  pair-kept : (k : ℕ) → pair_in used k ≡ pair_in cells k
  pair-kept k = rw (kept (5 * k) (λ e. omega arith), kept (5 * k + 1) (λ e. omega arith))

  left-kept : (k : ℕ) → (k ≡ q → ⊥) → still_left used k ≡ still_left cells k
  unfolding still_left
  left-kept k o = rw (kept (5 * k + 2) (λ e. o (omega arith)))

  module _ (l : still_left cells q ≡ true) where
    used-gone : still_left used q ≡ false
    unfolding still_left
    used-gone = rw (get_or-set_same cells (5 * q + 2) 0 0 (left-inside cells q l))

    -- what is left was left
    was-left : (k : ℕ) → still_left used k ≡ true → still_left cells k ≡ true
    was-left k e =
        by-test (eqb k q)
        (λ s. let z : k ≡ q = eqb-true _ _ s in clash (still_left used k) e (rw z used-gone))
        (λ s. sym (left-kept k (eqb-false _ _ s)) ∙ e)

    used-ready : Prepared used
    used-ready = record {
      room = rw length-set p.room;
      back = λ k. rw (kept (5 * k + 3) (λ e. omega arith)) (p.back k);
      reached = λ k e.
          rw (pair-kept k, length-set, kept (5 * bucket_of (length cells) (pair_in cells k) + 4) (λ z. omega arith))
          (chain-kept cells k used (head_of cells (bucket_of (length cells) (pair_in cells k))) (λ j h. kept (5 * j + 3) (λ z. omega arith)) p.back
          (p.reached k (was-left k e)) (omega arith));
      single = λ j k e m s. p.single j k (was-left j e) (was-left k m) (rw (pair-kept j, pair-kept k) at s);
    }

    used-left : (a : Binding) → is_pair cells a q ≡ true → UsesPrepared a cells true used
    unfolding left_in
    used-left a t = record {
      was = sym (left-some cells a q t);
      rest = rw length-set (below-without cells used a q t (λ k e. one_place cells p a k q e t) used-gone left-kept pair-kept (length cells));
      kept = used-ready;
    }

module _ (cells : List ℕ) (p : Prepared cells) (a : Binding) (there : Option ℕ) (found : there ≡ scan cells a) where
  pub use-not : there ≡ None → UsesPrepared a cells false cells
  use-not z = record { was = sym (left-none cells a (scan-lacks cells a (sym found ∙ z))); rest = refl; kept = p }

  module _ (k : ℕ) (one : there ≡ Some k) where
    found-there : is_pair cells a k ≡ true
    found-there = scan-found cells a k (sym found ∙ one)

    pub use-inside : 5 * k + 2 < length cells
    use-inside = left-inside cells k (pair_left cells a k found-there)

    pub use-left : (after : List ℕ) → after ≡ set cells (5 * k + 2) 0 → UsesPrepared a cells true after
    use-left after e = rw e (used-left cells p k (pair_left cells a k found-there) a found-there)

-- ---- an inner list used: w is what its pairs that are left do to the outer ones that are left
pub record Using (w : Outcome (List Binding)) (inner : List Binding) (cells : List ℕ) : Type 0 where
  pub ready : Prepared cells
  pub rest : w ≡ use_all inner (left_in cells)

module _ (w : Outcome (List Binding)) (inner : List Binding) (cells : List ℕ) (s : Using w inner cells) where
  pub all_end : inner ≡ [] → Leaves w (Ok tt) cells
  unfolding use_all
  all_end e = record { outcome = rw (s.rest, e); kept = s.ready }

  module _ (a : Binding) (rest : List Binding) (one : inner ≡ a ∷ rest) (r : Bool) (after : List ℕ) (u : UsesPrepared a cells r after) where
    pub all_new : r ≡ false → Leaves w (Err (NewVariable a.name)) after
    unfolding use_all ◌>>◌ guard
    all_new e = record { outcome = rw (s.rest, one, ← u.was, e); kept = u.kept }

    pub all-next : r ≡ true → Using w rest after
    unfolding use_all ◌>>◌ guard
    all-next e = record { ready = u.kept; rest = rw (s.rest, one, ← u.was, u.rest, e) }
