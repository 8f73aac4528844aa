-- Laws of hashing and of chains, one for each way out of the code.
-- Assumes nothing.
use Rattle.std.specs.Prelude.{Option, Some, None}
use Prim.Native.Nat.{ℕ, zero, suc, ◌+◌, ◌-◌, ◌*◌, ◌%◌, ◌≤◌, ◌<◌}
use mathlib.Core.Path.{◌≡◌, refl, sym, ap, ◌∙◌}
use mathlib.Core.Bool.{Bool, cond}
use mathlib.Core.List.{List}
use lib.ListN.{length, get_or, drop, drop_of_length-le}
use lib.Seq.{drop-cons}
use native.Mathlib.Omega.{arith}
use native.Mathlib.Nat.{mod-lt}
use native.Mathlib.Numerals.{add-one}
use Rattle.cells.specs.Cell.{is_at}
use Rattle.cells.specs.ByPlace.{by-test}
use Rattle.descriptions.specs.Index.{hash_from, bucket_of, chain_in, on_chain, head_of, look_up, PointsBack}
use Rattle.descriptions.proofs.description.Fills.{or_else}

-- ---- the bucket of a description: h is the hash of the tag and the cells before i
pub record Hashing (tag : ℕ) (cells : List ℕ) (h i : ℕ) : Type 0 where
  pub small : h < 4093
  pub left : bucket_of tag cells ≡ hash_from h (drop i cells)

rem-small : (x : ℕ) → x % 4093 < 4093
rem-small x = mod-lt x (omega arith)

pub hash-start : (tag : ℕ) (cells : List ℕ) (x : ℕ) → x ≡ tag → Hashing tag cells (x % 4093) 0
unfolding bucket_of
hash-start tag cells x e = record { small = rem-small x; left = rw e }

module _ (tag : ℕ) (cells : List ℕ) (h i : ℕ) (s : Hashing tag cells h i) where
  pub hash-next : i < length cells → (x : ℕ) → x ≡ get_or cells i 0 → Hashing tag cells ((h * 1021 + x % 4093) % 4093) (i + 1)
  unfolding hash_from
  hash-next l x e = record { small = rem-small (h * 1021 + x % 4093); left = s.left ∙ rw (drop-cons cells i 0 l, add-one i, e) }

  pub hash-end : length cells ≤ i → h ≡ bucket_of tag cells
  unfolding hash_from
  hash-end l = rw (s.left, drop_of_length-le cells l)

pub ruleset hashes = (hash-start, hash-next, hash-end)

-- ---- a chain
module _ (index : List ℕ) (test : ℕ → Bool) (s : PointsBack index) where
  chain-fuel : (f g c : ℕ) (last : Option ℕ) → c ≤ f → c ≤ g → chain_in index test f c last ≡ chain_in index test g c last
  unfolding chain_in
  chain-fuel zero zero c last hf hg = refl
  chain-fuel zero (suc g) zero last hf hg = refl
  chain-fuel zero (suc g) (suc q) last hf hg = absurd (omega arith)
  chain-fuel (suc f) zero zero last hf hg = refl
  chain-fuel (suc f) zero (suc q) last hf hg = absurd (omega arith)
  chain-fuel (suc f) (suc g) zero last hf hg = refl
  chain-fuel (suc f) (suc g) (suc q) last hf hg =
      chain-fuel f g (get_or index q 0) (cond (test q) (Some q) last) (omega (arith, s.back q)) (omega (arith, s.back q))

  pub chain-suc : (q : ℕ) (last : Option ℕ) → on_chain index test (suc q) last ≡ on_chain index test (get_or index q 0) (cond (test q) (Some q) last)
  unfolding on_chain chain_in
  chain-suc q last = chain-fuel q (get_or index q 0) (get_or index q 0) (cond (test q) (Some q) last) (s.back q) (omega arith)

  -- w is what the whole chain gives; c and last are left of it. The code takes one off c, where it can
  module _ (w : Option ℕ) (c : ℕ) (last : Option ℕ) (inv : w ≡ on_chain index test c last) where
    pub chain-end : ¬ (1 ≤ c) → last ≡ w
    unfolding on_chain chain_in
    chain-end h = let z : c ≡ 0 = omega arith in rw (inv, z)

    -- r says whether the test holds at the first header
    module _ (q : ℕ) (first : (1 ≤ c) × (q ≡ c - 1)) (r : Bool) (is : r ≡ test q) where
      pub chain_next : (l : Option ℕ) (d : ℕ) → l ≡ cond r (Some q) last → d ≡ get_or index q 0 → w ≡ on_chain index test d l
      chain_next l d el ed =
          let e : c ≡ suc q = omega (arith, first.0, first.1) in
          inv ∙ ap (λ x. on_chain index test x last) e ∙ chain-suc q last ∙ rw (el, ed, is)

-- a chain goes back: the measure
pub link-less : (index : List ℕ) → PointsBack index → (c q : ℕ) → (1 ≤ c) × (q ≡ c - 1) → (d : ℕ) → d ≡ get_or index q 0 → d < c
link-less index s c q first d e = omega (arith, s.back q, first.0, first.1)

-- ---- what is found on the chain, else what was found before it
or_assoc : (a b c : Option ℕ) → or_else (or_else a b) c ≡ or_else a (or_else b c)
or_assoc (Some p) b c = refl
or_assoc None b c = refl

module _ (index : List ℕ) (test : ℕ → Bool) where
  chain-or : (f c : ℕ) (last : Option ℕ) → chain_in index test f c last ≡ or_else (chain_in index test f c None) last
  unfolding chain_in
  chain-or zero c last = refl
  chain-or (suc f) zero last = refl
  chain-or (suc f) (suc q) last =
      let next : ℕ = get_or index q 0 in
      let ih : chain_in index test f next (Some q) ≡ or_else (chain_in index test f next None) (Some q) = chain-or f next (Some q) in
      by-test (test q)
      (λ e. rw e (ih ∙ sym (ap (λ a. or_else a last) ih ∙ or_assoc (chain_in index test f next None) (Some q) last)))
      (λ e. rw e (chain-or f next last))

  pub on_or : (c : ℕ) (last : Option ℕ) → on_chain index test c last ≡ or_else (on_chain index test c None) last
  unfolding on_chain
  on_or c last = chain-or c c last

-- ---- a chain from an entry of the index depends on the links below its place and on the test at the entries alone
module _ (index index' : List ℕ) (test test' : ℕ → Bool) (p : ℕ) (s : PointsBack index)
    (same : (q : ℕ) → q < p → get_or index' q 0 ≡ get_or index q 0) (agree : (i q : ℕ) → get_or index i 0 ≡ suc q → test' q ≡ test q) where
  chain_same : (f i c : ℕ) (last : Option ℕ) → get_or index i 0 ≡ c → c ≤ p → chain_in index' test' f c last ≡ chain_in index test f c last
  unfolding chain_in
  chain_same zero i c last e h = refl
  chain_same (suc f) i zero last e h = refl
  chain_same (suc f) i (suc q) last e h =
      rw (agree i q e, same q (omega arith))
      (chain_same f q (get_or index q 0) (cond (test q) (Some q) last) refl (omega (arith, s.back q)))

  pub on_same : (i : ℕ) (last : Option ℕ) → get_or index i 0 ≤ p → on_chain index' test' (get_or index i 0) last ≡ on_chain index test (get_or index i 0) last
  unfolding on_chain
  on_same i last h = chain_same (get_or index i 0) i (get_or index i 0) last refl h

-- ---- what the index has of a description, found in the chain of its bucket
pub looks-up : (tags values index : List ℕ) (tag : ℕ) (cells : List ℕ) (b : ℕ) → b ≡ bucket_of tag cells → (r : Option ℕ)
    → r ≡ on_chain index (λ q. is_at tags values q tag cells) (head_of index b) None → r ≡ look_up tags values index tag cells
unfolding look_up
looks-up tags values index tag cells b e r is = is ∙ ap (λ (x : ℕ). on_chain index (λ q. is_at tags values q tag cells) (head_of index x) None) e
