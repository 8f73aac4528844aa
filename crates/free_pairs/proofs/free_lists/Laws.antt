-- Laws of the code, one for each way through it.
-- Assumes nothing.
use Rattle.std.specs.Prelude.{Option, Some, None, is_some}
use Prim.Native.Nat.{ℕ, zero, suc, ◌-◌, ◌*◌, ◌/◌, ◌≤◌, ◌<◌}
use mathlib.Core.Path.{◌≡◌, refl, sym, ap, ◌∙◌}
use mathlib.Core.Bool.{Bool, true, false, not, ◌&&◌, cond}
use mathlib.Core.List.{List, [], ◌∷◌, ◌++◌}
use lib.ListN.{length, take, drop, get_or, length-take, drop_of_length-le}
use lib.Seq.{take_all, length-take-le}
use lib.Arith.{digits_div, digits_mod}
use lib.Dec.{eqb, ltb}
use native.Mathlib.Omega.{arith}
use borrow.Author.Tests.{ltb-true, ltb-false}
use Rattle.cells.specs.ByPlace.{by-test}
use Rattle.descriptions.specs.Description.{find}
use Rattle.free_variables.specs.Names.{may_be_free, free_in, NamesMarked}
use Rattle.free_variables.proofs.term_names.Laws.{not_listed}
use Rattle.bindings.specs.Binding.{Binding, bindings_of, has, first_of}
use Rattle.free_pairs.specs.BindingFree.{binding_free, free_at}
use Rattle.bindings.specs.BindingAnswer.{pair_at, name_of}
use Rattle.bindings.proofs.binding.Laws.{pairs_one, first_next}
use Rattle.free_pairs.specs.Mask.{mask_of}
use Rattle.free_pairs.proofs.free_masks.Variables.{stands}
use Rattle.free_pairs.specs.FreeLists.{is_missing, is_marked, first_marked}

-- ---- the first marked pair: w is the first of those that are left, by the mask m
module _ (w : Option ℕ) (other : List Binding) (m : ℕ) (left : List Binding) (inv : w ≡ name_of (first_marked other m left)) where
  pub mark-end : left ≡ [] → None ≡ w
  unfolding first_marked name_of
  mark-end e = rw (inv, e)

  module _ (a : Binding) (rest : List Binding) (one : left ≡ a ∷ rest) (r : Bool) (is : r ≡ is_marked other m a) where
    pub mark-here : r ≡ true → Some a.name ≡ w
    unfolding first_marked name_of
    mark-here e = rw (inv, one, ← is, e)

    pub mark-next : r ≡ false → w ≡ name_of (first_marked other (m / 2) rest)
    unfolding first_marked name_of
    mark-next e = rw (inv, one, ← is, e)

-- ---- the first marked pair is the first that passes the test of the mask
bit-small : (b : Bool) → cond b 1 0 < 2
bit-small true = omega arith
bit-small false = omega arith

bit_and : (b c : Bool) → not (eqb (cond b 1 0) 0) && c ≡ c && b
bit_and true true = refl
bit_and true false = refl
bit_and false true = refl
bit_and false false = refl

marked-is : (other : List Binding) (test : Binding → Bool) (l : List Binding) → first_marked other (mask_of test l) l ≡ first_of (λ a. not (has other a) && test a) l
unfolding first_marked first_of mask_of
marked-is other test [] = refl
marked-is other test (a ∷ l) =
    rw (digits_mod (mask_of test l) (bit-small (test a)), digits_div (mask_of test l) (bit-small (test a)), bit_and (test a) (not (has other a)), marked-is other test l)

pub group-first : (other : List Binding) (test : Binding → Bool) (l g : List ℕ) → g ≡ take 62 l → (mask : ℕ) → mask ≡ mask_of test (bindings_of (take 62 l))
    → (r : Option ℕ) → r ≡ name_of (first_marked other mask (bindings_of g)) → r ≡ name_of (first_of (λ a. not (has other a) && test a) (bindings_of (take 62 l)))
group-first other test l g q mask is r e = e ∙ rw (q, is) (ap name_of (marked-is other test (bindings_of (take 62 l))))

-- ---- a pair that is not missing
-- a pair whose bucket is not set: its variable, if it stands in the pool, is a variable of that name and sort
free-unlisted : (tags values names : List ℕ) (n t : ℕ) → NamesMarked tags values names (free_in tags values t) → (a : Binding) → may_be_free names a.name a.sort ≡ false
    → binding_free tags values n t a ≡ false
unfolding binding_free
free-unlisted tags values names n t l a e = at (find tags values n 21 (a.sort ∷ (a.name ∷ []))) refl
  where
    at : (f : Option ℕ) → find tags values n 21 (a.sort ∷ (a.name ∷ [])) ≡ f → free_at tags values t f ≡ false
    at None q = refl
    at (Some v) q = let w = stands tags values n a.name a.sort v q in not_listed tags values names t l v w.tag (rw (w.name-is, w.sort-is) e)

not-missing : (tags values names : List ℕ) (n t : ℕ) → NamesMarked tags values names (free_in tags values t) → (other : List Binding) (a : Binding)
    → (not (has other a) && may_be_free names a.name a.sort) ≡ false → is_missing tags values n t other a ≡ false
not-missing tags values names n t l other a e =
    by-test (has other a)
    (λ o. rw o)
    (λ o. rw o (free-unlisted tags values names n t l a (rw o at e)))

-- ---- groups of pairs
two-more : (k : ℕ) → suc k * 2 ≡ suc (suc (k * 2))
two-more k = omega arith

pairs-split : (k : ℕ) (l : List ℕ) → bindings_of l ≡ bindings_of (take (k * 2) l) ++ bindings_of (drop (k * 2) l)
unfolding bindings_of
pairs-split zero l = refl
pairs-split (suc k) [] = rw (two-more k)
pairs-split (suc k) (a ∷ []) = rw (two-more k)
pairs-split (suc k) (a ∷ (s ∷ l)) = rw (two-more k) (ap (λ (q : List Binding). record { name = a; sort = s } ∷ q) (pairs-split k l))

first-none : (test : Binding → Bool) (l l' : List Binding) → None ≡ name_of (first_of test l) → first_of test (l ++ l') ≡ first_of test l'
unfolding first_of name_of
first-none test [] l' e = refl
first-none test (a ∷ l) l' e =
    by-test (test a)
    (λ o. let z : None ≡ Some a.name = rw o at e in absurd (let y : ◌≡◌ {A = ℕ} 0 1 = cc in omega arith))
    (λ o. rw o (first-none test l l' (rw o at e)))

first_some : (test : Binding → Bool) (l l' : List Binding) (x : ℕ) → Some x ≡ name_of (first_of test l) → name_of (first_of test (l ++ l')) ≡ Some x
unfolding first_of name_of
first_some test [] l' x e = absurd (let y : ◌≡◌ {A = ℕ} 0 1 = cc in omega arith)
first_some test (a ∷ l) l' x e =
    by-test (test a)
    (λ o. rw o (sym (rw o at e)))
    (λ o. rw o (first_some test l l' x (rw o at e)))

-- what stands after a group
after-group : (l : List ℕ) → drop (length (take 62 l)) l ≡ drop 62 l
after-group l =
    by-test (ltb (length l) 62)
    (λ o. let short : length l < 62 = ltb-true _ _ o in rw (take_all 62 l (omega arith), drop_of_length-le l {i = length l} (omega arith), drop_of_length-le l {i = 62} (omega arith)))
    (λ o. rw (length-take-le 62 l (ltb-false _ _ o)))

-- w is the first pair that passes a test, of the cells that are left; r the first of the group there
module _ (w : Option ℕ) (test : Binding → Bool) (l : List ℕ) (inv : w ≡ name_of (first_of test (bindings_of l))) (r : Option ℕ) (is : r ≡ name_of (first_of test (bindings_of (take 62 l)))) where
  pub group-here : is_some r ≡ true → r ≡ w
  group-here = by r is
    where
      by : (r : Option ℕ) → r ≡ name_of (first_of test (bindings_of (take 62 l))) → is_some r ≡ true → r ≡ w
      by None e o = absurd (let z : ◌≡◌ {A = ℕ} 0 1 = cc in omega arith)
      by (Some x) e o = sym (inv ∙ rw (pairs-split 31 l) (first_some test (bindings_of (take 62 l)) (bindings_of (drop 62 l)) x e))

  pub group-next : is_some r ≡ false → (g : List ℕ) → g ≡ take 62 l → w ≡ name_of (first_of test (bindings_of (drop (length g) l)))
  group-next = by r is
    where
      by : (r : Option ℕ) → r ≡ name_of (first_of test (bindings_of (take 62 l))) → is_some r ≡ false → (g : List ℕ) → g ≡ take 62 l
          → w ≡ name_of (first_of test (bindings_of (drop (length g) l)))
      by (Some x) e o g q = absurd (let z : ◌≡◌ {A = ℕ} 0 1 = cc in omega arith)
      by None e o g q =
          let gone = first-none test (bindings_of (take 62 l)) (bindings_of (drop 62 l)) e in
          inv ∙ rw (q, after-group l, pairs-split 31 l) (ap name_of gone)

-- a group has a pair, and stands in the list
pub group-fits : (l g : List ℕ) → 2 ≤ length l → g ≡ take 62 l → (length g ≤ length l) × (0 < length g)
group-fits l g h q = rw (q, length-take 62 l) (omega arith, omega arith)

-- a pair that is not missing by the table
pub skip-next : (tags values names : List ℕ) (n t : ℕ) → NamesMarked tags values names (free_in tags values t) → (other : List Binding) (w : Option ℕ) (l : List ℕ)
    → w ≡ name_of (first_of (is_missing tags values n t other) (bindings_of l)) → 2 ≤ length l
    → (r : Bool) → r ≡ (not (has other (pair_at l 0)) && may_be_free names (get_or l 0 0) (get_or l 1 0)) → r ≡ false
    → w ≡ name_of (first_of (is_missing tags values n t other) (bindings_of (take (length l - 2) (drop 2 l))))
skip-next tags values names n t listed other w l inv h r is e =
    first_next w (is_missing tags values n t other) _ inv _ _ (pairs_one l h) false (sym (not-missing tags values names n t listed other (pair_at l 0) (sym is ∙ e))) refl

-- ---- a list that lacks every pair
pub none-lacks : (test : Binding → Bool) (l : List Binding) (r : Option ℕ) → r ≡ name_of (first_of (λ a. not (has (bindings_of []) a) && test a) l) → r ≡ name_of (first_of test l)
unfolding has bindings_of
none-lacks test l r e = e
