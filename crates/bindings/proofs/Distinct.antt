-- The distinct pairs of a list: its members, each once, in order of first appearance (`distinct-members`, `distinct-once`,
-- `distinct-order`), and a list uses of them what it uses of the list itself (`distinct-uses`).
-- Assumes nothing.
use mathlib.Core.Path.{◌≡◌, refl, sym, ap, ◌∙◌}
use mathlib.Core.Bool.{Bool, true, false, ◌||◌}
use mathlib.Core.List.{List, [], ◌∷◌, ◌++◌, append-nil}
use Prim.Native.Nat.{ℕ}
use native.Mathlib.Omega.{arith}
use Rattle.cells.specs.ByPlace.{by-test}
use Rattle.answers.specs.Outcome.{pass, ◌>>=◌, ◌>>◌, guard}
use Rattle.bindings.specs.Binding.{Binding, same, has}
use Rattle.bindings.specs.Used.{without, use_all}
use Rattle.bindings.specs.Distinct.{added, added_all, distinct, once}
use Rattle.bindings.proofs.binding.Laws.{same-is}

-- what holds and does not hold
pub clash : {P : Type 0} (b : Bool) → b ≡ true → b ≡ false → P
clash b y n = absurd (let z : ◌≡◌ {A = ℕ} 0 1 = cc in omega arith)

-- ---- lists of pairs
pub or_assoc : (x y z : Bool) → (x || y) || z ≡ x || (y || z)
or_assoc true y z = refl
or_assoc false y z = refl

pub or-false : (x : Bool) → x || false ≡ x
or-false true = refl
or-false false = refl

pub has-append : (as' bs : List Binding) (a : Binding) → has (as' ++ bs) a ≡ has as' a || has bs a
unfolding has
has-append [] bs a = refl
has-append (x ∷ xs) bs a = rw (has-append xs bs a) (sym (or_assoc (same x a) (has xs a) (has bs a)))

pub has-snoc : (bs : List Binding) (b a : Binding) → has (bs ++ (b ∷ [])) a ≡ has bs a || same b a
unfolding has
has-snoc bs b a = has-append bs (b ∷ []) a ∙ ap (λ x. has bs a || x) (or-false (same b a))

pub without-append : (a : Binding) (as' bs : List Binding) → without a (as' ++ bs) ≡ without a as' ++ without a bs
unfolding without
without-append a [] bs = refl
without-append a (x ∷ xs) bs =
    by-test (same x a) (λ e. rw (e) (without-append a xs bs)) (λ e. rw (e) (ap (◌∷◌ x) (without-append a xs bs)))

-- without a pair, a list has the other pairs
without_other : (a b : Binding) → same b a ≡ false → (bs : List Binding) → has (without a bs) b ≡ has bs b
unfolding has without
without_other a b n [] = refl
without_other a b n (x ∷ xs) =
    by-test (same x a)
    (λ e. let z : same x b ≡ false = apart a b x n e in rw (e, z) (without_other a b n xs))
    (λ e. rw e (ap (λ r. same x b || r) (without_other a b n xs)))
  where
    apart : (a b x : Binding) → same b a ≡ false → same x a ≡ true → same x b ≡ false
    apart a b x n e =
        by-test (same x b)
        (λ f. clash (same b a) (ap (λ y. same y a) (sym (same-is x b f)) ∙ e) n)
        (λ f. f)

-- ---- T1: the same members, each once, in order of first appearance
added-members : (bs : List Binding) (b a : Binding) → has (added bs b) a ≡ has bs a || same b a
unfolding added
added-members bs b a =
    by-test (has bs b) (λ e. rw e (there bs e)) (λ e. rw e (has-snoc bs b a))
  where
    there : (bs : List Binding) → has bs b ≡ true → has bs a ≡ has bs a || same b a
    there bs e =
        by-test (same b a)
        (λ f. let z : has bs a ≡ true = rw (same-is b a f) at e in rw (f, z))
        (λ f. rw f (sym (or-false (has bs a))))

all-members : (bs as' : List Binding) (a : Binding) → has (added_all bs as') a ≡ has bs a || has as' a
unfolding added_all has
all-members bs [] a = sym (or-false (has bs a))
all-members bs (x ∷ xs) a = all-members (added bs x) xs a ∙ ap (λ r. r || has xs a) (added-members bs x a) ∙ or_assoc (has bs a) (same x a) (has xs a)

pub distinct-members : (bs : List Binding) (a : Binding) → has (distinct bs) a ≡ has bs a
unfolding distinct has
distinct-members bs a = all-members [] bs a

once-snoc : (bs : List Binding) (a : Binding) → has bs a ≡ false → once bs ≡ true → once (bs ++ (a ∷ [])) ≡ true
unfolding once has
once-snoc [] a n e = refl
once-snoc (x ∷ xs) a n e =
    by-test (same x a)
    (λ f. clash true refl (rw f at n))
    (λ f. by-test (has xs x)
    (λ g. clash false (rw g at e) refl)
    (λ g. rw (has-snoc xs a x, g, turned x a f) (once-snoc xs a (rw f at n) (rw g at e))))
  where
    turned : (x a : Binding) → same x a ≡ false → same a x ≡ false
    turned x a f =
        by-test (same a x) (λ g. let z : a ≡ x = same-is a x g in clash (same x a) (cc) f) (λ g. g)

all_once : (bs as' : List Binding) → once bs ≡ true → once (added_all bs as') ≡ true
unfolding added_all added
all_once bs [] e = e
all_once bs (x ∷ xs) e = by-test (has bs x) (λ f. rw f (all_once bs xs e)) (λ f. rw f (all_once (bs ++ (x ∷ [])) xs (once-snoc bs x f e)))

pub distinct-once : (bs : List Binding) → once (distinct bs) ≡ true
unfolding distinct once
distinct-once bs = all_once [] bs refl

all-order : (bs as' : List Binding) (a : Binding) → added_all bs (as' ++ (a ∷ [])) ≡ added (added_all bs as') a
unfolding added_all
all-order bs [] a = refl
all-order bs (x ∷ xs) a = all-order (added bs x) xs a

-- one pair more at the end of a list stands at the end of its distinct pairs, or is among them
pub distinct-order : (bs : List Binding) (a : Binding) → distinct (bs ++ (a ∷ [])) ≡ added (distinct bs) a
unfolding distinct
distinct-order bs a = all-order [] bs a

-- ---- T3: what a list uses
without-added : (a : Binding) (bs : List Binding) (b : Binding) → same b a ≡ false → without a (added bs b) ≡ added (without a bs) b
unfolding added without
without-added a bs b n =
    rw (without_other a b n bs)
    (by-test (has bs b) (λ e. rw e) (λ e. rw (e) (without-append a bs (b ∷ []) ∙ rw n)))

without-same : (a : Binding) (bs : List Binding) (b : Binding) → same b a ≡ true → without a (added bs b) ≡ without a bs
unfolding added without
without-same a bs b s = by-test (has bs b) (λ e. rw e) (λ e. rw (e) (without-append a bs (b ∷ []) ∙ rw (s, append-nil)))

all_without : (a : Binding) (bs as' : List Binding) → without a (added_all bs as') ≡ added_all (without a bs) (without a as')
unfolding added_all without
all_without a bs [] = refl
all_without a bs (x ∷ xs) =
    by-test (same x a)
    (λ e. rw e (all_without a (added bs x) xs ∙ ap (λ l. added_all l (without a xs)) (without-same a bs x e)))
    (λ e. rw e (all_without a (added bs x) xs ∙ ap (λ l. added_all l (without a xs)) (without-added a bs x e)))

pub distinct_without : (a : Binding) (bs : List Binding) → without a (distinct bs) ≡ distinct (without a bs)
unfolding distinct without
distinct_without a bs = all_without a [] bs

-- the same is used or refused, and of what is left the distinct pairs are left
pub distinct-uses : (as' bs : List Binding) → use_all as' (distinct bs) ≡ (use_all as' bs >>= λ rest. pass (distinct rest))
unfolding use_all ◌>>=◌ ◌>>◌ guard
distinct-uses [] bs = refl
distinct-uses (a ∷ as') bs =
    rw (distinct-members bs a, distinct_without a bs)
    (by-test (has bs a) (λ e. rw e (distinct-uses as' (without a bs))) (λ e. rw e))
