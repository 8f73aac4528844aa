-- Lists without some of their elements, and without later repeats, by any test of equality.
--     leave_out-twice, leave_out-append                leaving out, twice and from joined lists
--     among-append, among-leave_out, among-firsts     what such a list has
--     firsts-distinct                                no later repeat is left
--     add_all-append, add_all-is, add_all-firsts        adding what is new, one after another, to a list, and to none
--     add_all-none, add_all-single, add_all-grows       nothing is new; one thing is; something is
-- Assumes nothing.
use Prim.Native.Nat.{◌≤◌, ◌<◌}
use mathlib.Core.Path.{◌≡◌, refl, sym, ap, ◌∙◌}
use mathlib.Core.Bool.{Bool, true, false, not, ◌&&◌, ◌||◌, false≢true, or_assoc, or-false}
use mathlib.Core.List.{List, [], ◌∷◌, ◌++◌, append-nil, append_assoc}
use lib.ListN.{length, length-append}
use native.Mathlib.Omega.{arith}
use borrow.Author.Tests.{not-true}
use Rattle.cells.specs.ByPlace.{by-test}
use Rattle.free_variables.specs.Once.{leave_out, firsts, among, distinct, add_new, add_all}
use Rattle.free_variables.proofs.appearing.Booleans.{not-both, or_left, or_right, and_split, and_intro, and_none, or_new}

-- ---- left out twice
module _ {A : Type 0} where
  pub leave_out-same : (f g : A → Bool) → ((v : A) → f v ≡ g v) → (xs : List A) → leave_out f xs ≡ leave_out g xs
  unfolding leave_out
  leave_out-same f g h [] = refl
  leave_out-same f g h (x ∷ xs) = rw (h x, leave_out-same f g h xs)

  pub leave_out-twice : (f g : A → Bool) (xs : List A) → leave_out f (leave_out g xs) ≡ leave_out (λ v. f v || g v) xs
  unfolding leave_out
  leave_out-twice f g [] = refl
  leave_out-twice f g (x ∷ xs) =
      by-test (g x)
      (λ p. by-test (f x) (λ q. rw (p, q) (leave_out-twice f g xs)) (λ q. rw (p, q) (leave_out-twice f g xs)))
      (λ p. by-test (f x) (λ q. rw (p, q) (leave_out-twice f g xs)) (λ q. rw (p, q) (ap (λ (l : List A). x ∷ l) (leave_out-twice f g xs))))

  pub leave_out-append : (f : A → Bool) (xs ys : List A) → leave_out f (xs ++ ys) ≡ leave_out f xs ++ leave_out f ys
  unfolding leave_out
  leave_out-append f [] ys = refl
  leave_out-append f (x ∷ xs) ys =
      by-test (f x) (λ p. rw p (leave_out-append f xs ys)) (λ p. rw p (ap (λ (l : List A). x ∷ l) (leave_out-append f xs ys)))

  pub leave_out-none : (f : A → Bool) → ((v : A) → f v ≡ false) → (xs : List A) → leave_out f xs ≡ xs
  unfolding leave_out
  leave_out-none f h [] = refl
  leave_out-none f h (x ∷ xs) = rw (h x) (ap (λ (l : List A). x ∷ l) (leave_out-none f h xs))

  pub add_all-append : (eq : A → A → Bool) (found xs ys : List A) → add_all eq found (xs ++ ys) ≡ add_all eq (add_all eq found xs) ys
  unfolding add_all
  add_all-append eq found [] ys = refl
  add_all-append eq found (x ∷ xs) ys = add_all-append eq (add_new eq found x) xs ys

module _ {A : Type 0} (eq : A → A → Bool) (eq_is : (x y : A) → eq x y ≡ true → x ≡ y) (eq_refl : (x : A) → eq x x ≡ true) where
  -- a test tells equal ones alike
  pub same_test : (test : A → Bool) (b : Bool) (u v : A) → eq u v ≡ true → test u ≡ b → test v ≡ b
  same_test test b u v e p = ap test (sym (eq_is u v e)) ∙ p

  -- ---- what lists have
  pub among-append : (xs ys : List A) (v : A) → among eq (xs ++ ys) v ≡ (among eq xs v || among eq ys v)
  unfolding among
  among-append [] ys v = refl
  among-append (x ∷ xs) ys v = ap (λ (b : Bool). eq x v || b) (among-append xs ys v) ∙ sym (or_assoc (eq x v) (among eq xs v) (among eq ys v))

  pub among-leave_out : (test : A → Bool) (xs : List A) (v : A) → among eq (leave_out test xs) v ≡ (not (test v) && among eq xs v)
  unfolding among leave_out
  among-leave_out test [] v = sym (and_none (not (test v)) false refl)
  among-leave_out test (x ∷ xs) v =
      by-test (test x)
      (λ p. rw p (by-test (eq x v)
      (λ q. rw (among-leave_out test xs v, same_test test true x v q p))
      (λ q. rw q (among-leave_out test xs v))))
      (λ p. rw p (by-test (eq x v)
      (λ q. rw (q, same_test test false x v q p))
      (λ q. rw q (among-leave_out test xs v))))

  pub among-firsts : (xs : List A) (v : A) → among eq (firsts eq xs) v ≡ among eq xs v
  unfolding among firsts
  among-firsts [] v = refl
  among-firsts (x ∷ xs) v = rw (among-leave_out (eq x) (firsts eq xs) v, among-firsts xs v) (or_new (eq x v) (among eq xs v))

  -- ---- no repeats
  pub leave_out-distinct : (test : A → Bool) (xs : List A) → distinct eq xs ≡ true → distinct eq (leave_out test xs) ≡ true
  unfolding distinct leave_out
  leave_out-distinct test [] e = refl
  leave_out-distinct test (x ∷ xs) e =
      let h : (not (among eq xs x) ≡ true) × (distinct eq xs ≡ true) = and_split (not (among eq xs x)) (distinct eq xs) e in
      let r : distinct eq (leave_out test xs) ≡ true = leave_out-distinct test xs h.1 in
      by-test (test x)
      (λ p. rw p r)
      (λ p. rw p (and_intro (not (among eq (leave_out test xs) x)) (distinct eq (leave_out test xs)) (out h.0) r))
    where
      out : not (among eq xs x) ≡ true → not (among eq (leave_out test xs) x) ≡ true
      out q = ap not (among-leave_out test xs x ∙ and_none (not (test x)) (among eq xs x) (not-true (among eq xs x) q))

  pub firsts-distinct : (xs : List A) → distinct eq (firsts eq xs) ≡ true
  unfolding distinct firsts
  firsts-distinct [] = refl
  firsts-distinct (x ∷ xs) =
      and_intro (not (among eq (leave_out (eq x) (firsts eq xs)) x)) (distinct eq (leave_out (eq x) (firsts eq xs)))
      (rw (among-leave_out (eq x) (firsts eq xs) x, eq_refl x))
      (leave_out-distinct (eq x) (firsts eq xs) (firsts-distinct xs))

  -- ---- adding what is new
  pub add_all-none : (found xs : List A) → ((v : A) → among eq xs v ≡ true → among eq found v ≡ true) → add_all eq found xs ≡ found
  unfolding add_all add_new among
  add_all-none found [] h = refl
  add_all-none found (x ∷ xs) h =
      rw (h x (or_left (eq x x) (among eq xs x) (eq_refl x))) (add_all-none found xs (λ v e. h v (or_right (eq x v) (among eq xs v) e)))

  among-more : (found : List A) (x v : A) → among eq (found ++ x ∷ []) v ≡ (among eq found v || eq x v)
  unfolding among
  among-more found x v = among-append found (x ∷ []) v ∙ ap (λ (b : Bool). among eq found v || b) (or-false (eq x v))

  pub add_all-is : (found xs : List A) → add_all eq found xs ≡ found ++ leave_out (among eq found) (firsts eq xs)
  unfolding add_all add_new firsts leave_out
  add_all-is found [] = sym (append-nil found)
  add_all-is found (x ∷ xs) =
      by-test (among eq found x)
      (λ p. rw p (add_all-is found xs ∙ ap (λ (l : List A). found ++ l)
      (leave_out-same (among eq found) (λ v. among eq found v || eq x v) (there p) (firsts eq xs) ∙ sym (leave_out-twice (among eq found) (eq x) (firsts eq xs)))))
      (λ p. rw p (add_all-is (found ++ x ∷ []) xs ∙ (append_assoc found (x ∷ []) (leave_out (among eq (found ++ x ∷ [])) (firsts eq xs))
      ∙ ap (λ (l : List A). found ++ (x ∷ l))
      (leave_out-same (among eq (found ++ x ∷ [])) (λ v. among eq found v || eq x v) (among-more found x) (firsts eq xs)
      ∙ sym (leave_out-twice (among eq found) (eq x) (firsts eq xs))))))
    where
      there : among eq found x ≡ true → (v : A) → among eq found v ≡ (among eq found v || eq x v)
      there p v = by-test (eq x v) (λ q. rw (q, same_test (among eq found) true x v q p)) (λ q. rw q (sym (or-false (among eq found v))))

  -- from nothing: the list without later repeats
  pub add_all-firsts : (xs : List A) → add_all eq [] xs ≡ firsts eq xs
  unfolding among
  add_all-firsts xs = add_all-is [] xs ∙ leave_out-none (among eq []) (λ v. refl) (firsts eq xs)

  -- what is there stays, and nothing else comes
  pub add_all-among : (found xs : List A) (v : A) → among eq (add_all eq found xs) v ≡ (among eq found v || among eq xs v)
  add_all-among found xs v =
      rw (add_all-is found xs, among-append found (leave_out (among eq found) (firsts eq xs)) v, among-leave_out (among eq found) (firsts eq xs) v, among-firsts xs v)
      (or_new (among eq found v) (among eq xs v))

  among-some : (xs : List A) (v : A) → among eq xs v ≡ true → 1 ≤ length xs
  unfolding among
  among-some [] v e = absurd (false≢true e)
  among-some (x ∷ xs) v e = omega arith

  pub add_all-longer : (found xs : List A) → length found ≤ length (add_all eq found xs)
  add_all-longer found xs = rw (add_all-is found xs) (simp length-append (omega arith))

  pub add_all-grows : (found xs : List A) (v : A) → among eq xs v ≡ true → among eq found v ≡ false → length found < length (add_all eq found xs)
  add_all-grows found xs v p q =
      let h : 1 ≤ length (leave_out (among eq found) (firsts eq xs)) =
      among-some (leave_out (among eq found) (firsts eq xs)) v
      (among-leave_out (among eq found) (firsts eq xs) v ∙ and_intro (not (among eq found v)) (among eq (firsts eq xs) v) (ap not q) (among-firsts xs v ∙ p)) in
      rw (add_all-is found xs) (simp length-append (omega arith))

  -- a list without repeats that has one thing alone
  single : (ys : List A) (v : A) → distinct eq ys ≡ true → ((u : A) → among eq ys u ≡ true → u ≡ v) → among eq ys v ≡ true → ys ≡ v ∷ []
  unfolding among distinct
  single [] v d h e = absurd (false≢true e)
  single (y ∷ []) v d h e = ap (λ (z : A). z ∷ []) (h y (or_left (eq y y) false (eq_refl y)))
  single (y ∷ (z ∷ ys)) v d h e =
      let p : y ≡ v = h y (or_left (eq y y) (among eq (z ∷ ys) y) (eq_refl y)) in
      let q : z ≡ v = h z (or_right (eq y z) (among eq (z ∷ ys) z) (or_left (eq z z) (among eq ys z) (eq_refl z))) in
      let o : (not (among eq (z ∷ ys) y) ≡ true) × (distinct eq (z ∷ ys) ≡ true) = and_split (not (among eq (z ∷ ys) y)) (distinct eq (z ∷ ys)) d in
      absurd (not-both (or_left (eq z y) (among eq ys y) (ap (λ (w : A). eq w y) (q ∙ sym p) ∙ eq_refl y)) (not-true (among eq (z ∷ ys) y) o.0))

  -- where one thing alone is new, the walk need not go on
  pub add_all-single : (found xs : List A) (v : A) → among eq xs v ≡ true → among eq found v ≡ false
      → ((u : A) → among eq xs u ≡ true → among eq found u ≡ false → u ≡ v) → add_all eq found xs ≡ found ++ v ∷ []
  add_all-single found xs v p q h =
      add_all-is found xs ∙ ap (λ (l : List A). found ++ l)
      (single (leave_out (among eq found) (firsts eq xs)) v (leave_out-distinct (among eq found) (firsts eq xs) (firsts-distinct xs)) alone
      (new v ∙ and_intro (not (among eq found v)) (among eq xs v) (ap not q) p))
    where
      new : (u : A) → among eq (leave_out (among eq found) (firsts eq xs)) u ≡ (not (among eq found u) && among eq xs u)
      new u = among-leave_out (among eq found) (firsts eq xs) u ∙ ap (λ (b : Bool). not (among eq found u) && b) (among-firsts xs u)

      alone : (u : A) → among eq (leave_out (among eq found) (firsts eq xs)) u ≡ true → u ≡ v
      alone u e =
          let o : (not (among eq found u) ≡ true) × (among eq xs u ≡ true) = and_split (not (among eq found u)) (among eq xs u) (sym (new u) ∙ e) in
          h u o.1 (not-true (among eq found u) o.0)
