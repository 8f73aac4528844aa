-- What the tests of check 14 say of a tag, they say of every number that narrows to the same byte.
--     narrow-small, narrow-large     a tag narrows to itself, a larger number to other_byte
--     narrow-byte, narrow-twice      a narrowed tag fits a byte, and narrows to itself
--     same-by-narrow     a function that gives every number past the last tag what it gives other_byte
--     same_shape, same-sort-tag, same-term-tag, same-is     the tests
-- Assumes nothing.
use Prim.Native.Nat.{ℕ, ◌≤◌, ◌<◌}
use mathlib.Core.Path.{◌≡◌, sym, ap, ◌∙◌}
use lib.Dec.{ltb, eqb}
use native.Mathlib.Omega.{arith}
use borrow.Author.Tests.{ltb-true, ltb-false, lt-ltb, le-ltb, le-leb, ne_eqb}
use Rattle.cells.specs.ByPlace.{by-test}
use Rattle.headers.specs.WellFormed.{is_sort_tag, is_term_tag, shape_of}
use Rattle.headers.specs.declared.well_formed.Shape.TheVariants.{Unknown}
use Rattle.tag_layouts.specs.Narrowed.{last_tag, other_byte, narrow}

pub narrow-small : (x : ℕ) → x ≤ last_tag → narrow x ≡ x
unfolding narrow
narrow-small x h = rw (le-ltb last_tag x h)

pub narrow-large : (x : ℕ) → last_tag < x → narrow x ≡ other_byte
unfolding narrow
narrow-large x h = rw (lt-ltb last_tag x h)

pub narrow-byte : (x : ℕ) → narrow x < 256
narrow-byte x =
    by-test (ltb last_tag x)
    (λ e. rw (narrow-large x (ltb-true last_tag x e)) (omega arith))
    (λ e. let h : x ≤ last_tag = ltb-false last_tag x e in rw (narrow-small x h) (omega arith))

pub narrow-twice : (x : ℕ) → narrow (narrow x) ≡ narrow x
narrow-twice x =
    by-test (ltb last_tag x)
    (λ e. rw (narrow-large x (ltb-true last_tag x e), narrow-large other_byte (omega arith)))
    (λ e. let h : x ≤ last_tag = ltb-false last_tag x e in rw (narrow-small x h, narrow-small x h))

pub same-by-narrow : {A : Type 0} (f : ℕ → A) → ((x : ℕ) → last_tag < x → f x ≡ f other_byte) → (a b : ℕ) → narrow a ≡ narrow b → f a ≡ f b
same-by-narrow f far a b e = sym (to a) ∙ (ap f e ∙ to b)
  where
    to : (x : ℕ) → f (narrow x) ≡ f x
    to x =
        by-test (ltb last_tag x)
        (λ o. rw (narrow-large x (ltb-true last_tag x o)) (sym (far x (ltb-true last_tag x o))))
        (λ o. rw (narrow-small x (ltb-false last_tag x o)))

pub shape-far : (x : ℕ) → last_tag < x → shape_of x ≡ Unknown
unfolding shape_of
shape-far x h =
    rw (
      le-ltb x 1 (omega arith),
      le-ltb x 7 (omega arith),
      le-ltb x 9 (omega arith),
      le-ltb x 10 (omega arith),
      le-ltb x 11 (omega arith),
      le-ltb x 12 (omega arith),
      le-ltb x 13 (omega arith),
      le-ltb x 14 (omega arith),
      le-ltb x 16 (omega arith),
      le-ltb x 20 (omega arith),
      le-ltb x 21 (omega arith),
      le-ltb x 22 (omega arith),
      le-ltb x 23 (omega arith),
      le-ltb x 27 (omega arith),
      le-ltb x 28 (omega arith),
      le-ltb x 32 (omega arith),
      le-ltb x 167 (omega arith),
    )

module _ (a b : ℕ) (e : narrow a ≡ narrow b) where
  pub same_shape : shape_of a ≡ shape_of b
  unfolding shape_of
  same_shape = same-by-narrow shape_of (λ x h. shape-far x h) a b e

  pub same-sort-tag : is_sort_tag a ≡ is_sort_tag b
  unfolding is_sort_tag
  same-sort-tag = same-by-narrow is_sort_tag (λ x h. rw (le-leb 1 x (omega arith), le-ltb x 14 (omega arith))) a b e

  pub same-term-tag : is_term_tag a ≡ is_term_tag b
  unfolding is_term_tag
  same-term-tag = same-by-narrow is_term_tag (λ x h. rw (le-leb 16 x (omega arith))) a b e

  -- whether it is this tag
  pub same-is : (k : ℕ) → k ≤ last_tag → eqb a k ≡ eqb b k
  same-is k l = same-by-narrow (λ x. eqb x k) (λ x h. rw (ne_eqb x k (λ z. omega arith), ne_eqb other_byte k (λ z. omega arith))) a b e
