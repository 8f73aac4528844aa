-- Which pools are alike: a pool and its narrowed one; its first cells; and both at once, which is what a call on u32 tags lends to one on bytes.
--     narrowed-alike, first_alike, byte-alike
--     alike_refl, alike-sym, alike-trans     being alike is an equivalence
--     narrowed_at, narrowed-length, narrowed-padded, first-length, byte-length     cells and lengths
-- Assumes nothing.
use Prim.Native.Nat.{ℕ, zero, suc, ◌<◌, min}
use mathlib.Core.Path.{◌≡◌, refl, sym, ap, ◌∙◌}
use mathlib.Core.Bool.{Bool, ◌&&◌}
use mathlib.Core.List.{List, [], ◌∷◌, ◌++◌}
use lib.ListN.{length, get_or, replicate, length-take, length-map, get_or-map}
use lib.Seq.{get_or-take}
use lib.Dec.{ltb}
use native.Mathlib.Omega.{arith}
use borrow.Author.Tests.{eq-eqb}
use Rattle.cells.specs.Limits.{cell_limit}
use Rattle.headers.specs.WellFormed.{is_term}
use Rattle.tag_layouts.specs.Narrowed.{narrow, narrowed, first_cells, byte_tags, Alike}
use Rattle.tag_layouts.proofs.Tags.{narrow-twice, same-term-tag}

pub narrowed_at : (tags : List ℕ) (i : ℕ) → get_or (narrowed tags) i 0 ≡ narrow (get_or tags i 0)
unfolding narrowed narrow
narrowed_at tags i = get_or-map narrow tags i 0

pub narrowed-length : (tags : List ℕ) → length (narrowed tags) ≡ length tags
unfolding narrowed
narrowed-length tags = length-map tags narrow

pub narrowed-append : (s t : List ℕ) → narrowed (s ++ t) ≡ narrowed s ++ narrowed t
unfolding narrowed
narrowed-append [] t = refl
narrowed-append (x ∷ s) t = ap (λ (l : List ℕ). narrow x ∷ l) (narrowed-append s t)

narrowed-zeroes : (k : ℕ) → narrowed (replicate k 0) ≡ replicate k 0
unfolding narrowed narrow
narrowed-zeroes zero = refl
narrowed-zeroes (suc k) = ap (λ (l : List ℕ). 0 ∷ l) (narrowed-zeroes k)

-- tags with zeroes past them, as a file's are
pub narrowed-padded : (tags : List ℕ) (k : ℕ) → narrowed (tags ++ replicate k 0) ≡ narrowed tags ++ replicate k 0
narrowed-padded tags k = narrowed-append tags (replicate k 0) ∙ ap (λ (l : List ℕ). narrowed tags ++ l) (narrowed-zeroes k)

pub first-length : (cells : List ℕ) → length (first_cells cells) ≡ min cell_limit (length cells)
unfolding first_cells
first-length cells = length-take cell_limit cells

pub byte-length : (tags : List ℕ) → length (byte_tags tags) ≡ min cell_limit (length tags)
byte-length tags = narrowed-length (first_cells tags) ∙ first-length tags

first-at : (cells : List ℕ) (i : ℕ) → i < cell_limit → get_or (first_cells cells) i 0 ≡ get_or cells i 0
unfolding first_cells
first-at cells i h = get_or-take cell_limit cells i 0 h

-- ---- for all arrays
pub narrowed-alike : (tags values : List ℕ) → Alike tags values (narrowed tags) values
narrowed-alike tags values = record {
  sizes = rw (narrowed-length tags);
  room = rw (narrowed-length tags);
  tags-alike = λ i h l. rw (narrowed_at tags i) (narrow-twice (get_or tags i 0));
  values_same = λ i h l. refl;
}

-- ---- for arrays of one length
pub first_alike : (tags values : List ℕ) → length tags ≡ length values → Alike tags values (first_cells tags) (first_cells values)
first_alike tags values z = record {
  sizes = eq-eqb (length (first_cells tags)) (length (first_cells values)) (first-length tags ∙ (ap (min cell_limit) z ∙ sym (first-length values)))
      ∙ sym (eq-eqb (length tags) (length values) z);
  room = rw (first-length tags) (omega arith);
  tags-alike = λ i h l. rw (first-at tags i l);
  values_same = λ i h l. first-at values i l;
}

-- ---- being alike is an equivalence
pub alike_refl : (tags values : List ℕ) → Alike tags values tags values
alike_refl tags values = record { sizes = refl; room = refl; tags-alike = λ i h l. refl; values_same = λ i h l. refl }

pub alike-sym : (tags values tags' values' : List ℕ) → Alike tags values tags' values' → Alike tags' values' tags values
alike-sym tags values tags' values' s = record {
  sizes = sym s.sizes;
  room = sym s.room;
  tags-alike = λ i h l. sym (s.tags-alike i (omega (arith, s.room)) l);
  values_same = λ i h l. sym (s.values_same i (omega (arith, s.room)) l);
}

pub alike-trans : (tags values tags' values' tags'' values'' : List ℕ) → Alike tags values tags' values' → Alike tags' values' tags'' values''
    → Alike tags values tags'' values''
alike-trans tags values tags' values' tags'' values'' s u = record {
  sizes = u.sizes ∙ s.sizes;
  room = u.room ∙ s.room;
  tags-alike = λ i h l. u.tags-alike i (omega (arith, s.room)) l ∙ s.tags-alike i h l;
  values_same = λ i h l. u.values_same i (omega (arith, s.room)) l ∙ s.values_same i h l;
}

-- so the first cells, narrowed, are alike
pub byte-alike : (tags values : List ℕ) → length tags ≡ length values → Alike tags values (byte_tags tags) (first_cells values)
byte-alike tags values z =
    alike-trans tags values (first_cells tags) (first_cells values) (byte_tags tags) (first_cells values)
    (first_alike tags values z) (narrowed-alike (first_cells tags) (first_cells values))

-- ---- what needs no check: whether a place is a term's
pub narrowed-term : (tags : List ℕ) (n t : ℕ) → is_term (narrowed tags) n t ≡ is_term tags n t
unfolding is_term
narrowed-term tags n t = ap (λ (b : Bool). ltb t n && b) (same-term-tag _ _ (ap narrow (narrowed_at tags t) ∙ narrow-twice (get_or tags t 0)))
