-- What slices and loops leave, cell by cell, is what the definitions say; for the code of the calls on u32 tags.
--     first-slice, first-whole     the first min(length, cell_limit) cells as a slice, and the array that the slice was lent of
--     lent-part          the part of an array that was lent, in the array as it is left
--     byte-by-cells      a loop that narrows, into any array that is long enough
--     back-by-cells      a loop that writes back
-- Assumes nothing.
use Prim.Native.Nat.{ℕ, ◌+◌, ◌-◌, ◌≤◌, ◌<◌, min}
use mathlib.Core.Path.{◌≡◌, refl, sym, ap, ◌∙◌}
use mathlib.Core.List.{List, ◌++◌}
use lib.ListN.{length, get_or, take, drop, replicate, length-append, length-drop, length-replicate, get_or-replicate, take-append-drop, get_or-append}
use lib.Seq.{length-take-le, take_all, take_at, get_or-take, get_or-drop, get_or-append-add, ext_get_or}
use lib.Dec.{leb, ltb}
use native.Mathlib.Omega.{arith}
use borrow.Author.Tests.{leb-true, leb-false, ltb-true, ltb-false}
use Rattle.cells.specs.ByPlace.{by-test}
use Rattle.cells.specs.Limits.{cell_limit}
use Rattle.tag_layouts.specs.Narrowed.{narrow, first_cells, byte_tags}
use Rattle.tag_layouts.specs.WrittenBack.{written_back}
use Rattle.tag_layouts.proofs.Alike.{narrowed_at, byte-length, first-length}

pub first-slice : (cells : List ℕ) (k : ℕ) → k ≡ min cell_limit (length cells) → take k cells ≡ first_cells cells
unfolding first_cells
first-slice cells k e =
    by-test (leb (length cells) cell_limit)
    (λ o.
    let h : length cells ≤ cell_limit = leb-true (length cells) cell_limit o in
    let l : length cells ≤ k = omega arith in
    take_all k cells l ∙ sym (take_all cell_limit cells h))
    (λ o. let h : cell_limit < length cells = leb-false (length cells) cell_limit o in let z : k ≡ cell_limit = omega arith in rw z)

pub first-whole : (cells : List ℕ) → first_cells cells ++ drop (length (first_cells cells)) cells ≡ cells
first-whole cells =
    rw (first-length cells, ← first-slice cells (min cell_limit (length cells)) refl) (take-append-drop (min cell_limit (length cells)) cells)

pub lent-part : (k : ℕ) (left rest : List ℕ) → length left ≡ k → take k (left ++ rest) ≡ left
lent-part k left rest e = take_at left rest k e

-- the first k of an array, each the narrowed tag
pub byte-by-cells : (bytes tags : List ℕ) (k : ℕ) → k ≡ min cell_limit (length tags) → k ≤ length bytes
    → ((i : ℕ) → i < k → get_or bytes i 0 ≡ narrow (get_or tags i 0)) → take k bytes ≡ byte_tags tags
byte-by-cells bytes tags k e h each =
    ext_get_or 0 (take k bytes) (byte_tags tags) (length-take-le k bytes h ∙ (e ∙ sym (byte-length tags)))
    (λ i l.
    let b : i < k = omega (arith, length-take-le k bytes h) in
    rw (get_or-take k bytes i 0 b, narrowed_at (first_cells tags) i, ← first-slice tags k e, get_or-take k tags i 0 b) (each i b))

past : (xs ys : List ℕ) (i : ℕ) → length xs ≤ i → get_or (xs ++ ys) i 0 ≡ get_or ys (i - length xs) 0
past xs ys i h =
    let z : i ≡ length xs + (i - length xs) = omega arith in
    ap (λ (j : ℕ). get_or (xs ++ ys) j 0) z ∙ get_or-append-add xs ys (i - length xs) 0

-- below n the array's own cells, then what was left, then zeroes
pub back-by-cells : (n : ℕ) (cells left cells' : List ℕ) → n ≤ length left → length left ≤ length cells → length cells' ≡ length cells
    → ((i : ℕ) → i < n → get_or cells' i 0 ≡ get_or cells i 0)
    → ((i : ℕ) → n ≤ i → i < length left → get_or cells' i 0 ≡ get_or left i 0)
    → ((i : ℕ) → length left ≤ i → i < length cells → get_or cells' i 0 ≡ 0)
    → cells' ≡ written_back n cells left
unfolding written_back
back-by-cells n cells left cells' h l size own copied blank =
    ext_get_or 0 cells' (take n cells ++ (drop n left ++ zs)) (size ∙ sym long)
    (λ i k.
    let b : i < length cells = omega arith in
    by-test (ltb i n)
    (λ e.
    let m : i < n = ltb-true i n e in
    own i m ∙ sym (get_or-append (take n cells) (drop n left ++ zs) 0 i (omega (arith, front)) ∙ get_or-take n cells i 0 m))
    (λ e.
    let m : n ≤ i = ltb-false i n e in
    by-test (ltb i (length left))
    (λ o.
    let w : i < length left = ltb-true i (length left) o in
    let y : n + (i - n) ≡ i = omega arith in
    copied i m w
    ∙ sym (after i m ∙ (get_or-append (drop n left) zs 0 (i - n) (omega (arith, rest)) ∙ (get_or-drop n left (i - n) 0 ∙ ap (λ (j : ℕ). get_or left j 0) y))))
    (λ o.
    let w : length left ≤ i = ltb-false i (length left) o in
    blank i w b
    ∙ sym (after i m ∙ (past (drop n left) zs (i - n) (omega (arith, rest))
    ∙ get_or-replicate (length cells - length left) (i - n - length (drop n left)) 0 0 (omega (arith, rest)))))))
  where
    zs : List ℕ
    zs = replicate (length cells - length left) 0

    front : length (take n cells) ≡ n
    front = length-take-le n cells (omega arith)

    rest : length (drop n left) ≡ length left - n
    rest = length-drop n left

    blanks : length zs ≡ length cells - length left
    blanks = length-replicate _ _

    long : length (take n cells ++ (drop n left ++ zs)) ≡ length cells
    long = length-append (take n cells) (drop n left ++ zs) ∙ rw (length-append (drop n left) zs) (omega (arith, front, rest, blanks))

    after : (i : ℕ) → n ≤ i → get_or (take n cells ++ (drop n left ++ zs)) i 0 ≡ get_or (drop n left ++ zs) (i - n) 0
    after i m = past (take n cells) (drop n left ++ zs) i (omega (arith, front)) ∙ ap (λ (j : ℕ). get_or (drop n left ++ zs) (i - j) 0) front
