-- Laws of the loops that narrow tags and write bytes back.
--     Narrowing, narrow_start, narrow-more, narrow-end     the loop of `narrow_into`
--     Writing, write-start, write-more, write-end          the loop of `write_back`
-- Assumes nothing.
use Prim.Native.Nat.{ℕ, ◌+◌, ◌-◌, ◌≤◌, ◌<◌, min}
use mathlib.Core.Path.{◌≡◌, refl, ap, ◌∙◌}
use mathlib.Core.List.{List, ◌++◌}
use lib.ListN.{length, get_or, take, set, replicate, length-set, get_or-append, get_or-replicate}
use lib.Seq.{length-take-le, get_or-take, get_or-append-add, get_or-set_same, get_or-set_other}
use lib.Dec.{eqb}
use native.Mathlib.Omega.{arith}
use borrow.Author.Tests.{eqb-true, eqb-false}
use Rattle.cells.specs.ByPlace.{by-test}
use Rattle.cells.specs.Limits.{cell_limit}
use Rattle.descriptions.specs.Description.{zero_from}
use Rattle.tag_layouts.specs.Narrowed.{narrow, NarrowedInto}
use Rattle.tag_layouts.specs.WrittenBack.{written_back, BackFits}
use Rattle.tag_layouts.proofs.Arrays.{byte-by-cells, back-by-cells}
use Rattle.tag_layouts.proofs.WrittenBack.{zero-length}

-- one store: what held below i, and holds of the new cell, holds below i + 1
stored : (P : ℕ → ℕ → Type 0) (l : List ℕ) (i v : ℕ) → i < length l → P i v → (j : ℕ) → j < i + 1 → (j < i → P j (get_or l j 0)) → P j (get_or (set l i v) j 0)
stored P l i v h here j b before =
    by-test (eqb j i)
    (λ o. let z : j ≡ i = eqb-true j i o in rw (z, get_or-set_same l i v 0 h) here)
    (λ o. let m : j < i = omega (arith, eqb-false j i o) in rw (get_or-set_other l i j v 0 (eqb-false j i o)) (before m))

-- ---- narrowing: the first i of k tags are narrowed
pub record Narrowing (tags bytes₀ : List ℕ) (k : ℕ) (bytes : List ℕ) (i : ℕ) : Type 0 where
  pub long : length bytes ≡ length bytes₀
  pub room : cell_limit ≤ length bytes
  pub count : k ≡ min cell_limit (length tags)
  pub upto : i ≤ k
  pub done : (j : ℕ) → j < i → get_or bytes j 0 ≡ narrow (get_or tags j 0)

pub narrow_start : (tags bytes : List ℕ) (k : ℕ) → k ≡ min cell_limit (length tags) → cell_limit ≤ length bytes → Narrowing tags bytes k bytes 0
narrow_start tags bytes k e h = record { long = refl; room = h; count = e; upto = omega arith; done = λ j l. absurd (omega arith) }

module _ (tags bytes₀ : List ℕ) (k : ℕ) (bytes : List ℕ) (i : ℕ) (w : Narrowing tags bytes₀ k bytes i) where
  pub narrow-more : i < k → (v : ℕ) → v ≡ narrow (get_or (take k tags) i 0) → Narrowing tags bytes₀ k (set bytes i v) (i + 1)
  narrow-more h v e = record {
    long = length-set bytes i v ∙ w.long;
    room = rw (length-set bytes i v) w.room;
    count = w.count;
    upto = omega arith;
    done = λ j l. stored (λ (j x : ℕ). x ≡ narrow (get_or tags j 0)) bytes i v (omega (arith, w.room, w.count)) (rw get_or-take at e) j l (w.done j);
  }

  pub narrow-end : k ≤ i → NarrowedInto tags k bytes
  narrow-end h = record {
    size = w.count;
    bytes-are = byte-by-cells bytes tags k w.count (omega (arith, w.room, w.count)) (λ j l. w.done j (omega arith));
  }

-- ---- the cells of an array that is zeroed from m on
module _ (m : ℕ) (l : List ℕ) (room : m ≤ length l) where
  zero-below : (j : ℕ) → j < m → get_or (zero_from m l) j 0 ≡ get_or l j 0
  unfolding zero_from
  zero-below j h = get_or-append (take m l) (replicate (length l - m) 0) 0 j (rw (length-take-le m l room) h) ∙ get_or-take m l j 0 h

  zero-past : (j : ℕ) → m ≤ j → j < length l → get_or (zero_from m l) j 0 ≡ 0
  unfolding zero_from
  zero-past j h b =
      let at : j ≡ length (take m l) + (j - m) = rw (length-take-le m l room) (omega arith) in
      ap (λ (k : ℕ). get_or (take m l ++ replicate (length l - m) 0) k 0) at
      ∙ (get_or-append-add (take m l) (replicate (length l - m) 0) (j - m) 0 ∙ get_or-replicate (length l - m) (j - m) 0 0 (omega arith))

-- ---- writing back: the cells below n are the array's own, and those from n up to i are the bytes
pub record Writing (cells bytes : List ℕ) (n : ℕ) (now : List ℕ) (i : ℕ) : Type 0 where
  pub long : length now ≡ length cells
  pub from : n ≤ i
  pub own : (j : ℕ) → j < n → get_or now j 0 ≡ get_or cells j 0
  pub done : (j : ℕ) → n ≤ j → j < i → get_or now j 0 ≡ get_or bytes j 0

pub write-start : (cells bytes : List ℕ) (n : ℕ) → Writing cells bytes n cells n
write-start cells bytes n = record { long = refl; from = omega arith; own = λ j l. refl; done = λ j l m. absurd (omega arith) }

module _ (cells bytes : List ℕ) (n : ℕ) (now : List ℕ) (i : ℕ) (w : Writing cells bytes n now i) where
  pub write-more : i < length now → (v : ℕ) → v ≡ get_or bytes i 0 → Writing cells bytes n (set now i v) (i + 1)
  write-more h v e = record {
    long = length-set now i v ∙ w.long;
    from = omega (arith, w.from);
    own = λ j l. get_or-set_other now i j v 0 (λ z. omega (arith, w.from)) ∙ w.own j l;
    done = λ j l m. stored (λ (j x : ℕ). x ≡ get_or bytes j 0) now i v h e j m (λ b. w.done j l b);
  }

  -- zeroes go past the bytes
  pub write-end : length bytes ≤ i → BackFits n cells bytes → zero_from (length bytes) now ≡ written_back n cells bytes
  write-end h fits =
      let room : length bytes ≤ length now = rw w.long fits.short in
      back-by-cells n cells bytes (zero_from (length bytes) now) fits.within fits.short (zero-length (length bytes) now room ∙ w.long)
      (λ j l. zero-below (length bytes) now room j (omega (arith, fits.within)) ∙ w.own j l)
      (λ j l m. zero-below (length bytes) now room j m ∙ w.done j l (omega arith))
      (λ j l m. zero-past (length bytes) now room j l (rw w.long m))

pub ruleset writings = (write-start, write-more, write-end)
