-- Lists of places of sorts, and of the sorts at them: reversed, joined, cut.
-- Assumes nothing.
use Prim.Native.Nat.{ℕ, zero, suc, ◌+◌}
use mathlib.Core.Path.{◌≡◌, refl, ap}
use mathlib.Core.List.{List, [], ◌∷◌, ◌++◌, map, reverse, reverse_aux, drop_last}
use Rattle.std.specs.Prelude.{Some}
use lib.ListN.{length, get_or, drop}
use native.Mathlib.Omega.{arith}
use Rattle.meaning.specs.SortTree.{last_of}
use Rattle.meaning.proofs.trees.Forms.{IsSort, AllSorts}

-- ---- the images of a list
module _ {A B : Type 0} (f : A → B) where
  map_reverse_aux : (l r : List A) → map f (reverse_aux l r) ≡ reverse_aux (map f l) (map f r)
  map_reverse_aux [] r = refl
  map_reverse_aux (x ∷ l) r = map_reverse_aux l (x ∷ r)

  pub map-reverse : (l : List A) → map f (reverse l) ≡ reverse (map f l)
  map-reverse l = map_reverse_aux l []

  pub map-drop_last : (l : List A) → map f (drop_last l) ≡ drop_last (map f l)
  map-drop_last [] = refl
  map-drop_last (x ∷ []) = refl
  map-drop_last (x ∷ (y ∷ l)) = ap (λ (r : List B). f x ∷ r) (map-drop_last (y ∷ l))

  pub map-drop : (i : ℕ) (l : List A) → map f (drop i l) ≡ drop i (map f l)
  map-drop zero l = refl
  map-drop (suc i) [] = refl
  map-drop (suc i) (x ∷ l) = map-drop i l

  -- the last of m + 1
  pub map_last : (l : List A) (m : ℕ) (d : A) → m + 1 ≡ length l → Some (f (get_or l m d)) ≡ last_of (map f l)
  map_last [] m d e = absurd (omega arith)
  map_last (x ∷ []) zero d e = refl
  map_last (x ∷ []) (suc m) d e = absurd (omega arith)
  map_last (x ∷ (y ∷ l)) zero d e = absurd (omega arith)
  map_last (x ∷ (y ∷ l)) (suc m) d e = map_last (y ∷ l) m d (omega arith)

-- ---- all are places of sorts
module _ (tags : List ℕ) (n : ℕ) where
  pub all_append : (l r : List ℕ) → AllSorts tags n l → AllSorts tags n r → AllSorts tags n (l ++ r)
  all_append [] r a b = b
  all_append (x ∷ l) r a b = (a.0, all_append l r a.1 b)

  all-reverse_aux : (l r : List ℕ) → AllSorts tags n l → AllSorts tags n r → AllSorts tags n (reverse_aux l r)
  all-reverse_aux [] r a b = b
  all-reverse_aux (x ∷ l) r a b = all-reverse_aux l (x ∷ r) a.1 (a.0, b)

  pub all-reverse : (l : List ℕ) → AllSorts tags n l → AllSorts tags n (reverse l)
  all-reverse l a = all-reverse_aux l [] a tt

  pub all-drop_last : (l : List ℕ) → AllSorts tags n l → AllSorts tags n (drop_last l)
  all-drop_last [] a = tt
  all-drop_last (x ∷ []) a = tt
  all-drop_last (x ∷ (y ∷ l)) a = (a.0, all-drop_last (y ∷ l) a.1)

  pub all_drop : (i : ℕ) (l : List ℕ) → AllSorts tags n l → AllSorts tags n (drop i l)
  all_drop zero l a = a
  all_drop (suc i) [] a = tt
  all_drop (suc i) (x ∷ l) a = all_drop i l a.1

  pub all-at : (l : List ℕ) (m : ℕ) → m + 1 ≡ length l → AllSorts tags n l → IsSort tags n (get_or l m 0)
  all-at [] m e a = absurd (omega arith)
  all-at (x ∷ l) zero e a = a.0
  all-at (x ∷ l) (suc m) e a = all-at l m (omega arith) a.1
