-- A variable that the scan for a name and a sort finds has that name and sort.
-- Assumes nothing.
use Rattle.std.specs.Prelude.{Some}
use Prim.Native.Nat.{ℕ, zero, suc, ◌+◌}
use mathlib.Core.Path.{◌≡◌}
use mathlib.Core.Bool.{true, false}
use mathlib.Core.List.{List, [], ◌∷◌}
use lib.ListN.{get_or, take, drop}
use lib.Seq.{get_or-drop}
use lib.Dec.{eqb}
use native.Mathlib.Omega.{arith}
use borrow.Author.Tests.{eqb-true}
use Rattle.cells.specs.Cell.{cells_of, sort_of, is_at}
use Rattle.cells.specs.ByPlace.{by-test}
use Rattle.cells.proofs.Cells.{same-eq}
use Rattle.descriptions.specs.Description.{find}
use Rattle.cells.proofs.Walks.{found-holds}

two_cells : (k : ℕ) (l : List ℕ) (a b : ℕ) → take k l ≡ a ∷ b ∷ [] → (get_or l 0 0 ≡ a) × (get_or l 1 0 ≡ b)
two_cells zero l a b e = let z : ◌≡◌ {A = ℕ} 0 1 = cc in absurd (omega arith)
two_cells (suc k) [] a b e = let z : ◌≡◌ {A = ℕ} 0 1 = cc in absurd (omega arith)
two_cells (suc zero) (x ∷ l) a b e = let z : ◌≡◌ {A = ℕ} 0 1 = cc in absurd (omega arith)
two_cells (suc (suc k)) (x ∷ []) a b e = let z : ◌≡◌ {A = ℕ} 0 1 = cc in absurd (omega arith)
two_cells (suc (suc k)) (x ∷ (y ∷ l)) a b e = (cc, cc)

pub record Variable (tags values : List ℕ) (name sort v : ℕ) : Type 0 where
  pub tag : get_or tags v 0 ≡ 21
  pub name-is : get_or values (v + 2) 0 ≡ name
  pub sort-is : sort_of values v ≡ sort

variable-at : (tags values : List ℕ) (name sort v : ℕ) → is_at tags values v 21 (sort ∷ (name ∷ [])) ≡ true → Variable tags values name sort v
unfolding is_at cells_of sort_of
variable-at tags values name sort v e =
    by-test (eqb (get_or tags v 0) 21)
    (λ o.
    let (s, a) = two_cells (get_or values v 0) (drop (v + 1) values) sort name (same-eq _ _ (rw o at e)) in
    let first : v + 1 + 0 ≡ v + 1 = omega arith in
    let second : v + 1 + 1 ≡ v + 2 = omega arith in
    record {
      tag = eqb-true _ _ o;
      name-is = rw (← second, ← get_or-drop (v + 1) values 1 0) a;
      sort-is = rw (← first, ← get_or-drop (v + 1) values 0 0) s;
    })
    (λ o. absurd (let z : false ≡ true = rw o at e in let n : ◌≡◌ {A = ℕ} 0 1 = cc in omega arith))

pub stands : (tags values : List ℕ) (n name sort v : ℕ) → find tags values n 21 (sort ∷ (name ∷ [])) ≡ Some v → Variable tags values name sort v
unfolding find
stands tags values n name sort v e = variable-at tags values name sort v (found-holds values n (λ q. is_at tags values q 21 (sort ∷ (name ∷ []))) v e)
