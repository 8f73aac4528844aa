-- Laws of `Cell`: reading cells, runs of cells, and comparing them.
-- Assumes nothing.
use Prim.Native.Nat.{ℕ, ◌+◌, ◌-◌, ◌≤◌, ◌<◌}
use mathlib.Core.Path.{◌≡◌, refl, sym, ap, subst, ◌∙◌}
use mathlib.Core.Bool.{Bool, true, false}
use mathlib.Core.List.{List, [], ◌∷◌}
use lib.ListN.{length, get_or, take, drop, drop_of_length-le, length-drop}
use lib.Seq.{take_all, take-nil}
use lib.Dec.{eqb}
use Rattle.std.specs.Cmp.Lexicographic.{pointwise}
use Rattle.std.specs.Prelude.{Option, Some, None, MatchOption, IfSome}
use Rattle.std.specs.Iterator.{AlwaysYields, YieldsThen, ComparesItemsByEq}
use Rattle.std.specs.List.{AllZip}
use Rattle.std.proofs.lemmas.Iterator.{YieldsList}
use native.Mathlib.Omega.{arith}
use borrow.Author.Tests.{lt-ltb, le-ltb, eq-eqb, ne_eqb, eqb-true}
use Rattle.cells.specs.ByPlace.{by-test}
use Rattle.cells.specs.Cell.{cells_of, operands_of, same_cells, is_at}

-- what `&l[i..]` is
pub rest-is : (l : List ℕ) (i : ℕ) → take (length l - i) (drop i l) ≡ drop i l
rest-is l i = take_all (length l - i) (drop i l) (rw length-drop (omega arith))

-- ---- the cells after the header at p
module _ (values : List ℕ) (p : ℕ) where
  pub cells-past : length values ≤ p → [] ≡ cells_of values p
  unfolding cells_of
  cells-past h = rw (drop_of_length-le values {i = p + 1} (omega arith), take-nil)

  module _ (n : ℕ) (is : n ≡ get_or values p 0) where
    pub cells_cut : length values - (p + 1) < n → take (length values - (p + 1)) (drop (p + 1) values) ≡ cells_of values p
    unfolding cells_of
    cells_cut h = rw (rest-is, ← is, take_all n (drop (p + 1) values) (rw length-drop (omega arith)))

    pub cells_whole : take (p + 1 + n - (p + 1)) (drop (p + 1) values) ≡ cells_of values p
    unfolding cells_of
    cells_whole =
        let e : p + 1 + n - (p + 1) ≡ n = omega arith in
        rw (e, ← is)

pub ruleset runs = (cells-past, cells_cut, cells_whole)

-- ---- the operand run
module _ (tags values : List ℕ) (t tag : ℕ) (is : tag ≡ get_or tags t 0) where
  pub operands-none : tag < 22 → [] ≡ operands_of tags values t
  unfolding operands_of
  operands-none h = rw (← is, lt-ltb _ _ h)

  module _ (h : 22 ≤ tag) (run : List ℕ) (e : run ≡ cells_of values t) where
    pub operands-empty : length run ≡ 0 → run ≡ operands_of tags values t
    unfolding operands_of
    operands-empty z = rw (← is, le-ltb _ _ h, ← e, drop_of_length-le run {i = 1} (omega arith)) (nil run z)
      where
        nil : (l : List ℕ) → length l ≡ 0 → l ≡ []
        nil [] z = refl
        nil (x ∷ l) z = absurd (omega arith)

    pub operands-rest : take (length run - 1) (drop 1 run) ≡ operands_of tags values t
    unfolding operands_of
    operands-rest = rw (rest-is run 1, ← is, le-ltb _ _ h, ← e)

pub ruleset operand-runs = (operands-none, operands-empty, operands-rest)

-- ---- two lists of cells
pub same_refl : (a : List ℕ) → same_cells a a ≡ true
unfolding same_cells
same_refl [] = refl
same_refl (x ∷ a) = rw (eq-eqb x x refl) (same_refl a)

pub same-eq : (a b : List ℕ) → same_cells a b ≡ true → a ≡ b
unfolding same_cells
same-eq [] [] e = refl
same-eq [] (y ∷ b) e = cc
same-eq (x ∷ a) [] e = cc
same-eq (x ∷ a) (y ∷ b) e =
    by-test (eqb x y)
    (λ o. let h : x ≡ y = eqb-true x y o in let t : a ≡ b = same-eq a b (rw o at e) in cc)
    (λ o. let z : false ≡ true = rw o at e in cc)

-- `same_cells` is the library's test of two lists
pub same-pointwise : (a b : List ℕ) (r : Bool) → r ≡ pointwise eqb a b → r ≡ same_cells a b
unfolding same_cells
same-pointwise [] [] r e = e
same-pointwise [] (y ∷ b) r e = e
same-pointwise (x ∷ a) [] r e = e
same-pointwise (x ∷ a) (y ∷ b) r e = by-test (eqb x y) (λ o. rw o (same-pointwise a b r (rw o at e))) (λ o. rw o (rw o at e))

pub same-lengths : (a b : List ℕ) → (length a ≡ length b → ⊥) → false ≡ same_cells a b
same-lengths a b n = by-test (same_cells a b) (λ e. absurd (n (ap length (same-eq a b e)))) (λ e. sym e)

-- ---- two lists compared, each as an iterator gives it; v reads an item
module _ {S T A : Type 0} (steps : S → Option A → S → Type 0) (others : T → Option A → T → Type 0) (v : A → ℕ) (eq : A → A → Bool)
    (agree : (x y : A) → eq x y ≡ eqb (v x) (v y)) (r : Bool) where
  abbrev Last : Option A → Option A → Type 0
  Last o p = MatchOption o (MatchOption p (r ≡ true) (λ _. r ≡ false)) (λ x. (r ≡ false) × IfSome p (λ y. eq x y ≡ false))

  at_last : (o p : Option A) (xs ys : List ℕ) (s u : S) (t w : T) → AlwaysYields steps v s xs → AlwaysYields others v t ys → steps s o u → others t p w → Last o p → r ≡ same_cells xs ys
  unfolding same_cells
  at_last None None (x ∷ xs) ys s u t w e f a b h = absurd (e.0 u a)
  at_last None (Some y) (x ∷ xs) ys s u t w e f a b h = absurd (e.0 u a)
  at_last (Some x) None [] ys s u t w e f a b h = absurd (e x u a)
  at_last (Some x) (Some y) [] ys s u t w e f a b h = absurd (e x u a)
  at_last None None [] (y ∷ ys) s u t w e f a b h = absurd (f.0 w b)
  at_last None (Some y) [] [] s u t w e f a b h = absurd (f y w b)
  at_last (Some x) None (z ∷ xs) (y ∷ ys) s u t w e f a b h = absurd (f.0 w b)
  at_last (Some x) (Some y) (z ∷ xs) [] s u t w e f a b h = absurd (f y w b)
  at_last None None [] [] s u t w e f a b h = h
  at_last None (Some y) [] (z ∷ ys) s u t w e f a b h = h
  at_last (Some x) None (z ∷ xs) [] s u t w e f a b h = h.0
  at_last (Some x) (Some y) (x' ∷ xs) (y' ∷ ys) s u t w e f a b h =
      let d : eqb (v x) (v y) ≡ false = sym (agree x y) ∙ h.1 in
      rw (← (e.1 x u a).0, ← (f.1 y w b).0, d, h.0)

  along : (cs bs : List A) (o p : Option A) (xs ys : List ℕ) (s u : S) (t w : T) → AlwaysYields steps v s xs → AlwaysYields others v t ys
      → YieldsThen steps s cs o u → YieldsThen others t bs p w → AllZip (λ x y. eq x y ≡ true) cs bs → Last o p → r ≡ same_cells xs ys
  unfolding same_cells
  along [] [] o p xs ys s u t w e f a b z h = at_last o p xs ys s u t w e f (subst (λ j. steps j o u) (sym a.1) a.2) (subst (λ j. others j p w) (sym b.1) b.2) h
  along [] (y ∷ bs) o p xs ys s u t w e f a b z h = absurd z
  along (x ∷ cs) [] o p xs ys s u t w e f a b z h = absurd z
  along (x ∷ cs) (y ∷ bs) o p [] ys s u t w e f a b z h = absurd (e x a.1.0 a.1.1)
  along (x ∷ cs) (y ∷ bs) o p (x' ∷ xs) [] s u t w e f a b z h = absurd (f y b.1.0 b.1.1)
  along (x ∷ cs) (y ∷ bs) o p (x' ∷ xs) (y' ∷ ys) s u t w e f a b z h =
      let m = e.1 x a.1.0 a.1.1 in
      let n = f.1 y b.1.0 b.1.1 in
      let d : eqb (v x) (v y) ≡ true = sym (agree x y) ∙ z.0 in
      rw (← m.0, ← n.0, d) (along cs bs o p xs ys a.1.0 u b.1.0 w m.1 n.1 (a.0, a.1.2, a.2) (b.0, b.1.2, b.2) z.1 h)

-- `eq` of two iterators compares the lists that they give
pub same_from_eq : {S U T A : Type 0} {steps : S → Option A → S → Type 0} {others : T → Option A → T → Type 0} {v : A → ℕ} {s : S} {eq : A → A → Bool} {xs ys : List ℕ}
    (becomes : U → T → Type 0) (other : U) (r : Bool) → ComparesItemsByEq steps becomes others s other eq r
    → YieldsList steps v s xs → ((it : T) → becomes other it → YieldsList others v it ys) → ((x y : A) → eq x y ≡ eqb (v x) (v y)) → r ≡ same_cells xs ys
same_from_eq {steps = steps} {others = others} {v = v} {s = s} {eq = eq} {xs = xs} {ys = ys} becomes other r d e f agree =
    along steps others v eq agree r d.1 d.2 d.3 d.4 xs ys s d.5 d.0 d.6 e.runs (f d.0 d.7).runs d.8 d.9 d.10 d.11

-- ---- a description
module _ (tags values : List ℕ) (p tag : ℕ) (cells : List ℕ) (k : ℕ) (is : k ≡ get_or tags p 0) where
  pub at_other : (k ≡ tag → ⊥) → false ≡ is_at tags values p tag cells
  unfolding is_at
  at_other n = rw (← is, ne_eqb _ _ n)

  pub at_cells : k ≡ tag → (run : List ℕ) → run ≡ cells_of values p → (r : Bool) → r ≡ same_cells run cells → r ≡ is_at tags values p tag cells
  unfolding is_at
  at_cells e run c r q = rw (← is, eq-eqb _ _ e, ← c, q)

pub ruleset descriptions = (at_other, at_cells)
