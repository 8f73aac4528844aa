-- Laws of `Pattern` and `PatternAnswer`, one for each way through the code.
-- Assumes nothing.
use Prim.Native.Nat.{ℕ, ◌-◌, ◌<◌}
use mathlib.Core.Path.{◌≡◌, refl, sym, ap, ◌∙◌}
use mathlib.Core.Bool.{true, false}
use mathlib.Core.List.{List, [], ◌∷◌}
use Rattle.std.specs.Prelude.{Option, Some, None}
use Rattle.std.specs.Option.{MatchOption}
use Rattle.std.specs.Array.{IsFirstChunk}
use Rattle.std.proofs.Common.{Bor}
use lib.ListN.{length, get_or, take, drop, length-drop, drop_of_length-le}
use lib.Seq.{take_all}
use lib.Dec.{eqb}
use native.Mathlib.Omega.{arith}
use borrow.Author.Tests.{eq-eqb, ne_eqb, eqb-true}
use Rattle.cells.specs.ByPlace.{by-test}
use Rattle.cells.specs.Cell.{operands_of}
use Rattle.bindings.specs.Binding.{bindings_of}
use Rattle.cells.specs.Place.{term_at}
use Rattle.formulas.specs.Pattern.{quantifier, operator, one_of, two_of, three_of, and_then}
use Rattle.formulas.specs.PatternAnswer.{pairs_of, quantifier_in, of_count, cells_in}
use Rattle.formulas.specs.declared.kinds.QuantifierKind.TheVariants.{Forall, Exists}
use Rattle.formulas.specs.declared.matching.Quantified.{Quantified}

-- ---- the quantifier at x: what `quantified_at` says of it
abbrev pub Reads : List ℕ → List ℕ → ℕ → Option Quantified → Type 0
Reads tags values x q = quantifier tags values x ≡ quantifier_in (bindings_of (pairs_of tags values x)) q

module _ (tags values : List ℕ) (x tag : ℕ) (is : tag ≡ get_or tags x 0) where
  module _ (run : List ℕ) (o : run ≡ operands_of tags values x) (body : ℕ) (b : body ≡ get_or run 0 0) where
    pub quantifier-forall : tag ≡ 23 → Reads tags values x (Some (record { kind = Forall; body = term_at body }))
    unfolding quantifier quantifier_in pairs_of
    quantifier-forall e = rw (← is, eq-eqb _ _ e, b, o)

    pub quantifier-exists : tag ≡ 24 → Reads tags values x (Some (record { kind = Exists; body = term_at body }))
    unfolding quantifier quantifier_in pairs_of
    quantifier-exists e = rw (← is, e, b, o)

  pub quantifier-none : (tag ≡ 23 → ⊥) → (tag ≡ 24 → ⊥) → Reads tags values x None
  unfolding quantifier quantifier_in
  quantifier-none n m = rw (← is, ne_eqb _ _ n, ne_eqb _ _ m)

pub ruleset quantifiers = (quantifier-forall, quantifier-exists, quantifier-none)

-- ---- its list
module _ (tags values : List ℕ) (x : ℕ) (run : List ℕ) (o : run ≡ operands_of tags values x) where
  pub pairs-none : length run ≡ 0 → [] ≡ pairs_of tags values x
  unfolding pairs_of
  pairs-none z = rw (← o, drop_of_length-le run {i = 1} (omega arith))

  pub pairs-rest : take (length run - 1) (drop 1 run) ≡ pairs_of tags values x
  unfolding pairs_of
  pairs-rest = rw (take_all (length run - 1) (drop 1 run) (rw length-drop (omega arith)), o)

-- ---- operators with so many operands
module _ (tags values : List ℕ) (tag x k n : ℕ) (is : k ≡ get_or tags x 0) where
  pub other-tag : (k ≡ tag → ⊥) → and_then (operator tags values tag x) (of_count n) ≡ cells_in None
  unfolding operator cells_in
  other-tag h = rw (← is, ne_eqb _ _ h)

  module _ (e : k ≡ tag) (run : List ℕ) (o : run ≡ operands_of tags values x) where
    pub other-count : (length run ≡ n → ⊥) → and_then (operator tags values tag x) (of_count n) ≡ cells_in None
    unfolding operator of_count cells_in
    other-count h = rw (← is, eq-eqb _ _ e, ← o, ne_eqb _ _ h)

    pub all-operands : length run ≡ n → (r : Option (Bor (List ℕ))) → MatchOption r (length run < n) (λ a. IsFirstChunk run a.now n) → and_then (operator tags values tag x) (of_count n) ≡ cells_in r
    unfolding operator of_count cells_in
    all-operands h None m = absurd (omega arith)
    all-operands h (Some a) m = rw (← is, eq-eqb _ _ e, ← o, eq-eqb _ _ h, m.same, take_all n run (omega arith))

-- ---- what so many operands are, as the definitions say it
one-is : (os : List ℕ) → length os ≡ 1 → one_of os ≡ Some (get_or os 0 0)
one-is [] e = absurd (omega arith)
one-is (a ∷ []) e = refl
one-is (a ∷ (b ∷ os)) e = absurd (omega arith)

one-not : (os : List ℕ) → (length os ≡ 1 → ⊥) → one_of os ≡ None
one-not [] n = refl
one-not (a ∷ []) n = absurd (n refl)
one-not (a ∷ (b ∷ os)) n = refl

two-is : (os : List ℕ) → length os ≡ 2 → two_of os ≡ Some (get_or os 0 0, get_or os 1 0)
two-is [] e = absurd (omega arith)
two-is (a ∷ []) e = absurd (omega arith)
two-is (a ∷ (b ∷ [])) e = refl
two-is (a ∷ (b ∷ (c ∷ os))) e = absurd (omega arith)

two-not : (os : List ℕ) → (length os ≡ 2 → ⊥) → two_of os ≡ None
two-not [] n = refl
two-not (a ∷ []) n = refl
two-not (a ∷ (b ∷ [])) n = absurd (n refl)
two-not (a ∷ (b ∷ (c ∷ os))) n = refl

three-is : (os : List ℕ) → length os ≡ 3 → three_of os ≡ Some (get_or os 0 0, get_or os 1 0, get_or os 2 0)
three-is [] e = absurd (omega arith)
three-is (a ∷ []) e = absurd (omega arith)
three-is (a ∷ (b ∷ [])) e = absurd (omega arith)
three-is (a ∷ (b ∷ (c ∷ []))) e = refl
three-is (a ∷ (b ∷ (c ∷ (d ∷ os)))) e = absurd (omega arith)

three-not : (os : List ℕ) → (length os ≡ 3 → ⊥) → three_of os ≡ None
three-not [] n = refl
three-not (a ∷ []) n = refl
three-not (a ∷ (b ∷ [])) n = refl
three-not (a ∷ (b ∷ (c ∷ []))) n = absurd (n refl)
three-not (a ∷ (b ∷ (c ∷ (d ∷ os)))) n = refl

-- no operands of a count, and those of a count, by what the code's answer r says of them
module _ {A : Type 0} (pick : List ℕ → Option A) (n : ℕ) (without : (os : List ℕ) → (length os ≡ n → ⊥) → pick os ≡ None) where
  none-counted : (o : Option (List ℕ)) → and_then o (of_count n) ≡ cells_in None → and_then o pick ≡ None
  unfolding of_count cells_in
  none-counted None e = refl
  none-counted (Some os) e =
      by-test (eqb (length os) n)
      (λ h. let z : Some os ≡ None = rw h at e in absurd (let y : ◌≡◌ {A = ℕ} 0 1 = cc in omega arith))
      (λ h. without os (λ q. let z : false ≡ true = sym h ∙ eq-eqb _ _ q in let y : ◌≡◌ {A = ℕ} 0 1 = cc in omega arith))

  some-counted : (o : Option (List ℕ)) (a : Bor (List ℕ)) → and_then o (of_count n) ≡ cells_in (Some a) → (and_then o pick ≡ pick a.now) × (length a.now ≡ n)
  unfolding of_count cells_in
  some-counted None a e = absurd (let y : ◌≡◌ {A = ℕ} 0 1 = cc in omega arith)
  some-counted (Some os) a e =
      by-test (eqb (length os) n)
      (λ h. let z : Some os ≡ Some a.now = rw h at e in let y : os ≡ a.now = cc in (ap pick y, ap length (sym y) ∙ eqb-true _ _ h))
      (λ h. let z : None ≡ Some a.now = rw h at e in absurd (let y : ◌≡◌ {A = ℕ} 0 1 = cc in omega arith))

module _ (tags values : List ℕ) (tag x : ℕ) where
  pub no_operand : and_then (operator tags values tag x) (of_count 1) ≡ cells_in None → and_then (operator tags values tag x) one_of ≡ None
  no_operand = none-counted one_of 1 one-not (operator tags values tag x)

  pub one_operand : (a : Bor (List ℕ)) → and_then (operator tags values tag x) (of_count 1) ≡ cells_in (Some a) → and_then (operator tags values tag x) one_of ≡ Some (get_or a.now 0 0)
  one_operand a e = let (p, l) = some-counted one_of 1 one-not (operator tags values tag x) a e in p ∙ one-is a.now l

  pub no_two : and_then (operator tags values tag x) (of_count 2) ≡ cells_in None → and_then (operator tags values tag x) two_of ≡ None
  no_two = none-counted two_of 2 two-not (operator tags values tag x)

  pub two_operands : (a : Bor (List ℕ)) → and_then (operator tags values tag x) (of_count 2) ≡ cells_in (Some a)
      → and_then (operator tags values tag x) two_of ≡ Some (get_or a.now 0 0, get_or a.now 1 0)
  two_operands a e = let (p, l) = some-counted two_of 2 two-not (operator tags values tag x) a e in p ∙ two-is a.now l

  pub no_three : and_then (operator tags values tag x) (of_count 3) ≡ cells_in None → and_then (operator tags values tag x) three_of ≡ None
  no_three = none-counted three_of 3 three-not (operator tags values tag x)

  pub three_operands : (a : Bor (List ℕ)) → and_then (operator tags values tag x) (of_count 3) ≡ cells_in (Some a)
      → and_then (operator tags values tag x) three_of ≡ Some (get_or a.now 0 0, get_or a.now 1 0, get_or a.now 2 0)
  three_operands a e = let (p, l) = some-counted three_of 3 three-not (operator tags values tag x) a e in p ∙ three-is a.now l
