-- Laws of `Refusal`: the code of a refusal is not 0, so that a check passes exactly if its answer is an acceptance.
-- Assumes nothing.
use Prim.Native.Nat.{ℕ}
use mathlib.Core.Path.{◌≡◌, refl}
use mathlib.Core.Bool.{false}
use lib.Dec.{eqb}
use native.Mathlib.Omega.{arith}
use Rattle.std.specs.Prelude.{Option, Some, None, ok_or, Result, Ok, Err, is_ok, IsErrAnd}
use Rattle.answers.specs.Refusal.{answer_to, answer_of_check, outcome_of}
use Rattle.answers.specs.Outcome.{refuse}
use Rattle.answers.specs.declared.refusal.Refusal.{Refusal}
use Rattle.answers.specs.declared.refusal.Refusal.TheVariants.{ConclusionCount, WrongForm, NoQuantifier, OtherQuantifier, TermsDiffer, ListsDiffer, NotJoined, NewVariable, MissingVariable, ClauseAbsent, OperandCounts, StillFree, EmptyOr, IllFormed, Repeated, WrongSort, NotATerm, UnknownRule, BadArrays, NoRoom, TooManyClauses, BadTable, NotBool}

pub refused-code : (x : Refusal) → eqb (answer_to x).code 0 ≡ false
refused-code (ConclusionCount a) = refl
refused-code (WrongForm a) = refl
refused-code (NoQuantifier a) = refl
refused-code (OtherQuantifier a b) = refl
refused-code (TermsDiffer a b) = refl
refused-code (ListsDiffer a b) = refl
refused-code (NotJoined a b) = refl
refused-code (NewVariable a) = refl
refused-code (MissingVariable a) = refl
refused-code (ClauseAbsent a) = refl
refused-code (OperandCounts a b) = refl
refused-code (StillFree a b) = refl
refused-code EmptyOr = refl
refused-code (IllFormed a) = refl
refused-code (Repeated a) = refl
refused-code (WrongSort a) = refl
refused-code (NotATerm a) = refl
refused-code (UnknownRule a) = refl
refused-code BadArrays = refl
refused-code NoRoom = refl
refused-code TooManyClauses = refl
refused-code (BadTable a) = refl
refused-code (NotBool a) = refl

pub passed-code : (r : Result (Unit {0}) Refusal) → eqb (answer_of_check r).code 0 ≡ is_ok r
passed-code (Ok u) = refl
passed-code (Err x) = refused-code x

-- what a `?` hands on is the refusal that it met
pub handed-on : {A : Type 0} (r : Result A Refusal) (x : Refusal) → IsErrAnd r (λ e. e ≡ x) → r ≡ Err x
handed-on (Ok u) x e = absurd e
handed-on (Err y) x e = rw e

-- what an `ok_or(..)?` hands on is the refusal that it names
pub named : {A B : Type 0} (o : Option A) (e x : Refusal) (r : Result B Refusal) → Err x ≡ ok_or o e → IsErrAnd r (λ y. y ≡ x) → r ≡ Err e
named (Some a) e x r v h = absurd (let z : ◌≡◌ {A = ℕ} 0 1 = cc in omega arith)
named None e x r v h = let same : x ≡ e = cc in rw (handed-on r x h, same)

module _ {A : Type 0} (o : Option A) (e x : Refusal) (r : Result (Unit {0}) Refusal) (value : Err x ≡ ok_or o e) (h : IsErrAnd r (λ y. y ≡ x)) where
  pub asked : answer_of_check r ≡ answer_to e
  asked = rw (named o e x r value h)

  pub asked-outcome : {B : Type 0} (b : B) → refuse (answer_to e).code (answer_to e).first (answer_to e).second ≡ outcome_of r b
  asked-outcome b = rw (named o e x r value h)
