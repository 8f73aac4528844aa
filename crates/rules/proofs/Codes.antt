-- A rule's refusal has a number of its own: neither 0, which is acceptance, nor 30, at which nothing changes.
--     rule-codes     of the six rules
--     accepted       so an answer 0 is an acceptance
-- Assumes nothing.
use Prim.Native.Nat.{ℕ}
use mathlib.Core.Path.{◌≡◌, refl}
use mathlib.Core.Bool.{Bool, true, false, ◌&&◌, cond}
use mathlib.Core.List.{List, [], ◌∷◌}
use Rattle.std.specs.Prelude.{Option, Some, None}
use lib.Dec.{eqb}
use native.Mathlib.Omega.{arith}
use borrow.Author.Tests.{eqb-false}
use Rattle.answers.specs.Outcome.{Outcome, pass, refuse, ◌>>=◌, ◌>>◌, need, guard, unless, answer_of}
use Rattle.bindings.specs.Binding.{Binding}
use Rattle.formulas.specs.Pattern.{Quantifier}
use Rattle.quantifier_rules.specs.QntJoin.{qnt_join}
use Rattle.quantifier_rules.specs.QntRmUnused.{removes, unused, body_or, qnt_rm_unused}
use Rattle.clausification.specs.QntCnf.{clause_follows, clausified, qnt_cnf}
use Rattle.miniscoping.specs.MiniscopeDistribute.{Sides, distributed, distributed_all, miniscope_distribute}
use Rattle.bindings.specs.Used.{without, use_all}
use Rattle.miniscoping.specs.MiniscopeSplit.{split_off, split_one, split_all, split_sides, miniscope_split}
use Rattle.miniscoping.specs.MiniscopeIte.{miniscope_ite}
use Rattle.rules.specs.Step.{rule_outcome}

-- neither 0 nor 30
abbrev Number : ℕ → Type 0
Number k = (k ≡ 0 → ⊥) × (k ≡ 30 → ⊥)

-- shown by computation
number : (k : ℕ) → eqb k 0 ≡ false → eqb k 30 ≡ false → Number k
number k a b = (eqb-false k 0 a, eqb-false k 30 b)

unfoldable pub Coded : {A : Type 0} → Outcome A → Type 0
Coded (pass a) = Unit {0}
Coded (refuse k m n) = Number k

-- ---- one check after another
bind-coded : {A B : Type 0} (o : Outcome A) (next : A → Outcome B) → Coded o → ((a : A) → Coded (next a)) → Coded (o >>= next)
unfolding Coded ◌>>=◌
bind-coded (pass a) next c f = f a
bind-coded (refuse k m n) next c f = c

then-coded : {A B : Type 0} (o : Outcome A) (next : Outcome B) → Coded o → Coded next → Coded (o >> next)
unfolding Coded ◌>>◌
then-coded (pass a) next c f = f
then-coded (refuse k m n) next c f = c

need-coded : {A : Type 0} (k m n : ℕ) (o : Option A) → Number k → Coded (need k m n o)
unfolding Coded need
need-coded k m n (Some a) c = tt
need-coded k m n None c = c

guard-coded : (k m n : ℕ) (b : Bool) → Number k → Coded (guard k m n b)
unfolding Coded guard
guard-coded k m n true c = tt
guard-coded k m n false c = c

unless-coded : {A : Type 0} (k : ℕ) (f : A → ℕ) (n : ℕ) (o : Option A) → Number k → Coded (unless k f n o)
unfolding Coded unless
unless-coded k f n (Some a) c = c
unless-coded k f n None c = tt

-- a check by its number, and then the rest
module _ (k : ℕ) (a : eqb k 0 ≡ false) (b : eqb k 30 ≡ false) (m n : ℕ) where
  need-then : {A B : Type 0} (o : Option A) (next : A → Outcome B) → ((x : A) → Coded (next x)) → Coded (need k m n o >>= next)
  need-then o next f = bind-coded (need k m n o) next (need-coded k m n o (number k a b)) f

  guard-then : {B : Type 0} (t : Bool) (next : Outcome B) → Coded next → Coded (guard k m n t >> next)
  guard-then t next f = then-coded (guard k m n t) next (guard-coded k m n t (number k a b)) f

module _ (k : ℕ) (a : eqb k 0 ≡ false) (b : eqb k 30 ≡ false) {A : Type 0} (f : A → ℕ) (n : ℕ) (o : Option A) where
  unless-then : {B : Type 0} (next : Outcome B) → Coded next → Coded (unless k f n o >> next)
  unless-then next g = then-coded (unless k f n o) next (unless-coded k f n o (number k a b)) g

cond-coded : {A : Type 0} (b : Bool) (o p : Outcome A) → Coded o → Coded p → Coded (cond b o p)
cond-coded true o p c d = c
cond-coded false o p c d = d

-- ---- the rules
module _ (tags values : List ℕ) where
  join-coded : (x : ℕ) → Coded (qnt_join tags values x)
  unfolding qnt_join
  join-coded x =
      need-then 2 refl refl _ _ _ _ λ sides.
      need-then 3 refl refl _ _ _ _ λ left.
      need-then 3 refl refl _ _ _ _ λ inner.
      need-then 3 refl refl _ _ _ _ λ right.
      guard-then 4 refl refl _ _ _ _ (guard-then 4 refl refl _ _ _ _ (guard-then 5 refl refl _ _ _ _ (guard-coded 7 _ _ _ (number 7 refl refl))))

  distributed-coded : (s : Sides) (ts us : List ℕ) → Coded (distributed_all tags values s ts us)
  unfolding Coded distributed_all distributed
  distributed-coded s [] us = tt
  distributed-coded s (t ∷ ts) [] = tt
  distributed-coded s (t ∷ ts) (u ∷ us) =
      then-coded _ _ (need-then 2 refl refl _ _ _ _ λ q. guard-then 6 refl refl _ _ _ _ (guard-coded 5 _ _ _ (number 5 refl refl))) (distributed-coded s ts us)

  distribute-coded : (x : ℕ) → Coded (miniscope_distribute tags values x)
  unfolding miniscope_distribute
  distribute-coded x = need-then 2 refl refl _ _ _ _ λ s. guard-then 11 refl refl _ _ _ _ (distributed-coded s s.from s.to)

  use-coded : (as' rest : List Binding) → Coded (use_all as' rest)
  unfolding Coded use_all
  use-coded [] rest = tt
  use-coded (a ∷ as') rest = guard-then 8 refl refl _ _ _ _ (use-coded as' (without a rest))

  one-coded : (kind : Bool) (rest : List Binding) (t u : ℕ) → Coded (split_one tags values kind rest t u)
  unfolding Coded split_one split_off
  one-coded kind rest t u =
      cond-coded (eqb t u) (pass rest) _ tt (need-then 2 refl refl _ _ _ _ λ q. guard-then 5 refl refl _ _ _ _ (use-coded q.list rest))

  all_coded : (kind : Bool) (rest : List Binding) (ts us : List ℕ) → Coded (split_all tags values kind rest ts us)
  unfolding Coded split_all
  all_coded kind rest [] us = tt
  all_coded kind rest (t ∷ ts) [] = tt
  all_coded kind rest (t ∷ ts) (u ∷ us) = bind-coded _ _ (one-coded kind rest t u) (λ left. all_coded kind left ts us)

module _ (tags values : List ℕ) (n x : ℕ) where
  removes-coded : (left : Quantifier) (y : ℕ) → Coded (removes tags values n left y)
  unfolding removes
  removes-coded left y =
      need-then 3 refl refl _ _ _ _ λ right.
      guard-then 4 refl refl _ _ _ _ (guard-then 5 refl refl _ _ _ _ (unless-then 8 refl refl _ _ _ _ (unless-coded 9 _ _ _ (number 9 refl refl))))

  rm-unused-coded : Coded (qnt_rm_unused tags values n x)
  unfolding Coded qnt_rm_unused body_or
  rm-unused-coded =
      need-then 2 refl refl _ _ _ _ λ sides.
      need-then 3 refl refl _ _ _ _ λ left.
      cond-coded (unused tags values n left && eqb left.body sides.1) (pass tt) _ tt (removes-coded left sides.1)

  cnf-coded : Coded (qnt_cnf tags values n x)
  unfolding qnt_cnf clausified clause_follows
  cnf-coded =
      need-then 2 refl refl _ _ _ _ λ sides.
      need-then 3 refl refl _ _ _ _ λ left.
      need-then 3 refl refl _ _ _ _ λ right.
      guard-then 4 refl refl _ _ _ _ (guard-then 4 refl refl _ _ _ _
      (guard-then 31 refl refl _ _ _ _ (guard-then 13 refl refl _ _ _ _ (guard-then 32 refl refl _ _ _ _
      (unless-then 8 refl refl _ _ _ _ (guard-then 10 refl refl _ _ _ _ (unless-coded 9 _ _ _ (number 9 refl refl))))))))

  split-coded : Coded (miniscope_split tags values n x)
  unfolding miniscope_split split_sides
  split-coded =
      need-then 2 refl refl _ _ _ _ λ s.
      guard-then 11 refl refl _ _ _ _
      (then-coded _ _ (all_coded tags values s.kind s.list s.from s.to) (unless-coded 12 _ _ _ (number 12 refl refl)))

  ite-coded : Coded (miniscope_ite tags values n x)
  unfolding miniscope_ite
  ite-coded = need-then 2 refl refl _ _ _ _ λ s. guard-then 6 refl refl _ _ _ _ (guard-then 6 refl refl _ _ _ _ (unless-coded 12 _ _ _ (number 12 refl refl)))

  pub rule-codes : (rule : ℕ) → Coded (rule_outcome tags values n rule x)
  unfolding rule_outcome
  rule-codes rule =
      cond-coded (eqb rule 1) _ _ (join-coded tags values x)
      (cond-coded (eqb rule 2) _ _ rm-unused-coded
      (cond-coded (eqb rule 3) _ _ cnf-coded
      (cond-coded (eqb rule 4) _ _ (distribute-coded tags values x)
      (cond-coded (eqb rule 5) _ _ split-coded ite-coded))))

-- ---- answers
pub accepted : (o : Outcome (Unit {0})) → Coded o → (answer_of o).code ≡ 0 → o ≡ pass tt
unfolding Coded
accepted (pass a) c e = refl
accepted (refuse k m n) c e = absurd (c.0 e)

pub not-30 : (o : Outcome (Unit {0})) → Coded o → (answer_of o).code ≡ 30 → ⊥
unfolding Coded
not-30 (pass a) c e = omega arith
not-30 (refuse k m n) c e = c.1 e
