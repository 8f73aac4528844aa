-- Laws of `check`: each exit's answer, and the arrays after it.
-- Assumes nothing.
use Rattle.std.specs.Prelude.{Option, None, Result, Ok, Err, ok_or}
use Prim.Native.Nat.{ℕ, suc, ◌≤◌, min}
use mathlib.Core.Path.{◌≡◌, refl, sym, ap, ◌∙◌}
use mathlib.Core.Logic.{◌↔◌}
use mathlib.Core.Bool.{Bool, true, false, not, ◌&&◌, cond}
use mathlib.Core.List.{List}
use lib.ListN.{length, get_or, length-drop}
use lib.Dec.{ltb, eqb}
use native.Mathlib.Omega.{arith}
use borrow.Author.Tests.{eq-eqb, ne_eqb, eqb-true, eqb-false, ltb-true, not-true, not-false}
use Rattle.cells.specs.ByPlace.{by-test}
use Rattle.cells.specs.Cell.{cells_of, operands_of}
use Rattle.headers.specs.WellFormed.{is_term}
use Rattle.descriptions.specs.Description.{zero_from, Cut}
use Rattle.answers.specs.Answer.{accepted, refused, not_a_term}
use Rattle.descriptions.specs.Index.{Index}
use Rattle.pool.specs.Check.{Indexed, and_then, check_pool, check_term, CheckedTerm}
use Rattle.answers.specs.declared.Answer.{Answer}
use Rattle.meaning.proofs.trees.Header.{both, cells-length, term-tagged}
use Rattle.meaning.proofs.trees.Passed.{Passed, pool-passes, pool-accepts, header_at}
use Rattle.answers.specs.Outcome.{answer_of}
use Rattle.meaning.proofs.patterns.Trees.{equality-tree}
use Rattle.miniscoping.specs.LeftFits.{LeftFits}
use Rattle.rules.specs.Step.{is_rule, rule_outcome, step_answer, cells_left, Follows, StepHolds, Step}
use Rattle.clausification.specs.Promises.{Clausified}
use Rattle.rules.specs.StepWalk.{before_rule, Ready, Judged, CellsKept}
use Rattle.answers.specs.Refusal.{answer_to, answer_of_check}
use Rattle.answers.specs.declared.refusal.Refusal.{Refusal}
use Rattle.answers.specs.declared.refusal.Refusal.TheVariants.{UnknownRule}
use Rattle.cells.specs.declared.TermPlace.{TermPlace}
use Rattle.answers.proofs.Refusals.{refused-code}
use Rattle.rules.specs.RuleCode.{code_of, RuleOf}
use Rattle.rules.specs.declared.rule.Rule.{Rule}
use Rattle.rules.proofs.rule.Laws.{code-known}
use Rattle.rules.proofs.Codes.{rule-codes, not-30}
use Rattle.rules.proofs.Accepted.{step_follows}
use Rattle.rules.proofs.Schema.{step_is}

-- ---- the rules
module _ (tags values : List ℕ) (n rule x : ℕ) (r : Result (Unit {0}) Refusal) where
  abbrev After : List ℕ → List ℕ → Type 0
  After = Judged n rule (answer_of (rule_outcome tags values n rule x)) (answer_of_check r) tags values

  pub apply-other : (rule ≡ 3 → ⊥) → answer_of_check r ≡ answer_of (rule_outcome tags values n rule x) → After tags values
  apply-other other e = record { answer = e; tags-kept = kept tags; values-kept = kept values }
    where
      kept : (l : List ℕ) → CellsKept n rule l l
      kept l = record { same = λ o. refl; zeroed = λ o. absurd (other o) }

  pub apply-cnf : rule ≡ 3 → (tags' values' : List ℕ) → Clausified tags values n x r tags' values' → After tags' values'
  unfolding rule_outcome
  apply-cnf e tags' values' c =
      record {
        answer = rw (ne_eqb rule 1 (λ z. omega arith), ne_eqb rule 2 (λ z. omega arith), eq-eqb _ _ e) c.answer;
        tags-kept = record { same = λ o. absurd (o e); zeroed = λ o. c.tags-are };
        values-kept = record { same = λ o. absurd (o e); zeroed = λ o. c.values-are };
      }

-- ---- a conclusion that passes its checks
module _ (tags values : List ℕ) (n x : ℕ) where
  -- a term's operand run lies in the pool
  short : {table : List ℕ} → Passed tags values table n → (p : ℕ) → is_term tags n p ≡ true → length (operands_of tags values p) ≤ 8192
  unfolding operands_of is_term
  short c p t =
      let (a, b) = both (ltb p n) _ t in
      let h = header_at c p (ltb-true p n a) (term-tagged _ b) in
      let k = cells-length tags values p n c.whole h in
      by-test (ltb (get_or tags p 0) 22) (λ o. rw o (omega arith)) (λ o. rw (o, length-drop 1 (cells_of values p)) (omega (arith, h.below, k, c.limit)))

  -- so does the left side of an equality
  pub left-fits : CheckedTerm tags values n x → LeftFits tags values x
  unfolding check_term and_then
  left-fits checked =
      let table = checked.table in
      let e = checked.passed in
      by-test (eqb (check_pool tags values table n).code 0)
      (λ a. by-test (is_term tags n x)
      (λ b. let c = pool-passes tags values table n (pool-accepts tags values table n (eqb-true _ 0 a)) in
      record { most = λ sides q. short c sides.0 (equality-tree c x b sides q).left })
      (λ b. absurd (other 16 (rw (a, b) at e))))
      (λ a. absurd (eqb-false _ 0 a (rw a at e)))
    where
      other : (k : ℕ) → suc k ≡ 0 → ⊥
      other k z = omega arith

-- ---- the checks before the rule, in their order
module _ (tags : List ℕ) (n code : ℕ) (conclusion : List ℕ) where
  pub before-pool : (x : Refusal) → answer_to x ≡ before_rule tags n code conclusion (answer_to x)
  unfolding before_rule and_then
  before-pool x = rw (refused-code x)

  pub before-unknown : is_rule code ≡ false → refused 18 code 0 ≡ before_rule tags n code conclusion (accepted 0 0)
  unfolding before_rule and_then
  before-unknown e = rw e

  module _ (r : Result (Rule × TermPlace) Refusal) (x : Refusal) (e : r ≡ Err x) (checked : Result (Unit {0}) Refusal) where
    pub ready-pool : checked ≡ Err x → Ready tags n code conclusion (answer_of_check checked) r
    ready-pool was = rw (e, was) (before-pool x)

    pub ready-unknown : (u : Unit {0}) → checked ≡ Ok u → (o : Option Rule) → RuleOf code o → o ≡ None → Err x ≡ ok_or o (UnknownRule code)
        → Ready tags n code conclusion (answer_of_check checked) r
    ready-unknown u was o of none value =
        let same : Err x ≡ Err (UnknownRule code) = rw none at value in
        let is : x ≡ UnknownRule code = cc in
        rw (e, was, is) (before-unknown (rw none at of))

  module _ (rule : Rule) (named : code ≡ code_of rule) where
    known : is_rule code ≡ true
    known = rw named (code-known rule)

    pub before-length : (length conclusion ≡ 1 → ⊥) → (w : ℕ) → w ≡ min 4294967295 (length conclusion)
        → refused 1 w 0 ≡ before_rule tags n code conclusion (accepted 0 0)
    unfolding before_rule and_then
    before-length h w q = rw (known, ne_eqb _ _ h, ← q)

    module _ (one : length conclusion ≡ 1) (t : Bool) (term : t ≡ is_term tags n (get_or conclusion 0 0)) where
      pub before-place : not t ≡ true → not_a_term (get_or conclusion 0 0) ≡ before_rule tags n code conclusion (accepted 0 0)
      unfolding before_rule and_then
      before-place f = rw (known, eq-eqb _ _ one, ← term, not-true t f)

      pub before-passed : not t ≡ false → before_rule tags n code conclusion (accepted 0 0) ≡ accepted 0 0
      unfolding before_rule and_then
      before-passed f = rw (known, eq-eqb _ _ one, ← term, not-false t f)

-- ---- the rule after them: early is their answer
module _ (tags values table : List ℕ) (n rule : ℕ) (conclusion : List ℕ) (a : Answer) (is : a ≡ check_pool tags values table n)
    (early : Answer) (before : early ≡ before_rule tags n rule conclusion a) where
  abbrev x : ℕ
  x = get_or conclusion 0 0

  abbrev whole : Answer
  whole = step_answer tags values table n rule conclusion

  other : (k : ℕ) → suc k ≡ 0 → ⊥
  other k z = omega arith

  module _ (ok : early.code ≡ 0) where
    passed : (a.code ≡ 0) × (is_rule rule ≡ true) × (length conclusion ≡ 1) × (is_term tags n x ≡ true)
    unfolding before_rule and_then
    passed =
        let z : (before_rule tags n rule conclusion a).code ≡ 0 = sym (ap (λ (r : Answer). r.code) before) ∙ ok in
        by-test (eqb a.code 0)
        (λ p. by-test (is_rule rule)
        (λ k. by-test (eqb (length conclusion) 1)
        (λ o. by-test (is_term tags n x)
        (λ t. (eqb-true _ 0 p, k, eqb-true _ 1 o, t))
        (λ t. absurd (other 16 (rw (p, k, o, t) at z))))
        (λ o. absurd (other 0 (rw (p, k, o) at z))))
        (λ k. absurd (other 17 (rw (p, k) at z))))
        (λ p. absurd (eqb-false _ 0 p (rw p at z)))

    pub one_place : length conclusion ≡ 1
    one_place = passed.2

    pub place-ready : CheckedTerm tags values n x
    unfolding check_term and_then
    place-ready = record { table = table; passed = rw (← is, eq-eqb _ _ passed.0, passed.3) }

    pub index-ready : (index : List ℕ) → Indexed tags values n a index → Index tags values n index
    index-ready index i = i.passed passed.0

    module _ (r : Answer) (tags' values' : List ℕ) (j : Judged n rule (answer_of (rule_outcome tags values n rule x)) r tags values tags' values') where
      -- a rule gives no 30
      never : r.code ≡ 30 → ⊥
      never o = not-30 (rule_outcome tags values n rule x) (rule-codes tags values n x rule) (sym (ap (λ (q : Answer). q.code) j.answer) ∙ o)

      left : (l l' : List ℕ) → CellsKept n rule l l' → l' ≡ cells_left tags values table n rule conclusion r l
      unfolding cells_left
      left l l' k =
          by-test (eqb rule 3)
          (λ o. rw (o, ne_eqb _ _ never) (k.zeroed (eqb-true rule 3 o)))
          (λ o. rw o (k.same (eqb-false rule 3 o)))

      answer-is : r ≡ whole
      unfolding step_answer and_then
      answer-is = rw (← is, eq-eqb _ _ passed.0, passed.1, eq-eqb _ _ passed.2, passed.3) j.answer

      pub step-rule : Step tags values table n rule conclusion r tags' values'
      step-rule = record {
        answer = answer-is;
        tags-are = left tags tags' j.tags-kept;
        values-are = left values values' j.values-kept;
        accepts = step_is tags values table n rule conclusion r answer-is;
        follows = step_follows tags values table n rule conclusion r answer-is;
      }

  module _ (no : early.code ≡ 0 → ⊥) where
    refused-is : early ≡ whole
    unfolding step_answer before_rule and_then
    refused-is =
        by-test (eqb a.code 0)
        (λ p. by-test (is_rule rule)
        (λ k. by-test (eqb (length conclusion) 1)
        (λ o. by-test (is_term tags n x)
        (λ t. let z : early ≡ accepted 0 0 = rw (p, k, o, t) at before in absurd (no (ap (λ (r : Answer). r.code) z)))
        (λ t. rw (← is, p, k, o, t) (rw (p, k, o, t) at before)))
        (λ o. rw (← is, p, k, o) (rw (p, k, o) at before)))
        (λ k. rw (← is, p, k) (rw (p, k) at before)))
        (λ p. rw (← is, p) (rw p at before))

    holds : early.code ≡ 0 ↔ StepHolds tags values table n rule conclusion
    holds = step_is tags values table n rule conclusion early refused-is

    truth : Follows tags values table n rule conclusion early
    truth = step_follows tags values table n rule conclusion early refused-is

    pub step_other : (rule ≡ 3 → ⊥) → Step tags values table n rule conclusion early tags values
    unfolding cells_left
    step_other h = record { answer = refused-is; tags-are = rw (ne_eqb _ _ h); values-are = rw (ne_eqb _ _ h); accepts = holds; follows = truth }

    pub step-30 : early.code ≡ 30 → Step tags values table n rule conclusion early tags values
    unfolding cells_left
    step-30 e = record { answer = refused-is; tags-are = sym (unchanged tags); values-are = sym (unchanged values); accepts = holds; follows = truth }
      where
        unchanged : (l : List ℕ) → cond (eqb rule 3 && not (eqb early.code 30)) (zero_from n l) l ≡ l
        unchanged l = by-test (eqb rule 3) (λ o. rw (o, eq-eqb _ _ e)) (λ o. rw o)

    pub step-zeroed : rule ≡ 3 → (early.code ≡ 30 → ⊥) → (tags' values' : List ℕ) → Cut n tags values tags' values'
        → Step tags values table n rule conclusion early tags' values'
    unfolding cells_left
    step-zeroed e h tags' values' cut = record {
      answer = refused-is;
      tags-are = rw (eq-eqb _ _ e, ne_eqb _ _ h) cut.tags-are;
      values-are = rw (eq-eqb _ _ e, ne_eqb _ _ h) cut.values-are;
      accepts = holds;
      follows = truth;
    }

pub indexed-after : (tags values : List ℕ) (n : ℕ) (a : Answer) (index : List ℕ) → Index tags values n index → Indexed tags values n a index
indexed-after tags values n a index i = record { passed = λ ok. i }

-- `check` hands on what `check_after` promises
pub handed-on : {tags values table : List ℕ} {n rule : ℕ} {conclusion : List ℕ} {r : Answer} {tags' values' : List ℕ}
    → Step tags values table n rule conclusion r tags' values' → Step tags values table n rule conclusion r tags' values'
handed-on s = s
