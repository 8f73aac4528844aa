-- Laws of the clauses of the left body: what each call starts from, and one law for each answer.
-- Assumes nothing.
use Rattle.std.specs.Prelude.{Option, Some, None, Result, Err}
use Prim.Native.Nat.{ℕ, ◌+◌, ◌≤◌, ◌<◌}
use mathlib.Core.Path.{◌≡◌, refl, sym, ap, ap₂, ◌∙◌}
use mathlib.Core.Bool.{true, false, not, ◌&&◌}
use mathlib.Core.List.{List}
use lib.ListN.{length, take}
use lib.Seq.{length-take-le, get_or-take}
use lib.Dec.{leb}
use native.Mathlib.Omega.{arith}
use borrow.Author.Tests.{eq-eqb, eqb-false}
use Rattle.cells.specs.declared.TermPlace.{TermPlace}
use Rattle.cells.specs.ByPlace.{by-test}
use Rattle.descriptions.proofs.description.Growth.{Same}
use Rattle.answers.specs.declared.Answer.{Answer}
use Rattle.answers.specs.Refusal.{answer_to, answer_of_check}
use Rattle.answers.specs.declared.refusal.Refusal.{Refusal}
use Rattle.answers.specs.declared.refusal.Refusal.TheVariants.{NoRoom}
use Rattle.answers.proofs.Refusals.{refused-code}
use Rattle.meaning.proofs.trees.Passed.{Passed, pool-passes, pool-accepts}
use Rattle.formulas.specs.Normal.{Normal}
use Rattle.formulas.specs.Clauses.{cnf, empty_or, literal_total}
use Rattle.formulas.specs.Built.{normal_at, taken_out_form, form_at}
use Rattle.clauses.specs.ClauseList.{Lent, count_answer, list_answer, held, ListAnswered}
use Rattle.building.specs.Arrays.{pool_of, fits, normal_in, clausal_in, clausal_form_in}
use Rattle.building.specs.Walk.{State, Left, Holds, NormalBuilt}
use Rattle.normal_form.proofs.Clausal.{passed-state, tags-kept, values-kept, taken-on, clausal-on, normal-state}
use Rattle.answers.specs.Outcome.{Outcome, refuse, ◌>>◌, guard, answer_of}
use Rattle.clausification.specs.QntCnf.{within_limits, clauses_from, clausified}
use Rattle.clausification.specs.ClauseSearch.{clauses_in}
use Rattle.normal_form.specs.ClausalForms.{Both, FormsBuilt}
use Rattle.normal_form.specs.declared.clausal_forms.ClausalForms.{ClausalForms}
use Rattle.clausification.specs.Promises.{forall_at, follows_in, Leaves, ForallSides}
use Rattle.normal_form.proofs.clausal_forms.Laws.{cell_same, both-clausal}
use Rattle.clausification.proofs.clause_search.Laws.{clauses-listed}
use Rattle.clausification.proofs.qnt_cnf.Follows.{follows-kept}

-- ---- the clause list's answer: 13, 32, or the number of clauses
module _ (f : Normal (List ℕ) ℕ) (a : Answer) (is : a ≡ list_answer f) where
  list-refused : (a.code ≡ 0 → ⊥) → (next : Outcome (Unit {0}))
      → a ≡ answer_of (guard 13 0 0 (not (empty_or f)) >> (guard 32 0 0 (within_limits (cnf f)) >> next))
  unfolding list_answer count_answer within_limits guard ◌>>◌
  list-refused n next =
      by-test (empty_or f) (λ o. rw (is, o))
      (λ o. by-test (leb (length (cnf f)) 2048 && leb (literal_total (cnf f)) 8192)
      (λ p. absurd (n (rw (is, o, p))))
      (λ p. rw (is, o, p)))

  list-made : a.code ≡ 0 → (empty_or f ≡ false) × (within_limits (cnf f) ≡ true) × (a.first ≡ length (cnf f))
  unfolding list_answer count_answer within_limits
  list-made z =
      by-test (empty_or f) (λ o. absurd (never 12 (rw (is, o) at z)))
      (λ o. by-test (leb (length (cnf f)) 2048 && leb (literal_total (cnf f)) 8192)
      (λ p. (o, p, rw (is, o, p)))
      (λ p. absurd (never 31 (rw (is, o, p) at z))))
    where
      never : (k : ℕ) → k + 1 ≡ 0 → ⊥
      never k e = omega arith

-- ---- the two forms
module _ (n t : ℕ) (tags values : List ℕ) (f : Option ClausalForms) (tags₂ values₂ : List ℕ) (built : FormsBuilt n t tags values f tags₂ values₂)
    (g : ClausalForms) (e : f ≡ Some g) where
  abbrev x : TermPlace
  x = g.normal

  abbrev m : ℕ
  m = g.normal_count

  abbrev y : TermPlace
  y = g.taken_out

  abbrev k : ℕ
  k = g.count

  both : Both n t tags values x m y k tags₂ values₂
  both = rw e at built

  -- the arrays up to the second form, whose clauses are listed
  source : Holds m (taken_out_form (pool_of both.tags₁ both.values₁ m) x.0) y.0 k tags₂ values₂
  source = let (h, room) = both.taken in h

  pub all-within : k ≤ length tags₂
  all-within = source.state.within

  pub all-within-values : k ≤ length values₂
  all-within-values = omega (arith, source.state.within, source.state.size)

  pub all-part : k ≡ length (take k tags₂)
  all-part = sym (length-take-le k tags₂ all-within)

  pub lent : Lent (length (take k tags₂)) 8192 2048
  lent = record { small = omega (arith, all-part, source.state.small); literals = omega arith; ends = omega arith }

  -- the arrays up to the first form
  pub source-within : m ≤ length tags₂
  source-within = omega (arith, source.state.source, all-within)

  pub source-within-values : m ≤ length values₂
  source-within-values = omega (arith, source.state.source, all-within-values)

  pub source-part-values : m ≡ length (take m values₂)
  source-part-values = sym (length-take-le m values₂ source-within-values)

-- ---- the answers
module _ (tags values : List ℕ) (n l left r right : ℕ) (ask : ForallSides tags values n l left r right) where
  passed : Passed tags values ask.table n
  passed = pool-passes tags values ask.table n (pool-accepts tags values ask.table n ask.passed)

  pub sides-state : State n n tags values
  sides-state = passed-state passed

  pub sides-below : left < n
  sides-below = ask.left_body

  abbrev outcome : Outcome (Unit {0})
  outcome = clausified tags values n (forall_at tags values l left) (forall_at tags values r right)

  no-room : fits (clausal_in tags values n left).pool (length tags) ≡ false → refuse 31 0 0 ≡ outcome
  unfolding clausified guard ◌>>◌
  no-room e = rw e

  module _ (f : Option ClausalForms) (tags₂ values₂ : List ℕ) (built : FormsBuilt n left tags values f tags₂ values₂) where
    pub clausified-full : f ≡ None → (r : Result (Unit {0}) Refusal) → r ≡ Err NoRoom → Leaves n tags values outcome r tags₂ values₂
    clausified-full e r is = let (kept, full) = rw e at built in record { answer = rw is (ap answer_of (no-room full)); left = kept }

    module _ (g : ClausalForms) (e : f ≡ Some g) (a : Answer) (literals ends : List ℕ)
        (listed : ListAnswered (list_answer (form_at (take g.count tags₂) (take g.count values₂) g.taken_out.0)) (cnf (form_at (take g.count tags₂) (take g.count values₂) g.taken_out.0)) 8192 2048 a literals ends) where
      forms : Both n left tags values g.normal g.normal_count g.taken_out g.count tags₂ values₂
      forms = rw e at built

      first : Holds n (normal_in tags values n left true) g.normal.0 g.normal_count forms.tags₁ forms.values₁
      first = let (h, room) = forms.normal in h

      both-built : NormalBuilt n tags values (clausal_in tags values n left) (Some (g.taken_out, g.count)) tags₂ values₂
      both-built = both-clausal n left tags values sides-state g.normal g.normal_count g.taken_out g.count tags₂ values₂ forms

      clausal-holds : Holds n (clausal_in tags values n left) g.taken_out.0 g.count tags₂ values₂
      clausal-holds = let (h, room) = both-built in h

      room : fits (clausal_in tags values n left).pool (length tags) ≡ true
      room = let (h, fit) = both-built in fit

      kept : Left n tags values tags₂ values₂
      kept =
          let s = sides-state in
          let on = clausal-on tags values n left s in
          record {
            tags-size = forms.tags-size;
            values-size = forms.values-size;
            tags-kept = tags-kept n tags values s _ on g.taken_out.0 g.count tags₂ values₂ clausal-holds;
            values-kept = values-kept n tags values s _ on g.taken_out.0 g.count tags₂ values₂ clausal-holds;
          }

      form-is : form_at (take g.count tags₂) (take g.count values₂) g.taken_out.0 ≡ clausal_form_in tags values n left
      form-is = ap₂ normal_at clausal-holds.pool-is clausal-holds.place_is

      lists : ListAnswered (list_answer (clausal_form_in tags values n left)) (cnf (clausal_form_in tags values n left)) 8192 2048 a literals ends
      lists = rw form-is at listed

      pub clausified-refused : (y : Refusal) → a ≡ answer_to y → (r : Result (Unit {0}) Refusal) → r ≡ Err y → Leaves n tags values outcome r tags₂ values₂
      unfolding clausified guard ◌>>◌
      clausified-refused y z r is =
          let list = list-refused (clausal_form_in tags values n left) (answer_to y) (sym z ∙ lists.answer) (eqb-false _ _ (refused-code y)) _ in
          record { answer = rw (is, room) list; left = kept }

      module _ (z : a.code ≡ 0) where
        clauses-are : clauses_in literals ends 0 a.first ≡ clauses_from tags values n left
        unfolding clauses_from held
        clauses-are =
            let (some, limits, number) = list-made (clausal_form_in tags values n left) a lists.answer z in
            clauses-listed (cnf (clausal_form_in tags values n left)) 8192 2048 literals ends a.first
            (rw (eq-eqb _ _ z) at lists.literals-are) (rw (eq-eqb _ _ z) at lists.ends-are) number

        -- the first m cells hold the normal form alone
        first-pool : pool_of tags₂ values₂ g.normal_count ≡ (normal_in tags values n left true).pool
        first-pool =
            let s = normal-state tags values n left (Some (g.normal, g.normal_count)) forms.tags₁ forms.values₁ forms.normal g.normal g.normal_count refl in
            let on = taken-on g.normal_count forms.tags₁ forms.values₁ g.normal.0 s in
            let (h, fit) = forms.taken in
            ap₂ (λ (p q : List ℕ). record { tags = p; values = q })
            (tags-kept g.normal_count forms.tags₁ forms.values₁ s _ on g.taken_out.0 g.count tags₂ values₂ h) (values-kept g.normal_count forms.tags₁ forms.values₁ s _ on g.taken_out.0 g.count tags₂ values₂ h)
            ∙ first.pool-is

        normal-form : form_at (take g.normal_count tags₂) (take g.normal_count values₂) g.normal.0 ≡ normal_at (normal_in tags values n left true).pool (normal_in tags values n left true).place
        normal-form = ap₂ normal_at first-pool first.place_is

        same : Same n tags values (take g.normal_count tags₂) (take g.normal_count values₂)
        same = record {
          long = passed.whole;
          long' = omega (arith, source-part-values n left tags values f tags₂ values₂ built g e, first.state.source);
          tags-same = λ i h. get_or-take g.normal_count tags₂ i 0 (omega (arith, first.state.source)) ∙ sym (cell_same n tags tags₂ kept.tags-kept i h);
          values_same = λ i h. get_or-take g.normal_count values₂ i 0 (omega (arith, first.state.source)) ∙ sym (cell_same n values values₂ kept.values-kept i h);
        }

        pub clausified-follows : (p : Result (Unit {0}) Refusal) → answer_of_check p ≡ answer_of (follows_in (take g.normal_count tags₂) (take g.normal_count values₂) n g.normal.0 l r right (clauses_in literals ends 0 a.first))
            → Leaves n tags values outcome p tags₂ values₂
        unfolding clausified guard ◌>>◌
        clausified-follows p is =
            let (some, limits, number) = list-made (clausal_form_in tags values n left) a lists.answer z in
            let follows : follows_in (take g.normal_count tags₂) (take g.normal_count values₂) n g.normal.0 l r right (clauses_in literals ends 0 a.first) ≡ outcome =
            follows-kept n tags values (take g.normal_count tags₂) (take g.normal_count values₂) same passed.formed l left r right g.normal.0
            ask.left-place ask.right-place ask.right-body normal-form _ clauses-are ∙ sym (rw (room, some, limits)) in
            record { answer = rw (← follows) is; left = kept }
