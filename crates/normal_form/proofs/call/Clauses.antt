-- Laws of the clause list's call: what is left at each answer.
-- Assumes nothing.
use Rattle.std.specs.Prelude.{Option, Some, None, Result, Ok, Err}
use Prim.Native.Nat.{ℕ, ◌≤◌, ◌<◌}
use mathlib.Core.Path.{◌≡◌, refl, sym, ap, ap₂, ◌∙◌}
use mathlib.Core.Bool.{◌&&◌}
use mathlib.Core.List.{List}
use lib.ListN.{length, take}
use lib.Seq.{length-take-le}
use lib.Dec.{leb, eqb}
use native.Mathlib.Omega.{arith}
use borrow.Author.Tests.{le-leb, lt-leb, eq-eqb, ne_eqb, eqb-true, eqb-false}
use Rattle.cells.specs.declared.TermPlace.{TermPlace}
use Rattle.cells.specs.ByPlace.{by-test}
use Rattle.descriptions.specs.Description.{zero_from, Cut}
use Rattle.answers.specs.Answer.{bad_arrays}
use Rattle.pool.specs.Check.{and_then, check_term}
use Rattle.answers.specs.declared.Answer.{Answer}
use Rattle.normal_form.specs.declared.call.Listed.{Listed}
use Rattle.formulas.specs.Normal.{Normal}
use Rattle.formulas.specs.Clauses.{cnf, empty_or, literal_total}
use Rattle.formulas.specs.Built.{normal_at, form_at}
use Rattle.formulas.specs.ClauseLists.{literal_places, clause_ends}
use Rattle.normal_form.specs.Calls.{clausal, clausal_form, clause_answer, list_left, count_left, ClauseList}
use Rattle.building.specs.Walk.{State, Holds}
use Rattle.clauses.specs.ClauseList.{Lent, count_answer, list_answer, held, ListAnswered}
use Rattle.normal_form.specs.ClausalForms.{FormsBuilt}
use Rattle.normal_form.specs.declared.clausal_forms.ClausalForms.{ClausalForms}
use Rattle.answers.specs.Refusal.{answer_to}
use Rattle.answers.specs.declared.refusal.Refusal.{Refusal}
use Rattle.answers.specs.declared.refusal.Refusal.TheVariants.{NoRoom}
use Rattle.normal_form.proofs.clausal_forms.Laws.{both-clausal}
use Rattle.normal_form.specs.ClauseCall.{Passes, Refuses, ClausalBuilt, unlisted, ListKept}
use Rattle.building.proofs.build.Building.{left-refl}
use Rattle.normal_form.proofs.Clausal.{zero-kept, tags-kept, values-kept, clausal-on}
use Rattle.clauses.proofs.clause_list.Laws.{zero-all}
use Rattle.normal_form.proofs.call.Laws.{checked-ready, holds-count, holds-tags, holds-values, left-30, left-refused, left-accepted}

-- ---- what is left in the lent arrays
module _ (tags values rules : List ℕ) (n t : ℕ) (r : Answer) (lent list : List ℕ) where
  list-30 : r.code ≡ 30 → lent ≡ list_left tags values rules n t r lent list
  unfolding list_left
  list-30 e = rw (eq-eqb _ _ e)

  list-refused : (r.code ≡ 30 → ⊥) → (r.code ≡ 0 → ⊥) → zero_from 0 lent ≡ list_left tags values rules n t r lent list
  unfolding list_left
  list-refused a b = rw (ne_eqb _ _ a, ne_eqb _ _ b) (zero-all lent)

  list_held : (r.code ≡ 30 → ⊥) → held r list (length lent) ≡ list_left tags values rules n t r lent list
  unfolding list_left held
  list_held a = rw (ne_eqb _ _ a)

-- the list's answer is never 30
list_code : (f : Normal (List ℕ) ℕ) → (list_answer f).code ≡ 30 → ⊥
unfolding list_answer count_answer
list_code f =
    by-test (empty_or f) (λ a. rw a (λ z. omega arith))
    (λ a. by-test (leb (length (cnf f)) 2048 && leb (literal_total (cnf f)) 8192) (λ b. rw (a, b) (λ z. omega arith)) (λ b. rw (a, b) (λ z. omega arith)))

-- ---- the checks of the term and its taken-out form
module _ (tags values rules : List ℕ) (n t : ℕ) (a : Answer) (is : a ≡ check_term tags values rules n t) where
  pub clausal-refused : (a.code ≡ 0 → ⊥) → Refuses tags values rules n t a tags values
  unfolding clause_answer and_then
  clausal-refused h = record {
    answer = λ l e k j. rw (le-leb _ _ k, le-leb _ _ j, ← is, ne_eqb _ _ h);
    code = h;
    same = λ z. (refl, refl);
    left = left-refl n tags values;
  }

  module _ (ok : a.code ≡ 0) where
    pub clausal-state : State n n tags values
    clausal-state = (checked-ready tags values rules n t a is ok).0

    pub clausal-below : t < n
    clausal-below = (checked-ready tags values rules n t a is ok).1

    module _ (f : Option ClausalForms) (tags₁ values₁ : List ℕ) (built : FormsBuilt n t tags values f tags₁ values₁) where
      pub clausal-full : f ≡ None → ClausalBuilt tags values rules n t (Err NoRoom) tags₁ values₁
      unfolding clause_answer and_then
      clausal-full e =
          let (kept, full) = rw e at built in
          (record {
            answer = λ l j h k. rw (le-leb _ _ h, le-leb _ _ k, ← is, eq-eqb _ _ ok, full);
            code = λ z. omega arith;
            same = λ z. absurd (omega arith);
            left = kept;
          })

      pub clausal-made : (g : ClausalForms) → f ≡ Some g → ClausalBuilt tags values rules n t (Ok (g.taken_out, g.count)) tags₁ values₁
      clausal-made g e = record { passed = rw is at ok; built = both-clausal n t tags values clausal-state g.normal g.normal_count g.taken_out g.count tags₁ values₁ (rw e at built) }

-- ---- the call
module _ (tags values rules : List ℕ) (n t : ℕ) (literals ends : List ℕ) where
  -- ---- 30 for the lent arrays
  pub short-literals : length literals < 8192 → (r : Listed) → r ≡ unlisted bad_arrays
      → ClauseList tags values rules n t literals ends r.answer r.count tags values literals ends
  unfolding clause_answer count_left
  short-literals h r e = rw e (record {
    answer = rw (lt-leb _ _ h);
    new-count = refl;
    tags-are = left-30 bad_arrays tags n _ refl;
    values-are = left-30 bad_arrays values n _ refl;
    literals-are = list-30 tags values rules n t bad_arrays literals _ refl;
    ends-are = list-30 tags values rules n t bad_arrays ends _ refl;
  })

  pub short-ends : 8192 ≤ length literals → length ends < 2048 → (r : Listed) → r ≡ unlisted bad_arrays
      → ClauseList tags values rules n t literals ends r.answer r.count tags values literals ends
  unfolding clause_answer count_left
  short-ends l h r e = rw e (record {
    answer = rw (le-leb _ _ l, lt-leb _ _ h);
    new-count = refl;
    tags-are = left-30 bad_arrays tags n _ refl;
    values-are = left-30 bad_arrays values n _ refl;
    literals-are = list-30 tags values rules n t bad_arrays literals _ refl;
    ends-are = list-30 tags values rules n t bad_arrays ends _ refl;
  })

  module _ (l : 8192 ≤ length literals) (k : 2048 ≤ length ends) (c : Result (TermPlace × ℕ) Refusal) (tags₁ values₁ : List ℕ)
      (is : ClausalBuilt tags values rules n t c tags₁ values₁) where
    -- ---- a refusal before there is a list
    module _ (x : Refusal) (e : c ≡ Err x) where
      abbrev a : Answer
      a = answer_to x

      refuses : Refuses tags values rules n t a tags₁ values₁
      refuses = rw e at is

      no-count : 0 ≡ count_left tags values rules n t a
      unfolding count_left
      no-count = rw (ne_eqb _ _ refuses.code)

      pub list-arrays : a.code ≡ 30 → (r : Listed) → r ≡ unlisted a
          → ClauseList tags values rules n t literals ends r.answer r.count tags₁ values₁ literals ends
      list-arrays h r i =
          let (same-tags, same-values) = refuses.same h in
          rw i (record {
            answer = refuses.answer (length literals) (length ends) l k;
            new-count = no-count;
            tags-are = same-tags ∙ left-30 a tags n _ h;
            values-are = same-values ∙ left-30 a values n _ h;
            literals-are = list-30 tags values rules n t a literals _ h;
            ends-are = list-30 tags values rules n t a ends _ h;
          })

      pub list-stopped : (a.code ≡ 30 → ⊥) → (tags' values' literals' ends' : List ℕ)
          → Cut n tags₁ values₁ tags' values' → Cut 0 literals ends literals' ends' → (r : Listed) → r ≡ unlisted a
          → ClauseList tags values rules n t literals ends r.answer r.count tags' values' literals' ends'
      list-stopped h tags' values' literals' ends' cut lists r i =
          let left = refuses.left in
          rw i (record {
            answer = refuses.answer (length literals) (length ends) l k;
            new-count = no-count;
            tags-are = cut.tags-are ∙ (zero-kept n tags tags₁ left.tags-size left.tags-kept ∙ left-refused a tags n _ h refuses.code);
            values-are = cut.values-are ∙ (zero-kept n values values₁ left.values-size left.values-kept ∙ left-refused a values n _ h refuses.code);
            literals-are = lists.tags-are ∙ list-refused tags values rules n t a literals _ h refuses.code;
            ends-are = lists.values-are ∙ list-refused tags values rules n t a ends _ h refuses.code;
          })

    -- ---- a form whose clauses are listed
    module _ (x : TermPlace) (m : ℕ) (e : c ≡ Ok (x, m)) where
      passes : Passes tags values rules n t x m tags₁ values₁
      passes = rw e at is

      state : State n n tags values
      state = (checked-ready tags values rules n t (check_term tags values rules n t) refl passes.passed).0

      clausal-holds : Holds n (clausal tags values rules n t) x.0 m tags₁ values₁
      clausal-holds = passes.built.0

      form-is : form_at (take m tags₁) (take m values₁) x.0 ≡ clausal_form tags values rules n t
      form-is = ap₂ normal_at clausal-holds.pool-is clausal-holds.place_is

      pub list-within : m ≤ length tags₁
      list-within = clausal-holds.state.within

      pub list-within-values : m ≤ length values₁
      list-within-values = omega (arith, clausal-holds.state.within, clausal-holds.state.size)

      pub list-part : m ≡ length (take m tags₁)
      list-part = sym (length-take-le m tags₁ list-within)

      pub list-part-values : m ≡ length (take m values₁)
      list-part-values = sym (length-take-le m values₁ list-within-values)

      pub list-small : m ≤ 8192
      list-small = clausal-holds.state.small

      pub list-lent : Lent (length (take m tags₁)) (length literals) (length ends)
      list-lent = record { small = omega (arith, list-part, list-small); literals = l; ends = k }

      module _ (a : Answer) (literals' ends' : List ℕ)
          (listed : ListAnswered (list_answer (form_at (take m tags₁) (take m values₁) x.0)) (cnf (form_at (take m tags₁) (take m values₁) x.0))
          (length literals) (length ends) a literals' ends') where
        lists : ListAnswered (list_answer (clausal_form tags values rules n t)) (cnf (clausal_form tags values rules n t)) (length literals) (length ends) a literals' ends'
        lists = rw form-is at listed

        not-30 : a.code ≡ 30 → ⊥
        not-30 z = list_code (clausal_form tags values rules n t) (sym (ap (λ (y : Answer). y.code) lists.answer) ∙ z)

        answered : a ≡ clause_answer tags values rules n t (length literals) (length ends)
        unfolding clause_answer and_then list_answer count_answer
        answered = lists.answer ∙ (rw (le-leb _ _ l, le-leb _ _ k, eq-eqb _ _ passes.passed, passes.built.1))

        literals-left : literals' ≡ list_left tags values rules n t a literals (literal_places (cnf (clausal_form tags values rules n t)))
        literals-left = lists.literals-are ∙ list_held tags values rules n t a literals _ not-30

        ends-left : ends' ≡ list_left tags values rules n t a ends (clause_ends 0 (cnf (clausal_form tags values rules n t)))
        ends-left = lists.ends-are ∙ list_held tags values rules n t a ends _ not-30

        module _ (size : length tags₁ ≡ length tags) (size₂ : length values₁ ≡ length values) (tags' values' : List ℕ) where
          list-none : (a.code ≡ 0 → ⊥) → Cut n tags₁ values₁ tags' values'
              → ClauseList tags values rules n t literals ends a 0 tags' values' literals' ends'
          unfolding count_left
          list-none h cut =
              let on = clausal-on tags values n t state in
              record {
                answer = answered;
                new-count = rw (ne_eqb _ _ h);
                tags-are = cut.tags-are ∙ (zero-kept n tags tags₁ size (tags-kept n tags values state _ on x.0 m tags₁ values₁ clausal-holds) ∙ left-refused a tags n _ not-30 h);
                values-are = cut.values-are ∙ (zero-kept n values values₁ size₂ (values-kept n tags values state _ on x.0 m tags₁ values₁ clausal-holds) ∙ left-refused a values n _ not-30 h);
                literals-are = literals-left;
                ends-are = ends-left;
              }

          list-made : a.code ≡ 0 → Cut m tags₁ values₁ tags' values'
              → ClauseList tags values rules n t literals ends a m tags' values' literals' ends'
          unfolding count_left
          list-made h cut = record {
            answer = answered;
            new-count = rw (eq-eqb _ _ h) (holds-count n m x.0 _ tags₁ values₁ clausal-holds);
            tags-are = cut.tags-are ∙ (holds-tags n m x.0 _ tags₁ values₁ clausal-holds (length tags) size ∙ left-accepted a tags n _ h);
            values-are = cut.values-are ∙ (holds-values n m x.0 _ tags₁ values₁ clausal-holds (length values) size₂ ∙ left-accepted a values n _ h);
            literals-are = literals-left;
            ends-are = ends-left;
          }

          pub list-kept : (r : Listed) → ListKept n m a tags₁ values₁ r tags' values'
              → ClauseList tags values rules n t literals ends r.answer r.count tags' values' literals' ends'
          list-kept r kept =
              rw kept.listed
              (by-test (eqb a.code 0)
              (λ z. rw z (list-made (eqb-true _ _ z) (rw z at kept.cut)))
              (λ z. rw z (list-none (eqb-false _ _ z) (rw z at kept.cut))))

pub ruleset list-parts = (list-within, list-within-values, list-part, list-part-values)
