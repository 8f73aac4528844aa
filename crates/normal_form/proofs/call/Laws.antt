-- Laws of the public calls: what a term that passes its checks gives the walkers, and what is left in the arrays at each answer.
-- Assumes nothing.
use Rattle.std.specs.Prelude.{Option, Some, None}
use Prim.Native.Nat.{ℕ, ◌^◌, ◌<◌}
use mathlib.Core.Path.{◌≡◌, refl, sym, ap, ◌∙◌}
use mathlib.Core.Bool.{Bool, true}
use mathlib.Core.List.{List}
use lib.ListN.{length, get_or, take}
use lib.Seq.{length-take-le}
use lib.Dec.{ltb}
use native.Mathlib.Omega.{arith}
use borrow.Author.Tests.{eq-eqb, ne_eqb, ltb-true}
use Rattle.cells.specs.declared.TermPlace.{TermPlace}
use Rattle.headers.specs.WellFormed.{is_term_tag, is_term}
use Rattle.descriptions.specs.Description.{zero_from, Cut}
use Rattle.answers.specs.Answer.{accepted}
use Rattle.pool.specs.Check.{and_then, check_term}
use Rattle.answers.specs.declared.Answer.{Answer}
use Rattle.meaning.proofs.trees.Header.{both}
use Rattle.meaning.proofs.trees.Passed.{Passed, term-accepts, term-passes}
use Rattle.formulas.specs.Built.{Pool, Placed, count}
use Rattle.formulas.specs.ClauseLists.{padded}
use Rattle.normal_form.specs.Calls.{no_room, array_left, normal_answer, normal_place, NormalForm}
use Rattle.building.specs.Walk.{State, Holds, NormalBuilt}
use Rattle.building.proofs.build.Laws.{pool-count}
use Rattle.normal_form.proofs.Clausal.{passed-state, zero-kept}

-- ---- a term that passes its checks
pub record TermPassed (tags values rules : List ℕ) (n t : ℕ) : Type 0 where
  pub passed : Passed tags values rules n
  pub below : t < n
  pub term : is_term_tag (get_or tags t 0) ≡ true

module _ (tags values rules : List ℕ) (n t : ℕ) where
  pub term-passed : (check_term tags values rules n t).code ≡ 0 → TermPassed tags values rules n t
  unfolding is_term
  term-passed e =
      let (passed, term) = term-passes tags values rules n t (term-accepts tags values rules n t e) in
      let (below, tag) = both (ltb t n) _ term in
      record { passed = passed; below = ltb-true t n below; term = tag }

  pub checked-ready : (a : Answer) → a ≡ check_term tags values rules n t → a.code ≡ 0 → State n n tags values × (t < n)
  checked-ready a is ok =
      let c = term-passed (sym (ap (λ (x : Answer). x.code) is) ∙ ok) in (passed-state c.passed, c.below)

-- ---- what is left in the arrays
-- arrays that hold a pool, cut back to its count
module _ (n m p : ℕ) (o : Placed) (tags values : List ℕ) (h : Holds n o p m tags values) where
  pub holds-count : m ≡ count o.pool
  holds-count = sym (pool-count tags values m h.state.within) ∙ ap (λ (q : Pool). count q) h.pool-is

  pub holds-tags : (size : ℕ) → length tags ≡ size → zero_from m tags ≡ padded o.pool.tags size
  unfolding zero_from padded
  holds-tags size e =
      let same : take m tags ≡ o.pool.tags = ap (λ (q : Pool). q.tags) h.pool-is in
      rw (same, e, holds-count)

  pub holds-values : (size : ℕ) → length values ≡ size → zero_from m values ≡ padded o.pool.values size
  unfolding zero_from padded
  holds-values size e =
      let same : take m values ≡ o.pool.values = ap (λ (q : Pool). q.values) h.pool-is in
      let k : m ≡ length o.pool.values = sym (length-take-le m values (omega (arith, h.state.within, h.state.size))) ∙ ap length same in
      rw (same, e, ← k)

pub count-fits : (n : ℕ) (tags values : List ℕ) (o : Placed) (b : Option (TermPlace × ℕ)) (tags' values' : List ℕ) → NormalBuilt n tags values o b tags' values'
    → (p : TermPlace) (m : ℕ) → b ≡ Some (p, m) → m < 2 ^ 32
count-fits n tags values o b tags' values' built p m e = let (h, room) = rw e at built in omega (arith, h.state.small)

-- what each code leaves
module _ (r : Answer) (cells : List ℕ) (n : ℕ) (used : List ℕ) where
  pub left-30 : r.code ≡ 30 → cells ≡ array_left r cells n used
  unfolding array_left
  left-30 e = rw (eq-eqb _ _ e)

  pub left-refused : (r.code ≡ 30 → ⊥) → (r.code ≡ 0 → ⊥) → zero_from n cells ≡ array_left r cells n used
  unfolding array_left
  left-refused a b = rw (ne_eqb _ _ a, ne_eqb _ _ b)

  pub left-accepted : r.code ≡ 0 → padded used (length cells) ≡ array_left r cells n used
  unfolding array_left
  left-accepted e = rw (ne_eqb r.code 30 (λ z. omega arith), eq-eqb _ _ e)

-- ---- the normal form
module _ (tags values rules : List ℕ) (n t : ℕ) (polarity : Bool) (a : Answer) (is : a ≡ check_term tags values rules n t) where
  stopped : (a.code ≡ 0 → ⊥) → a ≡ normal_answer tags values rules n t polarity
  unfolding normal_answer and_then
  stopped h = rw (← is, ne_eqb _ _ h)

  pub normal-arrays : a.code ≡ 30 → NormalForm tags values rules n t polarity a tags values
  normal-arrays e = record { answer = stopped (λ z. omega arith); tags-are = left-30 a tags n _ e; values-are = left-30 a values n _ e }

  pub normal-refused : (a.code ≡ 30 → ⊥) → (a.code ≡ 0 → ⊥) → (tags' values' : List ℕ) → Cut n tags values tags' values'
      → NormalForm tags values rules n t polarity a tags' values'
  normal-refused e h tags' values' cut = record {
    answer = stopped h;
    tags-are = cut.tags-are ∙ left-refused a tags n _ e h;
    values-are = cut.values-are ∙ left-refused a values n _ e h;
  }

  module _ (ok : a.code ≡ 0) (b : Option (TermPlace × ℕ)) (tags₁ values₁ : List ℕ)
      (built : NormalBuilt n tags values (normal_place tags values rules n t polarity) b tags₁ values₁) where
    pub normal-full : b ≡ None → (tags' values' : List ℕ) → Cut n tags₁ values₁ tags' values' → (made : Answer) → made ≡ no_room
        → NormalForm tags values rules n t polarity made tags' values'
    unfolding normal_answer and_then
    normal-full e tags' values' cut made q =
        let (kept, full) = rw e at built in
        rw q (record {
          answer = rw (← is, eq-eqb _ _ ok, full);
          tags-are = cut.tags-are ∙ (zero-kept n tags tags₁ kept.tags-size kept.tags-kept ∙ left-refused no_room tags n _ (λ z. omega arith) (λ z. omega arith));
          values-are = cut.values-are ∙ (zero-kept n values values₁ kept.values-size kept.values-kept ∙ left-refused no_room values n _ (λ z. omega arith) (λ z. omega arith));
        })

    pub normal-made : (p : TermPlace) (m : ℕ) → b ≡ Some (p, m) → length tags₁ ≡ length tags → length values₁ ≡ length values
        → (tags' values' : List ℕ) → Cut m tags₁ values₁ tags' values' → (made : Answer) → made ≡ accepted p.0 m
        → NormalForm tags values rules n t polarity made tags' values'
    unfolding normal_answer and_then
    normal-made p m e tags-size values-size tags' values' cut made q =
        let (h, room) = rw e at built in
        rw q (record {
          answer = rw (← is, eq-eqb _ _ ok, room, h.place_is, holds-count n m p.0 _ tags₁ values₁ h);
          tags-are = cut.tags-are ∙ (holds-tags n m p.0 _ tags₁ values₁ h (length tags) tags-size ∙ left-accepted (accepted p.0 m) tags n _ refl);
          values-are = cut.values-are ∙ (holds-values n m p.0 _ tags₁ values₁ h (length values) values-size ∙ left-accepted (accepted p.0 m) values n _ refl);
        })

pub ruleset normals = (normal-arrays, normal-refused, normal-full, normal-made)
