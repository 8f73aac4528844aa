-- The calls that build, run on the narrowed first tags and the first values: what is then written back is what the call leaves by its
-- definition on the whole arrays.
--     Builds              what such a call gives: where it may write, and that its pool goes on from the used cells
--     normal-builds, clauses-build      the two calls do
--     array-lengths, arrays-after       so they keep lengths, and leave what is written back
--     normal-bytes, clauses-bytes       their whole outcomes
-- Assumes nothing.
use Prim.Native.Nat.{ℕ, ◌≤◌}
use mathlib.Core.Path.{◌≡◌, refl, ap, ◌∙◌}
use mathlib.Core.Bool.{Bool, true, ◌&&◌, cond}
use mathlib.Core.List.{List}
use lib.ListN.{length, take}
use lib.Seq.{get_or-take, take-take}
use lib.Dec.{leb, eqb}
use native.Mathlib.Omega.{arith}
use borrow.Author.Tests.{eqb-true}
use Rattle.cells.specs.ByPlace.{by-test}
use Rattle.cells.specs.Limits.{cell_limit}
use Rattle.answers.specs.declared.Answer.{Answer}
use Rattle.pool.specs.Check.{arrays_fit, check_pool, and_then, check_term}
use Rattle.meaning.proofs.trees.Passed.{Passed}
use Rattle.formulas.specs.Built.{Placed, count, normal_form}
use Rattle.formulas.specs.Clauses.{cnf}
use Rattle.formulas.specs.ClauseLists.{literal_places, clause_ends}
use Rattle.building.specs.Arrays.{pool_of}
use Rattle.building.proofs.Interning.{GoesOn, intern-goes-on}
use Rattle.building.proofs.build.Laws.{pool-count, pool-good}
use Rattle.normal_form.specs.Calls.{array_left, normal_place, normal_answer, NormalForm, clausal, clausal_form, clause_answer, list_left, count_left, ClauseList}
use Rattle.normal_form.proofs.Clausal.{take_same, passed-state, clausal-on}
use Rattle.normal_form.proofs.Accepted.{normal-accepted, list-accepted}
use Rattle.tag_layouts.specs.Narrowed.{first_cells, byte_tags, Alike}
use Rattle.tag_layouts.specs.WrittenBack.{tags_after, values_after}
use Rattle.tag_layouts.proofs.PoolCheck.{arrays-fit}
use Rattle.tag_layouts.proofs.UsedCells.{used}
use Rattle.tag_layouts.proofs.Answers.{normal-alike, clause-alike}
use Rattle.tag_layouts.proofs.Alike.{byte-alike, byte-length, first-length}
use Rattle.tag_layouts.proofs.WrittenBack.{Goes, array-left-length, tags-after-is, values-after-is}

-- n is within the first cells
pub record FirstFit (tags values : List ℕ) (n : ℕ) : Type 0 where
  pub in_bytes : n ≤ length (byte_tags tags)
  pub in-values : n ≤ length (first_cells values)
  pub front : take n (first_cells values) ≡ take n values

pub first-fit : (tags values : List ℕ) (n : ℕ) → arrays_fit tags values n ≡ true → FirstFit tags values n
unfolding first_cells
first-fit tags values n e =
    let f = arrays-fit tags values n e in
    record {
      in_bytes = rw (byte-length tags) (omega arith);
      in-values = rw (first-length values) (omega arith);
      front = take-take n cell_limit values f.limit;
    }

-- o is what the call puts by its definition on the whole arrays, o₀ on what it was lent
pub record Builds (tags values : List ℕ) (n : ℕ) (r : Answer) (o o₀ : Placed) : Type 0 where
  pub within : (r.code ≡ 30 → ⊥) → FirstFit tags values n
  pub tags-go : r.code ≡ 0 → Goes n tags (byte_tags tags) o.pool.tags o₀.pool.tags
  pub values-go : r.code ≡ 0 → Goes n values (first_cells values) o.pool.values o₀.pool.values

module _ (tags values : List ℕ) (n : ℕ) (r : Answer) (o o₀ : Placed) (b : Builds tags values n r o o₀) where
  pub array-lengths : (length (array_left r (byte_tags tags) n o₀.pool.tags) ≡ length (byte_tags tags))
      × (length (array_left r (first_cells values) n o₀.pool.values) ≡ length (first_cells values))
  array-lengths = (
    array-left-length r n (byte_tags tags) o₀.pool.tags (λ h. (b.within h).in_bytes) (λ ok. let g = b.tags-go ok in rw g.is g.high),
    array-left-length r n (first_cells values) o₀.pool.values (λ h. (b.within h).in-values) (λ ok. let g = b.values-go ok in rw g.is g.high),
  )

  pub arrays-after : (tags_after r n tags (array_left r (byte_tags tags) n o₀.pool.tags) ≡ array_left r tags n o.pool.tags)
      × (values_after r values (array_left r (first_cells values) n o₀.pool.values) ≡ array_left r values n o.pool.values)
  arrays-after = (
    tags-after-is r n tags (byte_tags tags) o.pool.tags o₀.pool.tags (rw (byte-length tags) (omega arith)) b.tags-go (λ h. (b.within h).in_bytes),
    values-after-is r n values (first_cells values) o.pool.values o₀.pool.values (rw (first-length values) (omega arith)) b.values-go
        (λ h. ((b.within h).in-values, (b.within h).front)),
  )

-- ---- a pool that was built of one that passes, and has room
record Fitting (tags values rules : List ℕ) (n : ℕ) (o : Placed) : Type 0 where
  pub passed : Passed tags values rules n
  pub room : count o.pool ≤ length tags
  pub small : count o.pool ≤ cell_limit

module _ {tags values rules : List ℕ} {n : ℕ} {o : Placed} (a : Fitting tags values rules n o) (g : GoesOn (pool_of tags values n) o.pool) where
  abbrev c : Passed tags values rules n
  c = a.passed

  counted : count (pool_of tags values n) ≡ n
  counted = pool-count tags values n (omega (arith, c.whole, c.equal))

  low : n ≤ count o.pool
  low = omega (arith, g.grows.longer, counted)

  tags-on : (used₀ : List ℕ) → used₀ ≡ o.pool.tags → Goes n tags (byte_tags tags) o.pool.tags used₀
  tags-on used₀ e = record {
    is = e;
    same = take_same n tags o.pool.tags (omega (arith, c.whole, c.equal)) low
        (λ i l. g.grows.tags-same i (omega (arith, counted)) ∙ get_or-take n tags i 0 l);
    low = low;
    high = rw (byte-length tags) (omega (arith, a.room, a.small));
  }

  values-on : (used₀ : List ℕ) → used₀ ≡ o.pool.values → Goes n values (first_cells values) o.pool.values used₀
  values-on used₀ e =
      let size : length o.pool.values ≡ count o.pool = g.good.size in
      let l : n ≤ length o.pool.values = omega (arith, low) in
      record {
        is = e;
        same = take_same n values o.pool.values c.whole l
            (λ i l. g.grows.values_same i (omega (arith, counted)) ∙ get_or-take n values i 0 l);
        low = l;
        high = rw (first-length values) (omega (arith, a.room, a.small, c.equal));
      }

module _ (tags values : List ℕ) (z : length tags ≡ length values) (rules : List ℕ) (n t : ℕ) where
  abbrev s : Alike tags values (byte_tags tags) (first_cells values)
  s = byte-alike tags values z

  -- ---- the normal form
  module _ (polarity : Bool) (r : Answer) (is : r ≡ normal_answer tags values rules n t polarity) where
    abbrev formed : Placed
    formed = normal_place tags values rules n t polarity

    normal-ok : r.code ≡ 0 → Fitting tags values rules n formed
    normal-ok ok =
        let f : NormalForm tags values rules n t polarity r (array_left r tags n formed.pool.tags) (array_left r values n formed.pool.values) =
        record { answer = is; tags-are = refl; values-are = refl } in
        let a = normal-accepted f ok in
        record { passed = a.checked.passed; room = a.holds.room; small = a.holds.small }

    normal-fit : (r.code ≡ 30 → ⊥) → arrays_fit tags values n ≡ true
    unfolding normal_answer and_then check_term check_pool
    normal-fit h = by-test (arrays_fit tags values n) (λ e. e) (λ e. absurd (h (rw (is, e))))

    normal-same : Passed tags values rules n → normal_place (byte_tags tags) (first_cells values) rules n t polarity ≡ formed
    normal-same c = let u = used (byte_tags tags) (first_cells values) s c in rw (u.tags-used, u.values-used)

    normal-on : Passed tags values rules n → GoesOn (pool_of tags values n) formed.pool
    unfolding normal_form
    normal-on c = intern-goes-on _ (pool_of tags values n) (pool-good n n tags values (passed-state c))

    pub normal-builds : Builds tags values n r formed (normal_place (byte_tags tags) (first_cells values) rules n t polarity)
    normal-builds = record {
      within = λ h. first-fit tags values n (normal-fit h);
      tags-go = λ ok. let a = normal-ok ok in tags-on a (normal-on a.passed) _ (ap (λ (o : Placed). o.pool.tags) (normal-same a.passed));
      values-go = λ ok. let a = normal-ok ok in values-on a (normal-on a.passed) _ (ap (λ (o : Placed). o.pool.values) (normal-same a.passed));
    }

  pub normal-is : (polarity : Bool) (r : Answer) → r ≡ normal_answer (byte_tags tags) (first_cells values) rules n t polarity
      → r ≡ normal_answer tags values rules n t polarity
  normal-is polarity r e = e ∙ normal-alike tags values (byte_tags tags) (first_cells values) s rules n t polarity

  pub normal-bytes : (polarity : Bool) (r : Answer) (tags₁ values₁ : List ℕ)
      → NormalForm (byte_tags tags) (first_cells values) rules n t polarity r tags₁ values₁
      → NormalForm tags values rules n t polarity r (tags_after r n tags tags₁) (values_after r values values₁)
  normal-bytes polarity r tags₁ values₁ f =
      let is = normal-is polarity r f.answer in
      let (a, b) = arrays-after tags values n r _ _ (normal-builds polarity r is) in
      record { answer = is; tags-are = rw f.tags-are a; values-are = rw f.values-are b }

  -- ---- the clause list
  module _ (literals ends : List ℕ) (r : Answer) (is : r ≡ clause_answer tags values rules n t (length literals) (length ends)) where
    abbrev listed : Placed
    listed = clausal tags values rules n t

    clauses-ok : r.code ≡ 0 → Fitting tags values rules n listed
    clauses-ok ok =
        let cs = cnf (clausal_form tags values rules n t) in
        let f : ClauseList tags values rules n t literals ends r (count_left tags values rules n t r)
        (array_left r tags n listed.pool.tags) (array_left r values n listed.pool.values)
        (list_left tags values rules n t r literals (literal_places cs)) (list_left tags values rules n t r ends (clause_ends 0 cs)) =
        record { answer = is; new-count = refl; tags-are = refl; values-are = refl; literals-are = refl; ends-are = refl } in
        let a = list-accepted f ok in
        record { passed = a.checked.passed; room = a.holds.room; small = a.holds.small }

    clauses-fit : (r.code ≡ 30 → ⊥) → arrays_fit tags values n ≡ true
    unfolding clause_answer and_then check_term check_pool
    clauses-fit h =
        by-test (arrays_fit tags values n) (λ e. e)
        (λ e. absurd (h (rw (is, e) (by-test (leb 8192 (length literals) && leb 2048 (length ends)) (λ o. rw o) (λ o. rw o)))))

    clauses-same : Passed tags values rules n → clausal (byte_tags tags) (first_cells values) rules n t ≡ listed
    clauses-same c = let u = used (byte_tags tags) (first_cells values) s c in rw (u.tags-used, u.values-used)

    clauses-on : Passed tags values rules n → GoesOn (pool_of tags values n) listed.pool
    clauses-on c = clausal-on tags values n t (passed-state c)

    pub clauses-build : Builds tags values n r listed (clausal (byte_tags tags) (first_cells values) rules n t)
    clauses-build = record {
      within = λ h. first-fit tags values n (clauses-fit h);
      tags-go = λ ok. let a = clauses-ok ok in tags-on a (clauses-on a.passed) _ (ap (λ (o : Placed). o.pool.tags) (clauses-same a.passed));
      values-go = λ ok. let a = clauses-ok ok in values-on a (clauses-on a.passed) _ (ap (λ (o : Placed). o.pool.values) (clauses-same a.passed));
    }

    -- what is made of the used cells, if the call accepts
    pub by_code : {A : Type 0} (x x' other : A) → (Passed tags values rules n → x' ≡ x) → cond (eqb r.code 0) x' other ≡ cond (eqb r.code 0) x other
    by_code x x' other same = by-test (eqb r.code 0) (λ o. rw (same (clauses-ok (eqb-true _ 0 o)).passed)) (λ o. rw o)

    pub list_same : (lent list list' : List ℕ) → (Passed tags values rules n → list' ≡ list)
        → list_left (byte_tags tags) (first_cells values) rules n t r lent list' ≡ list_left tags values rules n t r lent list
    unfolding list_left
    list_same lent list list' same = by-test (eqb r.code 0) (λ o. rw (same (clauses-ok (eqb-true _ 0 o)).passed)) (λ o. rw o)

  pub clauses-are : (l e : ℕ) (r : Answer) → r ≡ clause_answer (byte_tags tags) (first_cells values) rules n t l e → r ≡ clause_answer tags values rules n t l e
  clauses-are l e r q = q ∙ clause-alike tags values (byte_tags tags) (first_cells values) s rules n t l e

  pub clauses-bytes : (literals ends : List ℕ) (r : Answer) (m : ℕ) (tags₁ values₁ literals₁ ends₁ : List ℕ)
      → ClauseList (byte_tags tags) (first_cells values) rules n t literals ends r m tags₁ values₁ literals₁ ends₁
      → ClauseList tags values rules n t literals ends r m (tags_after r n tags tags₁) (values_after r values values₁) literals₁ ends₁
  unfolding count_left
  clauses-bytes literals ends r m tags₁ values₁ literals₁ ends₁ f =
      let is = clauses-are (length literals) (length ends) r f.answer in
      let (a, b) = arrays-after tags values n r _ _ (clauses-build literals ends r is) in
      record {
        answer = is;
        new-count = f.new-count
            ∙ by_code literals ends r is _ _ 0 (λ c. let u = used (byte_tags tags) (first_cells values) s c in rw (u.tags-used, u.values-used));
        tags-are = rw f.tags-are a;
        values-are = rw f.values-are b;
        literals-are = f.literals-are
            ∙ list_same literals ends r is literals _ _ (λ c. let u = used (byte_tags tags) (first_cells values) s c in rw (u.tags-used, u.values-used));
        ends-are = f.ends-are
            ∙ list_same literals ends r is ends _ _ (λ c. let u = used (byte_tags tags) (first_cells values) s c in rw (u.tags-used, u.values-used));
      }
