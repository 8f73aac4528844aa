-- What an accepted outcome of a call is: the term has passed its checks, and the arrays hold the pool that was built and zeroes.
--     normal-accepted     of the normal form's call
--     list-accepted       of the clause list's
--     left-same, left-tree     the cells and the trees of the pool in the arrays
-- Assumes nothing.
use Prim.Native.Nat.{ℕ, ◌-◌, ◌≤◌, ◌<◌}
use mathlib.Core.Path.{◌≡◌, refl, sym, ap, ◌∙◌}
use mathlib.Core.Bool.{Bool, true, false, ◌&&◌, cond}
use mathlib.Core.List.{List}
use lib.ListN.{length, get_or, replicate, length-append, length-replicate, get_or-append}
use lib.Dec.{eqb, leb}
use native.Mathlib.Omega.{arith}
use borrow.Author.Tests.{eq-eqb, ne_eqb, eqb-true, eqb-false}
use Rattle.cells.specs.ByPlace.{by-test}
use Rattle.answers.specs.Answer.{accepted, bad_arrays}
use Rattle.answers.specs.declared.Answer.{Answer}
use Rattle.pool.specs.Check.{and_then, check_term}
use Rattle.descriptions.proofs.description.Growth.{Same}
use Rattle.meaning.specs.Tree.{tree}
use Rattle.meaning.proofs.trees.Passed.{Passed}
use Rattle.formulas.specs.Clauses.{cnf, empty_or, literal_total}
use Rattle.formulas.specs.Built.{Pool, count}
use Rattle.meaning.proofs.places.Operands.{IsTerm}
use Rattle.meaning.proofs.places.SameTree.{tree-kept}
use Rattle.formulas.specs.ClauseLists.{empty_or_reached, too_many_clauses, padded, literal_places, clause_ends}
use Rattle.building.specs.Arrays.{fits}
use Rattle.building.proofs.build.Laws.{fits-room}
use Rattle.normal_form.specs.Calls.{no_room, array_left, normal_place, normal_answer, NormalForm, clausal, clausal_form, clause_answer, list_left, count_left, ClauseList}
use Rattle.normal_form.proofs.TreeGrows.{Sound}
use Rattle.normal_form.proofs.InternTree.{term_in}
use Rattle.normal_form.proofs.call.Laws.{TermPassed, term-passed, left-accepted}

-- ---- answers whose code is 0
code_of : Answer → ℕ
code_of a = a.code

after_check : (a next : Answer) → (and_then a next).code ≡ 0 → (a.code ≡ 0) × (and_then a next ≡ next)
unfolding and_then
after_check a next e = by-test (eqb a.code 0) (λ b. (eqb-true _ 0 b, rw b)) (λ b. absurd (eqb-false _ 0 b (rw b at e)))

if-true : (b : Bool) (x y : Answer) → (y.code ≡ 0 → ⊥) → (cond b x y).code ≡ 0 → (b ≡ true) × (cond b x y ≡ x)
if-true true x y h e = (refl, refl)
if-true false x y h e = absurd (h e)

if-false : (b : Bool) (x y : Answer) → (x.code ≡ 0 → ⊥) → (cond b x y).code ≡ 0 → (b ≡ false) × (cond b x y ≡ y)
if-false true x y h e = absurd (h e)
if-false false x y h e = (refl, refl)

-- ---- arrays that hold a pool, and zeroes past it
pub record HoldsPool (q : Pool) (size : ℕ) (tags' values' : List ℕ) : Type 0 where
  pub room : count q ≤ size
  pub small : count q ≤ 8192
  pub tags-are : tags' ≡ padded q.tags size
  pub values-are : values' ≡ padded q.values size

padded-at : (used : List ℕ) (size i : ℕ) → i < length used → get_or (padded used size) i 0 ≡ get_or used i 0
unfolding padded
padded-at used size i h = get_or-append used (replicate (size - length used) 0) 0 i h

pub padded-length : (used : List ℕ) (size : ℕ) → length used ≤ size → length (padded used size) ≡ size
unfolding padded
padded-length used size h = simp (length-append, length-replicate) (omega arith)

module _ {q : Pool} (s : Sound q) {size : ℕ} {tags' values' : List ℕ} (h : HoldsPool q size tags' values') where
  values-long : length values' ≡ size
  values-long = ap length h.values-are ∙ padded-length q.values size (omega (arith, s.good.size, h.room))

  pub left-same : Same (count q) q.tags q.values tags' values'
  left-same = record {
    long = omega (arith, s.good.size);
    long' = omega (arith, values-long, h.room);
    tags-same = λ i l. rw h.tags-are (padded-at q.tags size i l);
    values_same = λ i l. rw h.values-are (padded-at q.values size i (omega (arith, s.good.size)));
  }

  pub left-tree : (x : ℕ) → IsTerm q.tags (count q) x → tree tags' values' x ≡ term_in q x
  left-tree x (l, k) = tree-kept (count q) q.tags q.values tags' values' left-same s.formed x l k

module _ (tags values rules : List ℕ) (n : ℕ) (c : Passed tags values rules n) (r : Answer) (ok : r.code ≡ 0) (q : Pool) (fit : fits q (length tags) ≡ true)
    (tags' values' : List ℕ) (t-are : tags' ≡ array_left r tags n q.tags) (v-are : values' ≡ array_left r values n q.values) where
  holds-pool : HoldsPool q (length tags) tags' values'
  holds-pool =
      let (room, small) = fits-room q (length tags) fit in
      record {
        room = room;
        small = small;
        tags-are = t-are ∙ sym (left-accepted r tags n q.tags ok);
        values-are = v-are ∙ (sym (left-accepted r values n q.values ok) ∙ ap (padded q.values) (sym c.equal));
      }

-- ---- the normal form
pub record NormalAccepted (tags values rules : List ℕ) (n t : ℕ) (polarity : Bool) (r : Answer) (tags' values' : List ℕ) : Type 0 where
  pub checked : TermPassed tags values rules n t
  pub place : r.first ≡ (normal_place tags values rules n t polarity).place
  pub counted : r.second ≡ count (normal_place tags values rules n t polarity).pool
  pub holds : HoldsPool (normal_place tags values rules n t polarity).pool (length tags) tags' values'

module _ {tags values rules : List ℕ} {n t : ℕ} {polarity : Bool} {r : Answer} {tags' values' : List ℕ}
    (f : NormalForm tags values rules n t polarity r tags' values') (ok : r.code ≡ 0) where
  pub normal-accepted : NormalAccepted tags values rules n t polarity r tags' values'
  unfolding normal_answer code_of
  normal-accepted =
      let o = normal_place tags values rules n t polarity in
      let yes-answer : Answer = accepted o.place (count o.pool) in
      let e : (normal_answer tags values rules n t polarity).code ≡ 0 = sym (ap code_of f.answer) ∙ ok in
      let (passed, is) = after_check (check_term tags values rules n t) (cond (fits o.pool (length tags)) yes-answer no_room) e in
      let (fit, is₁) = if-true (fits o.pool (length tags)) yes-answer no_room (λ z. omega arith) (sym (ap code_of is) ∙ e) in
      let all : r ≡ yes-answer = f.answer ∙ (is ∙ is₁) in
      let checked = term-passed tags values rules n t passed in
      record {
        checked = checked;
        place = ap (λ (a : Answer). a.first) all;
        counted = ap (λ (a : Answer). a.second) all;
        holds = holds-pool tags values rules n checked.passed r ok o.pool fit tags' values' f.tags-are f.values-are;
      }

-- ---- the clause list
pub record ListAccepted (tags values rules : List ℕ) (n t : ℕ) (literals ends : List ℕ) (r : Answer) (m : ℕ) (tags' values' literals' ends' : List ℕ) : Type 0 where
  pub checked : TermPassed tags values rules n t
  pub clauses : r.first ≡ length (cnf (clausal_form tags values rules n t))
  pub counted : m ≡ count (clausal tags values rules n t).pool
  pub holds : HoldsPool (clausal tags values rules n t).pool (length tags) tags' values'
  pub literals-are : literals' ≡ padded (literal_places (cnf (clausal_form tags values rules n t))) (length literals)
  pub ends-are : ends' ≡ padded (clause_ends 0 (cnf (clausal_form tags values rules n t))) (length ends)

module _ (tags values rules : List ℕ) (n t : ℕ) where
  list-left : (r : Answer) (lent list : List ℕ) → r.code ≡ 0 → list_left tags values rules n t r lent list ≡ padded list (length lent)
  unfolding list_left
  list-left r lent list e = rw (ne_eqb r.code 30 (λ z. omega arith), eq-eqb _ _ e)

  count-left : (r : Answer) → r.code ≡ 0 → count_left tags values rules n t r ≡ count (clausal tags values rules n t).pool
  unfolding count_left
  count-left r e = rw (eq-eqb _ _ e)

module _ {tags values rules : List ℕ} {n t : ℕ} {literals ends : List ℕ} {r : Answer} {m : ℕ} {tags' values' literals' ends' : List ℕ}
    (f : ClauseList tags values rules n t literals ends r m tags' values' literals' ends') (ok : r.code ≡ 0) where
  pub list-accepted : ListAccepted tags values rules n t literals ends r m tags' values' literals' ends'
  unfolding clause_answer code_of
  list-accepted =
      let o = clausal tags values rules n t in
      let cs = cnf (clausal_form tags values rules n t) in
      let yes-answer : Answer = accepted (length cs) (literal_total cs) in
      let within : Bool = leb (length cs) 2048 && leb (literal_total cs) 8192 in
      let after-13 : Answer = cond within yes-answer too_many_clauses in
      let after-31 : Answer = cond (empty_or (clausal_form tags values rules n t)) empty_or_reached after-13 in
      let after-17 : Answer = cond (fits o.pool (length tags)) after-31 no_room in
      let e : (clause_answer tags values rules n t (length literals) (length ends)).code ≡ 0 = sym (ap code_of f.answer) ∙ ok in
      let (long, is₀) = if-true (leb 8192 (length literals) && leb 2048 (length ends)) (and_then (check_term tags values rules n t) after-17) bad_arrays (λ z. omega arith) e in
      let e₀ : (and_then (check_term tags values rules n t) after-17).code ≡ 0 = sym (ap code_of is₀) ∙ e in
      let (passed, is₁) = after_check (check_term tags values rules n t) after-17 e₀ in
      let e₁ : after-17.code ≡ 0 = sym (ap code_of is₁) ∙ e₀ in
      let (fit, is₂) = if-true (fits o.pool (length tags)) after-31 no_room (λ z. omega arith) e₁ in
      let e₂ : after-31.code ≡ 0 = sym (ap code_of is₂) ∙ e₁ in
      let (reached, is₃) = if-false (empty_or (clausal_form tags values rules n t)) empty_or_reached after-13 (λ z. omega arith) e₂ in
      let e₃ : after-13.code ≡ 0 = sym (ap code_of is₃) ∙ e₂ in
      let (small, is₄) = if-true within yes-answer too_many_clauses (λ z. omega arith) e₃ in
      let all : r ≡ yes-answer = f.answer ∙ (is₀ ∙ (is₁ ∙ (is₂ ∙ (is₃ ∙ is₄)))) in
      let checked = term-passed tags values rules n t passed in
      record {
        checked = checked;
        clauses = ap (λ (a : Answer). a.first) all;
        counted = f.new-count ∙ count-left tags values rules n t r ok;
        holds = holds-pool tags values rules n checked.passed r ok o.pool fit tags' values' f.tags-are f.values-are;
        literals-are = f.literals-are ∙ list-left tags values rules n t r literals (literal_places cs) ok;
        ends-are = f.ends-are ∙ list-left tags values rules n t r ends (clause_ends 0 cs) ok;
      }
