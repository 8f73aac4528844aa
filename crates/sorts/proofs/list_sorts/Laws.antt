-- Laws of the sort rules whose sort is made of a list of sorts: one for each way out of a function, and what `eq` of two iterators answers.
-- Assumes nothing.
use Prim.Native.Nat.{ℕ, suc, ◌+◌, ◌-◌, ◌≤◌, ◌<◌}
use mathlib.Core.Path.{◌≡◌, refl, sym, subst, ◌∙◌}
use mathlib.Core.Bool.{Bool, true, false, not, ◌&&◌, cond, and-true, and-false, and_assoc}
use mathlib.Core.List.{List, [], ◌∷◌, ◌++◌, reverse, drop_last}
use lib.ListN.{length, get_or, take, drop, length-append, length-drop}
use lib.Seq.{get_or-drop}
use lib.Dec.{ltb, eqb}
use native.Mathlib.Omega.{arith}
use native.Mathlib.Nat.{add-zero}
use borrow.Author.Tests.{lt-ltb, le-ltb, le-leb, lt-leb, eq-eqb, ne_eqb, not-true, not-false}
use Rattle.std.specs.Prelude.{Option, Some, None}
use Rattle.std.specs.declared.iter.StepBy.{StepBy}
use Rattle.std.specs.Iterator.Adapters.{step_by_gap, step_by_first_take, step_by_source, step_by_steps}
use Rattle.std.specs.Iterator.{AlwaysYields, YieldsThen}
use Rattle.std.proofs.lemmas.Iterator.{YieldsList}
use Rattle.cells.specs.Cell.{cells_of, sort_of, same_cells, is_at}
use Rattle.sorts.specs.SortRule.{relation, no_answer, is_sort, pair_sorts, apply, sort_tag, is_relation, relation_sorts, transpose, join, product, application, lambda}
use Rattle.sorts.specs.ListRule.{by_list}
use Rattle.sorts.specs.declared.list_sorts.ListRule.{ListRule}
use Rattle.cells.proofs.Cells.{rest-is, same-lengths}

-- ---- a list without its last
pub last_rest : (a : List ℕ) → take (length a - 1) a ≡ drop_last a
last_rest [] = refl
last_rest (x ∷ []) = refl
last_rest (x ∷ (y ∷ a)) =
    let e : length (x ∷ (y ∷ a)) - 1 ≡ suc (length (y ∷ a) - 1) = omega arith in
    rw (e, last_rest (y ∷ a))

-- ---- every second item of an iterator is the second of a pair
module _ {S A : Type 0} (steps : S → Option A → S → Type 0) (v : A → ℕ) where
  -- calls that passed over no item, and over one
  at_once : (s u : S) (r : Option A) (xs : List A) → length xs ≤ 0 → YieldsThen steps s xs r u → steps s r u
  at_once s u r [] h y = subst (λ j. steps j r u) (sym y.1) y.2
  at_once s u r (x ∷ xs) h y = absurd (omega arith)

  after_one : (s u : S) (r : Option A) (xs : List A) → length xs ≡ 1 → YieldsThen steps s xs r u → (x : A) × (t : S) × steps s (Some x) t × steps t r u
  after_one s u r [] h y = absurd (omega arith)
  after_one s u r (x ∷ []) h y = (x, y.1.0, y.1.1, subst (λ j. steps j r u) (sym y.1.2) y.2)
  after_one s u r (x ∷ (x' ∷ xs)) h y = absurd (omega arith)

  no_end : (s u : S) (y z : ℕ) (ys : List ℕ) (xs : List A) → length xs ≤ 1 → YieldsThen steps s xs None u → AlwaysYields steps v s (y ∷ (z ∷ ys)) → ⊥
  no_end s u y z ys [] h d e = e.0 u (at_once s u None [] (omega arith) d)
  no_end s u y z ys (x ∷ []) h d e = let w = after_one s u None (x ∷ []) refl d in (e.1 w.0 w.1 w.2).1.0 u w.3
  no_end s u y z ys (x ∷ (x' ∷ xs)) h d e = absurd (omega arith)

  later : (s : StepBy S) → step_by_gap s ≡ 1 → step_by_first_take s ≡ false → (ys : List ℕ) → AlwaysYields steps v (step_by_source s) ys → AlwaysYields (step_by_steps steps) v s (pair_sorts ys)
  unfolding pair_sorts
  later s g b [] e = λ x t d. let n : d.2.0 ≡ 1 = rw (b, g) at d.2.2 in let w = after_one _ _ _ d.2.1 (d.2.4 ∙ n) d.2.3 in e w.0 w.1 w.2
  later s g b (y ∷ []) e = λ x t d.
      let n : d.2.0 ≡ 1 = rw (b, g) at d.2.2 in
      let w = after_one _ _ _ d.2.1 (d.2.4 ∙ n) d.2.3 in
      (e.1 w.0 w.1 w.2).1 x _ w.3
  later s g b (y ∷ (z ∷ ys)) e = (
    λ t d. let n : d.2.0 ≡ 1 = rw (b, g) at d.2.2 in no_end _ _ y z ys d.2.1 (rw n at d.2.4) d.2.3 e,
    λ x t d.
        let n : d.2.0 ≡ 1 = rw (b, g) at d.2.2 in
        let w = after_one _ _ _ d.2.1 (d.2.4 ∙ n) d.2.3 in
        let m = (e.1 w.0 w.1 w.2).1.1 x _ w.3 in
        (m.0, later t (d.0 ∙ g) d.1 ys m.1),
  )

  seconds : (s : StepBy S) → step_by_gap s ≡ 1 → step_by_first_take s ≡ true → (l : List ℕ) → AlwaysYields steps v (step_by_source s) (drop 1 l) → AlwaysYields (step_by_steps steps) v s (pair_sorts l)
  unfolding pair_sorts
  seconds s g b [] e = λ x t d. let n : d.2.0 ≡ 0 = rw b at d.2.2 in e x _ (at_once _ _ _ d.2.1 (omega arith) d.2.3)
  seconds s g b (y ∷ []) e = λ x t d. let n : d.2.0 ≡ 0 = rw b at d.2.2 in e x _ (at_once _ _ _ d.2.1 (omega arith) d.2.3)
  seconds s g b (y ∷ (z ∷ ys)) e = (
    λ t d. let n : d.2.0 ≡ 0 = rw b at d.2.2 in e.0 _ (at_once _ _ _ d.2.1 (omega arith) d.2.3),
    λ x t d.
        let n : d.2.0 ≡ 0 = rw b at d.2.2 in
        let m = e.1 x _ (at_once _ _ _ d.2.1 (omega arith) d.2.3) in
        (m.0, later t (d.0 ∙ g) d.1 ys m.1),
  )

pub pair_sorts_from_step_by : {S A : Type 0} {steps : S → Option A → S → Type 0} {v : A → ℕ} {s : StepBy S} (l : List ℕ) → YieldsList steps v (step_by_source s) (drop 1 l)
    → step_by_gap s + 1 ≡ 2 → step_by_first_take s ≡ true → YieldsList (step_by_steps steps) v s (pair_sorts l)
pair_sorts_from_step_by {steps = steps} {v = v} {s = s} l e g b = record { runs = seconds steps v s (omega arith) b l e.runs }

-- ---- two lists joined: q and t say whether the parts are equal
joined : (l r a : List ℕ) → same_cells a (l ++ r) ≡ (same_cells (take (length l) a) l && same_cells (drop (length l) a) r)
unfolding same_cells
joined [] r a = refl
joined (x ∷ l) r [] = refl
joined (x ∷ l) r (y ∷ a) = rw (joined l r a, and_assoc)

module _ (a left right : List ℕ) where
  pub joined-short : length a < length left → false ≡ same_cells a (left ++ right)
  joined-short h = same-lengths a (left ++ right) (λ e. omega (arith, e, length-append left right))

  module _ (q : Bool) (is : q ≡ same_cells (take (length left) a) left) where
    pub joined-not : q ≡ false → q ≡ same_cells a (left ++ right)
    joined-not n = rw (joined left right a, ← is, n)

    pub joined-rest : q ≡ true → (r : Bool) → r ≡ same_cells (take (length a - length left) (drop (length left) a)) right → r ≡ same_cells a (left ++ right)
    joined-rest y r e = rw (joined left right a, ← is, y, e, rest-is a (length left))

-- ---- functions
-- a list that ends with x
ends : (a l : List ℕ) (x : ℕ) → 1 ≤ length a → same_cells a (l ++ (x ∷ [])) ≡ (same_cells (take (length a - 1) a) l && eqb (get_or a (length a - 1) 0) x)
unfolding same_cells
ends [] l x h = absurd (omega arith)
ends (y ∷ []) [] x h = and-true (eqb y x)
ends (y ∷ []) (z ∷ []) x h = and-false (eqb y z)
ends (y ∷ []) (z ∷ (z' ∷ l)) x h = and-false (eqb y z)
ends (y ∷ (y' ∷ a)) [] x h = let e : length (y ∷ (y' ∷ a)) - 1 ≡ suc (length (y' ∷ a) - 1) = omega arith in rw e (and-false (eqb y x))
ends (y ∷ (y' ∷ a)) (z ∷ l) x h =
    let e : length (y ∷ (y' ∷ a)) - 1 ≡ suc (length (y' ∷ a) - 1) = omega arith in
    rw (e, ends (y' ∷ a) l x (omega arith), and_assoc)

module _ (tags values os : List ℕ) (s k : ℕ) (is : k ≡ get_or tags s 0) where
  pub lambda-other : (k ≡ 10 → ⊥) → false ≡ is_sort tags values s (lambda values os)
  unfolding is_sort lambda is_at
  lambda-other n = rw (← is, ne_eqb _ _ n)

  module _ (e : k ≡ 10) (entries : List ℕ) (es : entries ≡ cells_of values s) where
    pub lambda-empty : length entries < 1 → false ≡ is_sort tags values s (lambda values os)
    unfolding is_sort lambda is_at
    lambda-empty z =
        rw (← is, eq-eqb _ _ e, ← es)
        (same-lengths entries (pair_sorts (drop 1 os) ++ (sort_of values (get_or os 0 0) ∷ []))
        (λ q. omega (arith, q, length-append (pair_sorts (drop 1 os)) (sort_of values (get_or os 0 0) ∷ []))))

    module _ (h : 1 ≤ length entries) (b body : ℕ) (bs : b ≡ get_or os 0 0) (ss : body ≡ sort_of values b) where
      lambda-ends : is_sort tags values s (lambda values os) ≡ (same_cells (take (length entries - 1) entries) (pair_sorts (drop 1 os)) && eqb (get_or entries (length entries - 1) 0) body)
      unfolding is_sort lambda is_at
      lambda-ends = rw (← is, eq-eqb _ _ e, ← es, ← bs, ← ss, ends entries (pair_sorts (drop 1 os)) body h)

      pub lambda-body : (get_or entries (length entries - 1) 0 ≡ body → ⊥) → false ≡ is_sort tags values s (lambda values os)
      lambda-body n = rw (lambda-ends, ne_eqb _ _ n, and-false)

      pub lambda-pairs :
          get_or entries (length entries - 1) 0 ≡ body → (rest : List ℕ) → rest ≡ drop 1 os → (r : Bool) → r ≡ same_cells (take (length entries - 1) entries) (pair_sorts rest) →
          r ≡ is_sort tags values s (lambda values os)
      lambda-pairs y rest rs r q = rw (lambda-ends, eq-eqb _ _ y, and-true, ← rs, q)

pub ruleset lambdas = (lambda-other, lambda-empty, lambda-body, lambda-pairs)

-- m arguments to a Function, with what is left of its entries
module _ (tags values entries : List ℕ) (s m : ℕ) (rest : List ℕ) (is : rest ≡ drop m entries) where
  left_over : length rest ≡ length entries - m
  left_over = rw (is, length-drop)

  pub apply-last : length rest ≡ 1 → eqb s (get_or rest 0 0) ≡ is_sort tags values s (apply m entries)
  unfolding is_sort apply
  apply-last h =
      let e : m + 1 ≡ length entries = omega (arith, left_over) in
      rw (eq-eqb _ _ e, is, get_or-drop, add-zero)

  pub apply-many : length entries < m → false ≡ is_sort tags values s (apply m entries)
  unfolding is_sort apply
  apply-many h = rw (ne_eqb (m + 1) (length entries) (λ e. omega arith), lt-leb _ _ h)

  pub apply-part : (length rest ≡ 1 → ⊥) → m ≤ length entries → (r : Bool) → r ≡ is_at tags values s 10 rest → r ≡ is_sort tags values s (apply m entries)
  unfolding is_sort apply
  apply-part n h r e =
      rw (ne_eqb (m + 1) (length entries) (λ z. n (omega (arith, z, left_over))), le-leb _ _ h, e, is)

pub ruleset applied = (apply-last, apply-many, apply-part)

module _ (tags values : List ℕ) (s : ℕ) where
  pub application-none : (os : List ℕ) → length os ≡ 0 → false ≡ is_sort tags values s (application tags values os)
  unfolding is_sort application
  application-none [] h = refl
  application-none (f ∷ os) h = absurd (omega arith)

  application-is : (os : List ℕ) → (length os ≡ 0 → ⊥) →
      application tags values os ≡ cond (eqb (get_or tags (sort_of values (get_or os 0 0)) 0) 10) (apply (length os - 1) (cells_of values (sort_of values (get_or os 0 0)))) no_answer
  unfolding application sort_tag
  application-is [] h = absurd (h refl)
  application-is (f ∷ os) h = let e : length (f ∷ os) - 1 ≡ length os = omega arith in rw e

  module _ (os : List ℕ) (h : length os ≡ 0 → ⊥) (f : ℕ) (fs : f ≡ sort_of values (get_or os 0 0)) (k : ℕ) (ks : k ≡ get_or tags f 0) where
    pub application-other : (k ≡ 10 → ⊥) → false ≡ is_sort tags values s (application tags values os)
    unfolding is_sort
    application-other n = rw (application-is os h, ← fs, ← ks, ne_eqb _ _ n)

    pub application-apply : k ≡ 10 → (entries : List ℕ) → entries ≡ cells_of values f → (r : Bool) → r ≡ is_sort tags values s (apply (length os - 1) entries) → r ≡ is_sort tags values s (application tags values os)
    application-apply e entries es r q = rw (application-is os h, ← fs, ← ks, eq-eqb _ _ e, ← es, q)

pub ruleset applications = (application-none, application-other, application-apply)

-- ---- relations
-- set is the sort of the term at o, and k its tag
module _ (tags values : List ℕ) (o set k : ℕ) (ss : set ≡ sort_of values o) (ks : k ≡ get_or tags set 0) where
  pub not_set : (k ≡ 12 → ⊥) → false ≡ is_relation tags values o
  unfolding is_relation sort_tag
  not_set n = rw (← ss, ← ks, ne_eqb _ _ n)

  pub set-of : k ≡ 12 → (part j : ℕ) → part ≡ get_or values (set + 1) 0 → j ≡ get_or tags part 0 → eqb j 13 ≡ is_relation tags values o
  unfolding is_relation sort_tag
  set-of e part j ps js = rw (← ss, ← ks, eq-eqb _ _ e, ← ps, ← js)

pub ruleset related = (not_set, set-of)

pub relation-run : (values run : List ℕ) (o set : ℕ) → set ≡ sort_of values o → run ≡ cells_of values (get_or values (set + 1) 0) → run ≡ relation_sorts values o
unfolding relation_sorts
relation-run values run o set ss e = rw (e, ss)

-- the sort at s is a Set of a Tuple, whose place is part
abbrev is_tuple_set : List ℕ → List ℕ → ℕ → Bool
is_tuple_set tags values s = is_at tags values s 12 (get_or values (s + 1) 0 ∷ []) && eqb (get_or tags (get_or values (s + 1) 0) 0) 13

module _ (tags values : List ℕ) (s part : ℕ) (ps : part ≡ get_or values (s + 1) 0) where
  pub part-cells : (run : List ℕ) → run ≡ cells_of values part → run ≡ cells_of values (get_or values (s + 1) 0)
  part-cells run e = rw ps at e

  module _ (q : Bool) (is : q ≡ is_at tags values s 12 (part ∷ [])) where
    pub no-tuple-set : not q ≡ true → false ≡ is_tuple_set tags values s
    no-tuple-set n = rw (← ps, ← is, not-true q n)

    pub tuple-set : not q ≡ false → (k : ℕ) → k ≡ get_or tags part 0 → eqb k 13 ≡ is_tuple_set tags values s
    tuple-set y k ks = rw (← ps, ← is, not-false q y, ← ks)

pub ruleset tuple-sets = (part-cells, no-tuple-set, tuple-set)

-- q says whether the sort at s is a Set of a Tuple
module _ (tags values cells : List ℕ) (s : ℕ) (q : Bool) (is : q ≡ is_tuple_set tags values s) where
  relation-is : is_sort tags values s (relation cells) ≡ (q && same_cells (cells_of values (get_or values (s + 1) 0)) cells)
  unfolding is_sort is_at
  relation-is = rw is (simp and_assoc)

  pub relation-not : not q ≡ true → false ≡ is_sort tags values s (relation cells)
  relation-not n = rw (relation-is, not-true q n)

  pub relation-cells : not q ≡ false → (run : List ℕ) → run ≡ cells_of values (get_or values (s + 1) 0) → (r : Bool) → r ≡ same_cells run cells → r ≡ is_sort tags values s (relation cells)
  relation-cells y run rs r e = rw (relation-is, not-false q y, ← rs, e)

pub ruleset relations = (relation-not, relation-cells)

-- RelTranspose: q says whether the operand is a relation
module _ (tags values : List ℕ) (s : ℕ) where
  pub transpose_none : (os : List ℕ) → length os ≡ 0 → false ≡ is_sort tags values s (transpose tags values os)
  unfolding is_sort transpose
  transpose_none [] h = refl
  transpose_none (o ∷ os) h = absurd (omega arith)

  transpose-is : (os : List ℕ) → (length os ≡ 0 → ⊥) →
      transpose tags values os ≡ cond (is_relation tags values (get_or os 0 0)) (relation (reverse (relation_sorts values (get_or os 0 0)))) no_answer
  unfolding transpose
  transpose-is [] h = absurd (h refl)
  transpose-is (o ∷ os) h = refl

  module _ (os : List ℕ) (h : length os ≡ 0 → ⊥) (q : Bool) (is : q ≡ is_relation tags values (get_or os 0 0)) where
    pub transpose-not : not q ≡ true → false ≡ is_sort tags values s (transpose tags values os)
    unfolding is_sort
    transpose-not n = rw (transpose-is os h, ← is, not-true q n)

    pub transpose-sorts : not q ≡ false → (sorts : List ℕ) → sorts ≡ relation_sorts values (get_or os 0 0) → (r : Bool) → r ≡ is_sort tags values s (relation (reverse sorts)) → r ≡ is_sort tags values s (transpose tags values os)
    transpose-sorts y sorts ss r e = rw (transpose-is os h, ← is, not-false q y, ← ss, e)

pub ruleset transposes = (transpose_none, transpose-not, transpose-sorts)

-- RelJoin and RelProduct: q says whether the left operand is a relation, and t whether the right is
module _ (tags values : List ℕ) (s : ℕ) where
  pub join-none : (os : List ℕ) → length os < 2 → false ≡ is_sort tags values s (join tags values os)
  unfolding is_sort join
  join-none [] h = refl
  join-none (o ∷ []) h = refl
  join-none (o ∷ (p ∷ os)) h = absurd (omega arith)

  pub product-none : (os : List ℕ) → length os < 2 → false ≡ is_sort tags values s (product tags values os)
  unfolding is_sort product
  product-none [] h = refl
  product-none (o ∷ []) h = refl
  product-none (o ∷ (p ∷ os)) h = absurd (omega arith)

  join_is : (os : List ℕ) → 2 ≤ length os →
      join tags values os
      ≡ cond (is_relation tags values (get_or os 0 0) && (is_relation tags values (get_or os 1 0) && ltb 0 (length (relation_sorts values (get_or os 1 0)))))
      (relation (drop_last (relation_sorts values (get_or os 0 0)) ++ drop 1 (relation_sorts values (get_or os 1 0))))
      no_answer
  unfolding join
  join_is [] h = absurd (omega arith)
  join_is (o ∷ []) h = absurd (omega arith)
  join_is (o ∷ (p ∷ os)) h = refl

  product_is : (os : List ℕ) → 2 ≤ length os →
      product tags values os
      ≡ cond (is_relation tags values (get_or os 0 0) && is_relation tags values (get_or os 1 0))
      (relation (relation_sorts values (get_or os 0 0) ++ relation_sorts values (get_or os 1 0)))
      no_answer
  unfolding product
  product_is [] h = absurd (omega arith)
  product_is (o ∷ []) h = absurd (omega arith)
  product_is (o ∷ (p ∷ os)) h = refl

  module _ (os : List ℕ) (h : 2 ≤ length os) (q : Bool) (qs : q ≡ is_relation tags values (get_or os 0 0)) where
    pub join-left : not q ≡ true → false ≡ is_sort tags values s (join tags values os)
    unfolding is_sort
    join-left n = rw (join_is os h, ← qs, not-true q n)

    pub product-left : not q ≡ true → false ≡ is_sort tags values s (product tags values os)
    unfolding is_sort
    product-left n = rw (product_is os h, ← qs, not-true q n)

    module _ (y : not q ≡ false) (t : Bool) (ts : t ≡ is_relation tags values (get_or os 1 0)) where
      pub join-right : not t ≡ true → false ≡ is_sort tags values s (join tags values os)
      unfolding is_sort
      join-right n = rw (join_is os h, ← qs, not-false q y, ← ts, not-true t n)

      pub product-right : not t ≡ true → false ≡ is_sort tags values s (product tags values os)
      unfolding is_sort
      product-right n = rw (product_is os h, ← qs, not-false q y, ← ts, not-true t n)

      module _ (z : not t ≡ false) (right : List ℕ) (rs : right ≡ relation_sorts values (get_or os 1 0)) where
        pub join-empty : length right ≡ 0 → false ≡ is_sort tags values s (join tags values os)
        unfolding is_sort
        join-empty e =
            rw (join_is os h, ← qs, not-false q y, ← ts, not-false t z, ← rs, le-ltb 0 (length right) (omega arith))

        module _ (left : List ℕ) (ls : left ≡ relation_sorts values (get_or os 0 0)) (r : Bool) where
          pub join-sorts : (length right ≡ 0 → ⊥) → (l m : List ℕ) → l ≡ drop_last left → m ≡ drop 1 right → r ≡ is_sort tags values s (relation (l ++ m)) → r ≡ is_sort tags values s (join tags values os)
          join-sorts n l m lf mr e =
              rw (join_is os h, ← qs, not-false q y, ← ts, not-false t z, ← rs, lt-ltb 0 (length right) (omega arith), ← ls, ← lf, ← mr, e)

          pub product-sorts : r ≡ is_sort tags values s (relation (left ++ right)) → r ≡ is_sort tags values s (product tags values os)
          product-sorts e = rw (product_is os h, ← qs, not-false q y, ← ts, not-false t z, ← rs, ← ls, e)

pub ruleset joinings = (join-none, join-left, join-right, join-empty, join-sorts)

pub ruleset products = (product-none, product-left, product-right, product-sorts)

-- ---- any of the rules: r says whether the sort at s is the one that the rule k gives
pub list-is : (tags values : List ℕ) (s : ℕ) (rule k : ListRule) (os : List ℕ) (r : Bool)
    → rule ≡ k → r ≡ is_sort tags values s (by_list tags values k os) → r ≡ is_sort tags values s (by_list tags values rule os)
list-is tags values s rule k os r e q = rw e q
