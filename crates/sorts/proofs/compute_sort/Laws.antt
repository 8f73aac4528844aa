-- Laws of `SortRule`: the special rules by operator code, the rules of the table, and the sort of any term; one law for each way out.
-- Assumes nothing.
use Prim.Native.Nat.{ℕ, zero, suc, ◌+◌, ◌-◌, ◌≤◌, ◌<◌}
use mathlib.Core.Path.{◌≡◌, refl, sym}
use mathlib.Core.Bool.{Bool, true, false, not, ◌&&◌, cond}
use mathlib.Core.List.{List, [], ◌∷◌}
use lib.ListN.{length, get_or, take, drop, drop_of_length-le, length-drop, get_or-eq_default}
use lib.Seq.{take_all}
use lib.Dec.{leb, ltb, eqb}
use native.Mathlib.Omega.{arith}
use borrow.Author.Tests.{lt-leb, le-leb, lt-ltb, le-ltb, eq-eqb, ne_eqb, ltb-true, ltb-false}
use Rattle.cells.specs.ByPlace.{by-test}
use Rattle.cells.specs.Cell.{sort_of, operands_of, is_at}
use Rattle.headers.specs.WellFormed.{is_term_tag}
use Rattle.sorts.specs.SortRule.{is_sort, special_of, first_sort, by_special, by_rule, application, choice, lambda, compute_sort, states_sort}
use Rattle.sorts.specs.declared.special.Special.{Special}
use Rattle.sorts.specs.declared.special.Special.TheVariants.{Arithmetic, BitVectors, BitCount, NoRule}

-- ---- a range of codes
module _ (a b op : ℕ) where
  within : a ≤ op → op ≤ b → leb a op && leb op b ≡ true
  within h k = rw (le-leb _ _ h, le-leb _ _ k)

  under : op < a → leb a op && leb op b ≡ false
  under h = rw (lt-leb _ _ h)

  over : b < op → leb a op && leb op b ≡ false
  over h = by-test (leb a op) (λ e. rw (e, lt-leb _ _ h)) (λ e. rw e)

-- ---- the special rule of an operator code
-- one code
pub one_code : (op k : ℕ) (s : Special) → op ≡ k → s ≡ special_of k → s ≡ special_of op
one_code op k s e q = rw e q

-- the rules of more than one code
pub ranges : ℕ → Special
ranges op =
    cond (leb 10 op && leb op 12) Arithmetic
    (cond (leb 79 op && leb op 88) BitVectors
    (cond (leb 91 op && leb op 94) BitVectors
    (cond (leb 96 op && leb op 100) BitVectors
    (cond (leb 110 op && leb op 111) BitCount
    NoRule))))

module _ (op : ℕ) where
  pub other-code : (op ≡ 42 → ⊥) → (op ≡ 90 → ⊥) → (op ≡ 95 → ⊥) → (op ≡ 112 → ⊥) → (op ≡ 115 → ⊥) → (op ≡ 123 → ⊥)
      → (op ≡ 127 → ⊥) → (op ≡ 129 → ⊥) → (op ≡ 130 → ⊥) → (op ≡ 131 → ⊥) → (op ≡ 133 → ⊥) → (op ≡ 134 → ⊥)
      → special_of op ≡ ranges op
  unfolding special_of ranges
  other-code a b c d e f g h i j k l = simp ne_eqb

  module _ (is : special_of op ≡ ranges op) where
    pub arithmetic-codes : 10 ≤ op → op < 13 → Arithmetic ≡ special_of op
    unfolding ranges
    arithmetic-codes h k = rw (is, within 10 12 op h (omega arith))

    pub bit-vector-codes : 79 ≤ op → op < 89 → BitVectors ≡ special_of op
    unfolding ranges
    bit-vector-codes h k = rw (is, over 10 12 op (omega arith), within 79 88 op h (omega arith))

    pub later-bit-vector-codes : 90 ≤ op → op < 101 → (op ≡ 90 → ⊥) → (op ≡ 95 → ⊥) → BitVectors ≡ special_of op
    unfolding ranges
    later-bit-vector-codes h k n m =
        rw (is, over 10 12 op (omega arith), over 79 88 op (omega arith))
        (by-test (ltb op 95)
        (λ e. rw (within 91 94 op (omega arith) (omega (arith, ltb-true op 95 e))))
        (λ e. let l : 95 ≤ op = ltb-false op 95 e in rw (over 91 94 op (omega arith), within 96 100 op (omega arith) (omega arith))))

    pub bit-count-codes : 110 ≤ op → op < 112 → BitCount ≡ special_of op
    unfolding ranges
    bit-count-codes h k =
        rw (is, over 10 12 op (omega arith), over 79 88 op (omega arith), over 91 94 op (omega arith), over 96 100 op (omega arith), within 110 111 op h (omega arith))

    pub no-rule-first : op < 10 → NoRule ≡ special_of op
    unfolding ranges
    no-rule-first h =
        rw (is, under 10 12 op h, under 79 88 op (omega arith), under 91 94 op (omega arith), under 96 100 op (omega arith), under 110 111 op (omega arith))

    pub no-rule-13 : 13 ≤ op → op < 79 → NoRule ≡ special_of op
    unfolding ranges
    no-rule-13 h k =
        rw (is, over 10 12 op h, under 79 88 op k, under 91 94 op (omega arith), under 96 100 op (omega arith), under 110 111 op (omega arith))

    pub no-rule-89 : 89 ≤ op → op < 90 → NoRule ≡ special_of op
    unfolding ranges
    no-rule-89 h k =
        rw (is, over 10 12 op (omega arith), over 79 88 op h, under 91 94 op (omega arith), under 96 100 op (omega arith), under 110 111 op (omega arith))

    pub no-rule-101 : 101 ≤ op → op < 110 → NoRule ≡ special_of op
    unfolding ranges
    no-rule-101 h k =
        rw (is, over 10 12 op (omega arith), over 79 88 op (omega arith), over 91 94 op (omega arith), over 96 100 op h, under 110 111 op k)

    pub no-rule-112 : 112 ≤ op → NoRule ≡ special_of op
    unfolding ranges
    no-rule-112 h =
        rw (is, over 10 12 op (omega arith), over 79 88 op (omega arith), over 91 94 op (omega arith), over 96 100 op (omega arith), over 110 111 op h)

pub ruleset codes = (one_code, other-code, arithmetic-codes, bit-vector-codes, later-bit-vector-codes, bit-count-codes, no-rule-first, no-rule-13, no-rule-89, no-rule-101, no-rule-112)

-- ---- reading a table of rules
-- an entry, whatever stands for those past the end
pub entry-is : (rules : List ℕ) (k d e : ℕ) → k < length rules → get_or rules k d ≡ get_or rules k e
entry-is [] k d e h = absurd (omega arith)
entry-is (x ∷ rules) zero d e h = refl
entry-is (x ∷ rules) (suc k) d e h = entry-is rules k d e (omega arith)

pub entry_past : (rules : List ℕ) (k d : ℕ) → length rules ≤ k → d ≡ get_or rules k d
entry_past rules k d h = sym (get_or-eq_default rules d h)

pub ruleset entries = (entry-is, entry_past)

-- ---- a sort that is an operand's or a variable's
module _ (tags values : List ℕ) (s : ℕ) where
  pub first-none : (os : List ℕ) → length os ≡ 0 → false ≡ is_sort tags values s (first_sort values os)
  unfolding is_sort first_sort
  first-none [] z = refl
  first-none (o ∷ os) z = absurd (omega arith)

  pub first_some : (os : List ℕ) → (length os ≡ 0 → ⊥) → (q : ℕ) → q ≡ sort_of values (get_or os 0 0) → eqb s q ≡ is_sort tags values s (first_sort values os)
  unfolding is_sort first_sort
  first_some [] n q is = absurd (n refl)
  first_some (o ∷ os) n q is = rw is

  pub choice-short : (os : List ℕ) → length os < 3 → false ≡ is_sort tags values s (choice os)
  unfolding is_sort choice
  choice-short [] h = refl
  choice-short (b ∷ []) h = refl
  choice-short (b ∷ (a ∷ [])) h = refl
  choice-short (b ∷ (a ∷ (v ∷ os))) h = absurd (omega arith)

  pub choice-some : (os : List ℕ) → 3 ≤ length os → eqb s (get_or os 2 0) ≡ is_sort tags values s (choice os)
  unfolding is_sort choice
  choice-some [] h = absurd (omega arith)
  choice-some (b ∷ []) h = absurd (omega arith)
  choice-some (b ∷ (a ∷ [])) h = absurd (omega arith)
  choice-some (b ∷ (a ∷ (v ∷ os))) h = refl

pub ruleset firsts = (first-none, first_some)

pub ruleset choices = (choice-short, choice-some)

-- ---- the rules
module _ (tags values : List ℕ) (s rule op : ℕ) (os : List ℕ) where
  pub rule-missing : 5 ≤ rule → (rule ≡ 5 → ⊥) → rule ≡ 6 → length os ≡ 0 → false ≡ is_sort tags values s (by_rule tags values rule op os)
  unfolding by_rule first_sort is_sort
  rule-missing h n e l = rw (le-ltb _ _ h, ne_eqb _ _ n, eq-eqb _ _ e, drop_of_length-le os {i = 1} (omega arith))

  module _ (r : Bool) where
    pub rule-plain : rule < 5 → (tag : ℕ) → tag ≡ rule + 1 → r ≡ is_at tags values s tag [] → r ≡ is_sort tags values s (by_rule tags values rule op os)
    unfolding by_rule is_sort
    rule-plain h tag e q = rw (lt-ltb _ _ h, ← e) q

    module _ (h : 5 ≤ rule) where
      pub rule-first : rule ≡ 5 → r ≡ is_sort tags values s (first_sort values os) → r ≡ is_sort tags values s (by_rule tags values rule op os)
      unfolding by_rule
      rule-first e q = rw (le-ltb _ _ h, eq-eqb _ _ e) q

      module _ (n : rule ≡ 5 → ⊥) where
        pub rule-second : rule ≡ 6 → r ≡ is_sort tags values s (first_sort values (take (length os - 1) (drop 1 os)))
            → r ≡ is_sort tags values s (by_rule tags values rule op os)
        unfolding by_rule
        rule-second e q =
            rw (le-ltb _ _ h, ne_eqb _ _ n, eq-eqb _ _ e, q, take_all (length os - 1) (drop 1 os) (rw length-drop (omega arith)))

        pub rule-special : (rule ≡ 6 → ⊥) → (special : Special) → special ≡ special_of op
            → r ≡ is_sort tags values s (by_special tags values special os) → r ≡ is_sort tags values s (by_rule tags values rule op os)
        unfolding by_rule
        rule-special m special e q = rw (le-ltb _ _ h, ne_eqb _ _ n, ne_eqb _ _ m, q, e)

pub ruleset by-rules = (rule-missing, rule-plain, rule-first, rule-second, rule-special)

-- ---- any term
-- k is the tag at t, s the sort that is stated there, and os the operand run
module _ (tags values rules : List ℕ) (t k : ℕ) (is : k ≡ get_or tags t 0) where
  pub variable-sort : 20 ≤ k → 21 ≤ k → k < 22 → true ≡ states_sort tags values rules t
  unfolding states_sort compute_sort is_sort
  variable-sort h20 h21 h = simp (← is, le-ltb, lt-ltb, eq-eqb (sort_of values t) _ refl)

  module _ (s : ℕ) (at : s ≡ sort_of values t) (r : Bool) where
    pub constant-sort : k < 20 → (tag : ℕ) → tag ≡ k - 14 → r ≡ is_at tags values s tag [] → r ≡ states_sort tags values rules t
    unfolding states_sort compute_sort is_sort
    constant-sort h tag e q = simp (← is, ← at, ← e, lt-ltb) q

    module _ (h20 : 20 ≤ k) where
      pub bit-vector-sort : k < 21 → (w : ℕ) → w ≡ get_or values (t + 2) 0 → r ≡ is_at tags values s 7 (w ∷ []) → r ≡ states_sort tags values rules t
      unfolding states_sort compute_sort is_sort
      bit-vector-sort h w e q = simp (← is, ← at, ← e, le-ltb, lt-ltb) q

      module _ (h21 : 21 ≤ k) (h22 : 22 ≤ k) (os : List ℕ) (run : os ≡ operands_of tags values t) where
        pub application-sort : k < 23 → r ≡ is_sort tags values s (application tags values os) → r ≡ states_sort tags values rules t
        unfolding states_sort compute_sort
        application-sort h q = simp (← is, ← at, ← run, le-ltb, lt-ltb) q

        module _ (h23 : 23 ≤ k) where
          pub quantifier-sort : k < 25 → r ≡ is_at tags values s 1 [] → r ≡ states_sort tags values rules t
          unfolding states_sort compute_sort is_sort
          quantifier-sort h q = simp (← is, ← at, le-ltb, lt-ltb) q

          module _ (h25 : 25 ≤ k) where
            pub choice-sort : k < 26 → r ≡ is_sort tags values s (choice os) → r ≡ states_sort tags values rules t
            unfolding states_sort compute_sort
            choice-sort h q = simp (← is, ← at, ← run, le-ltb, lt-ltb) q

            module _ (h26 : 26 ≤ k) where
              pub lambda-sort : k < 27 → r ≡ is_sort tags values s (lambda values os) → r ≡ states_sort tags values rules t
              unfolding states_sort compute_sort
              lambda-sort h q = simp (← is, ← at, ← run, le-ltb, lt-ltb) q

              module _ (h27 : 27 ≤ k) where
                pub let-sort : k < 28 → r ≡ is_sort tags values s (first_sort values os) → r ≡ states_sort tags values rules t
                unfolding states_sort compute_sort
                let-sort h q = simp (← is, ← at, ← run, le-ltb, lt-ltb) q

                pub operator-sort : 28 ≤ k → (op rule : ℕ) → op ≡ k - 32 → rule ≡ get_or rules op 7
                    → r ≡ is_sort tags values s (by_rule tags values rule op os) → r ≡ states_sort tags values rules t
                unfolding states_sort compute_sort
                operator-sort h op rule e f q = simp (← is, ← at, ← run, ← e, ← f, le-ltb) q

pub ruleset term-sorts = (variable-sort, constant-sort, bit-vector-sort, application-sort, quantifier-sort, choice-sort, lambda-sort, let-sort, operator-sort)

-- ---- a term with the wrong sort
module _ (tags values rules : List ℕ) (t k : ℕ) (is : k ≡ get_or tags t 0) where
  pub no-term : k < 16 → false ≡ (is_term_tag (get_or tags t 0) && not (states_sort tags values rules t))
  unfolding is_term_tag
  no-term h = rw (← is, lt-leb _ _ h)

  pub term-states : 16 ≤ k → (r : Bool) → r ≡ states_sort tags values rules t → not r ≡ (is_term_tag (get_or tags t 0) && not (states_sort tags values rules t))
  unfolding is_term_tag
  term-states h r q = rw (← is, le-leb _ _ h, q)

pub ruleset wrong = (no-term, term-states)
