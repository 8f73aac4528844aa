-- Laws of the totals and of their memo.
-- Assumes nothing.
use Prim.Native.Nat.{ℕ, suc, ◌+◌, ◌-◌, ◌*◌, ◌/◌, ◌%◌, ◌^◌, ◌≤◌, ◌<◌, min}
use mathlib.Core.Path.{◌≡◌, refl, sym, ap, ap₂, ◌∙◌}
use mathlib.Core.Bool.{Bool}
use mathlib.Core.List.{List, [], ◌∷◌, reverse}
use lib.ListN.{length, get_or, drop, set, replicate, length-set, length-replicate, get_or-eq_default}
use lib.Seq.{drop-cons, drop-length, get_or-set_same, get_or-set_other, set_out}
use lib.Dec.{leb, eqb}
use native.Mathlib.Nat.{mul-le-mul}
use Rattle.std.proofs.lemmas.List.{get_or-reverse, length-reverse}
use native.Mathlib.Omega.{arith}
use borrow.Author.Tests.{leb-true, leb-false, eqb-true, eqb-false}
use Rattle.cells.specs.declared.TermPlace.{TermPlace}
use Rattle.cells.specs.Cell.{operands_of}
use Rattle.cells.specs.ByPlace.{by-test}
use Rattle.formulas.specs.Formula.{is_and}
use Rattle.formulas.specs.declared.kinds.ConnectiveKind.{ConnectiveKind}
use Rattle.formulas.specs.declared.kinds.ConnectiveKind.TheVariants.{And, Or}
use Rattle.formulas.specs.declared.view.NormalView.{NormalView}
use Rattle.formulas.specs.declared.view.NormalView.TheVariants.{Literal, Connective, Forall}
use Rattle.clauses.specs.declared.totals.Totals as code
use Rattle.formulas.specs.Clauses.{cnf, literal_total}
use Rattle.formulas.specs.Built.{normal_view, normals_of, form_at}
use Rattle.formulas.specs.Totals.{Totals, start_of, combine, one_literal, cap, totals, totals_of}
use Rattle.clauses.specs.ClauseWalk.{as_totals, entry_base, entry_of, memo_at, run_totals, AllCounted, CountedKept, Memo, TotalsNoted, TermCounted, AskOperands, OperandsCounted}
use Rattle.formulas.proofs.Totals.{totals-are, cut-add, cap-combine}
use Rattle.formulas.proofs.Reading.{no-literal, no-forall, before_at, zeros, read-literal, read-forall, read-connective, run-before, connective-within}

-- ---- one step
-- a product of two u32 fits u64
pub product-fits : (a b : ℕ) → a < 2 ^ 32 → b < 2 ^ 32 → a * b < 2 ^ 64
product-fits a b ha hb =
    let h : a * b ≤ 4294967295 * 4294967295 = mul-le-mul {n₂ = 4294967295} {m₂ = 4294967295} (omega arith) (omega arith) in
    omega arith

pub start-and : (b : ConnectiveKind) → b ≡ And → record { clauses = 0; literals = 0 } ≡ cap 8193 (start_of (is_and b))
start-and b e = rw e

pub start-or : (b : ConnectiveKind) → b ≡ Or → record { clauses = 1; literals = 0 } ≡ cap 8193 (start_of (is_and b))
start-or b e = rw e

pub noted-is : (memo : List ℕ) (u e : ℕ) → e ≡ get_or memo u 0 → record { clauses = e / entry_base; literals = (e - 1) % entry_base } ≡ memo_at memo u
noted-is memo u e p = rw p

module _ (b : ConnectiveKind) (t u : code.Totals) (c l : ℕ) where
  pub combine-sums : b ≡ And → c ≡ min 8193 (t.clauses + u.clauses) → l ≡ min 8193 (t.literals + u.literals)
      → record { clauses = c; literals = l } ≡ cap 8193 (combine (is_and b) (as_totals t) (as_totals u))
  combine-sums e p q = rw (e, p, q)

  pub combine-products : b ≡ Or → c ≡ min 8193 (t.clauses * u.clauses)
      → (x y : ℕ) → x ≡ min 8193 (t.literals * u.clauses) → y ≡ min 8193 (u.literals * t.clauses) → l ≡ min 8193 (x + y)
      → record { clauses = c; literals = l } ≡ cap 8193 (combine (is_and b) (as_totals t) (as_totals u))
  combine-products e p x y hx hy q = rw (e, p, q, hx, hy, ← cut-add 8193 (t.literals * u.clauses) (u.literals * t.clauses))

pub ruleset steps = (start-and, start-or, noted-is, combine-sums, combine-products)

-- ---- a run: the totals from i on
pub record Folded (b : Bool) (at : ℕ → Totals) (run : List ℕ) (i : ℕ) (t : Totals) : Type 0 where
  pub within : i ≤ length run
  pub is : t ≡ run_totals b at (drop i run)

module _ (b : Bool) (at : ℕ → Totals) (run : List ℕ) where
  pub fold_start : (n : ℕ) → n ≡ length run → (s : code.Totals) → as_totals s ≡ cap 8193 (start_of b) → Folded b at run n (as_totals s)
  unfolding run_totals
  fold_start n h s e = record { within = omega arith; is = rw (h, drop-length run) e }

  -- u is the k-th from the end
  pub fold_next : (k : ℕ) (s : code.Totals) → Folded b at run (length run - k) (as_totals s) → (u : ℕ) → (k < length (reverse run)) × (u ≡ get_or (reverse run) k u)
      → (m : code.Totals) → as_totals m ≡ at u → (r : code.Totals) → as_totals r ≡ cap 8193 (combine b (as_totals m) (as_totals s))
      → (j : ℕ) → j ≡ k + 1 → Folded b at run (length run - j) (as_totals r)
  unfolding run_totals
  fold_next k s f u t m em r er j e =
      let h : k < length run = rw (length-reverse run) at t.0 in
      let n : suc (length run - j) ≡ length run - k = omega arith in
      let i : length run - 1 - k ≡ length run - j = omega arith in
      let d : drop (length run - j) run ≡ u ∷ drop (length run - k) run =
      drop-cons run (length run - j) u (omega arith)
      ∙ ap₂ (λ (y o : ℕ). y ∷ drop o run) (ap (λ (o : ℕ). get_or run o u) (sym i) ∙ sym (t.1 ∙ get_or-reverse run k u h)) n in
      record { within = omega arith; is = rw (d, ← f.is, ← em) er }

-- ---- an entry, read back
module _ (c l : ℕ) (small : l ≤ 8193) where
  clauses-back : (entry_base * c + l + 1) / entry_base ≡ c
  clauses-back = omega arith

  literals-back : (entry_base * c + l + 1 - 1) % entry_base ≡ l
  literals-back = omega arith

-- ---- noting totals; past the end of the memo nothing is set
module _ (memo : List ℕ) (x : ℕ) (t : code.Totals) where
  pub note-set : TotalsNoted memo x t (set memo x (entry_of t)) t
  note-set = record { same = refl; memo-is = refl }

  pub note-past : length memo ≤ x → TotalsNoted memo x t memo t
  note-past h = record { same = refl; memo-is = sym (set_out memo x _ h) }

pub ruleset notes = (note-set, note-past)

-- a place that is counted stands in the memo
counted-within : (memo : List ℕ) (x : ℕ) → 0 < get_or memo x 0 → x < length memo
counted-within memo x h =
    by-test (leb (length memo) x)
    (λ q. absurd (omega (arith, get_or-eq_default memo 0 (leb-true (length memo) x q))))
    (λ q. leb-false (length memo) x q)

kept-all : (memo memo' run : List ℕ) → CountedKept memo memo' → AllCounted memo run → AllCounted memo' run
kept-all memo memo' run kept all = record { at = λ i h. kept.at _ (all.at i h) }

kept_same : (memo : List ℕ) → CountedKept memo memo
kept_same memo = record { size = refl; at = λ u h. h }

kept-both : (memo₀ memo₁ memo₂ : List ℕ) → CountedKept memo₀ memo₁ → CountedKept memo₁ memo₂ → CountedKept memo₀ memo₂
kept-both memo₀ memo₁ memo₂ p q = record { size = q.size ∙ p.size; at = λ u h. q.at u (p.at u h) }

kept_set : (memo : List ℕ) (x n : ℕ) → CountedKept memo (set memo x (n + 1))
kept_set memo x n = record {
  size = length-set memo x (n + 1);
  at = λ u h. by-test (eqb u x)
      (λ q. rw (eqb-true u x q) (omega (arith, get_or-set_same memo x (n + 1) 0 (rw (eqb-true u x q) at (counted-within memo u h)))))
      (λ q. rw (get_or-set_other memo x u (n + 1) 0 (eqb-false u x q)) h);
}

module _ (tags values : List ℕ) (x : ℕ) (memo : List ℕ) (right : Memo tags values memo)
    (t : code.Totals) (is : as_totals t ≡ cap 8193 (totals (form_at tags values x)))
    (down : (b : ConnectiveKind) → Connective b ≡ normal_view tags values x → AllCounted memo (operands_of tags values x)) where
  set_keeps : CountedKept memo (set memo x (entry_of t))
  set_keeps = kept_set memo x (entry_base * t.clauses + t.literals)

  -- right totals of a term whose operands are counted keep the memo right
  more-memo : Memo tags values (set memo x (entry_of t))
  more-memo = record {
    room = omega (arith, right.room, length-set memo x (entry_of t));
    at = λ u h. by-test (eqb u x)
        (λ q. rw (eqb-true u x q) (here (rw (eqb-true u x q) at h)))
        (λ q. rw (get_or-set_other memo x u (entry_of t) 0 (eqb-false u x q)) (right.at u (before u (eqb-false u x q) h)));
    operands = λ u h b e. kept-all memo _ _ set_keeps
        (by-test (eqb u x)
        (λ q. rw (eqb-true u x q) (down b (rw (eqb-true u x q) at e)))
        (λ q. right.operands u (before u (eqb-false u x q) h) b e));
  }
    where
      here : 0 < get_or (set memo x (entry_of t)) x 0 → memo_at (set memo x (entry_of t)) x ≡ cap 8193 (totals (form_at tags values x))
      here h =
          let within : x < length memo = omega (arith, length-set memo x (entry_of t), counted-within (set memo x (entry_of t)) x h) in
          let small : t.literals ≤ 8193 = omega (arith, ap (λ (a : Totals). a.literals) is) in
          rw (get_or-set_same memo x (entry_of t) 0 within, clauses-back t.clauses t.literals small, literals-back t.clauses t.literals small) is

      before : (u : ℕ) → (u ≡ x → ⊥) → 0 < get_or (set memo x (entry_of t)) u 0 → 0 < get_or memo u 0
      before u n h = rw (get_or-set_other memo x u (entry_of t) 0 n) at h

  noted-counted : (memo₀ : List ℕ) → CountedKept memo₀ memo → (memo' : List ℕ) (r : code.Totals) → TotalsNoted memo x t memo' r
      → TermCounted tags values x memo₀ memo' r
  noted-counted memo₀ kept memo' r n = record {
    is = ap as_totals n.same ∙ is;
    right = rw n.memo-is more-memo;
    here = λ h. rw n.memo-is (omega (arith, get_or-set_same memo x (entry_of t) 0 (omega (arith, right.room))));
    kept = rw n.memo-is (kept-both memo₀ memo _ kept set_keeps);
  }

-- ---- the term at x
-- a connective, whose operands are counted
run-counted : (tags values memo : List ℕ) → Memo tags values memo → (b : Bool) (run : List ℕ) → AllCounted memo run
    → run_totals b (memo_at memo) run ≡ cap 8193 (totals_of b (normals_of (form_at tags values) run))
unfolding run_totals
run-counted tags values memo right b [] all = refl
run-counted tags values memo right b (u ∷ run) all =
    ap₂ (λ (t s : Totals). cap 8193 (combine b t s)) (right.at u (all.at 0 (omega arith)))
    (run-counted tags values memo right b run (record { at = λ i h. all.at (suc i) (omega arith) }))
    ∙ sym (cap-combine 8193 b (totals (form_at tags values u)) (totals_of b (normals_of (form_at tags values) run)))

module _ (tags values : List ℕ) (x : ℕ) (v : NormalView) (is : v ≡ normal_view tags values x) where
  literal-no-run : v ≡ Literal → (b : ConnectiveKind) → Connective b ≡ normal_view tags values x → ⊥
  literal-no-run e b q = no-literal b (q ∙ (sym is ∙ e))

  forall-no-run : (body : TermPlace) → v ≡ Forall body → (b : ConnectiveKind) → Connective b ≡ normal_view tags values x → ⊥
  forall-no-run body e b q = no-forall b body (q ∙ (sym is ∙ e))

  module _ (memo : List ℕ) (right : Memo tags values memo) (t : code.Totals) (one : as_totals t ≡ one_literal)
      (memo' : List ℕ) (r : code.Totals) (n : TotalsNoted memo x t memo' r) where
    pub term-literal : v ≡ Literal → TermCounted tags values x memo memo' r
    term-literal e =
        noted-counted tags values x memo right t (one ∙ rw (read-literal tags values x v is e)) (λ b q. absurd (literal-no-run e b q))
        memo (kept_same memo) memo' r n

    pub term-forall : (body : TermPlace) → v ≡ Forall body → TermCounted tags values x memo memo' r
    term-forall body e =
        noted-counted tags values x memo right t (one ∙ rw (read-forall tags values x v is body e)) (λ b q. absurd (forall-no-run body e b q))
        memo (kept_same memo) memo' r n

  module _ (b : ConnectiveKind) (e : v ≡ Connective b) where
    pub term-operands : (memo : List ℕ) → Memo tags values memo → AskOperands tags values memo x
    term-operands memo right = record {
      right = right;
      before = run-before tags values x v is b e;
      within = connective-within tags values x v is b e;
    }

    pub term-connective : (memo₀ memo : List ℕ) → OperandsCounted tags values x memo₀ memo
        → (run : List ℕ) → run ≡ operands_of tags values x → (t : code.Totals) → as_totals t ≡ run_totals (is_and b) (memo_at memo) run
        → (memo' : List ℕ) (r : code.Totals) → TotalsNoted memo x t memo' r → TermCounted tags values x memo₀ memo' r
    term-connective memo₀ memo a run o t q memo' r n =
        noted-counted tags values x memo a.right t
        (rw (read-connective tags values x v is b e) (rw o at q ∙ run-counted tags values memo a.right (is_and b) (operands_of tags values x) a.all))
        (λ c p. a.all) memo₀ a.kept memo' r n

-- ---- totals fit an entry
pub run_fits : (b : Bool) (at : ℕ → Totals) (run : List ℕ) (t : code.Totals) → as_totals t ≡ run_totals b at run → (t.clauses ≤ 8193) × (t.literals ≤ 8193)
unfolding run_totals
run_fits b at [] t e = (omega (arith, ap (λ (a : Totals). a.clauses) e), omega (arith, ap (λ (a : Totals). a.literals) e))
run_fits b at (u ∷ run) t e = (omega (arith, ap (λ (a : Totals). a.clauses) e), omega (arith, ap (λ (a : Totals). a.literals) e))

-- ---- the walk along the operands: those before i are counted
pub record CountedTo (tags values run memo₀ memo : List ℕ) (i : ℕ) : Type 0 where
  pub right : Memo tags values memo
  pub at : (j : ℕ) → j < i → 0 < get_or memo (get_or run j 0) 0
  pub kept : CountedKept memo₀ memo

module _ (tags values memo₀ : List ℕ) (x : ℕ) (ask : AskOperands tags values memo₀ x) (run : List ℕ) (o : run ≡ operands_of tags values x)
    (memo : List ℕ) (i : ℕ) (w : CountedTo tags values run memo₀ memo i)
    (h : i < length run) where
  operand-before : get_or run i 0 < x
  operand-before = before_at x run (rw o ask.before) i h

  -- m is the walk's measure at x
  pub operand-falls : (m : ℕ) → x * 2 ≡ m → get_or run i 0 * 2 + 1 < m
  operand-falls m q = omega (arith, operand-before)

  one_more : (memo' : List ℕ) → CountedKept memo memo' → 0 < get_or memo' (get_or run i 0) 0 → (j : ℕ) → j < i + 1 → 0 < get_or memo' (get_or run j 0) 0
  one_more memo' kept here j l =
      by-test (eqb j i)
      (λ q. rw (eqb-true j i q) here)
      (λ q. let n : j ≡ i → ⊥ = eqb-false j i q in kept.at _ (w.at j (omega arith)))

  pub operand-counted : (memo' : List ℕ) (t : code.Totals) → TermCounted tags values (get_or run i 0) memo memo' t → CountedTo tags values run memo₀ memo' (i + 1)
  operand-counted memo' t a = record {
    right = a.right;
    at = one_more memo' a.kept (a.here (omega (arith, operand-before, ask.within)));
    kept = kept-both memo₀ memo memo' w.kept a.kept;
  }

pub ruleset walks = (term-literal, term-forall, term-connective, operand-counted)

-- ---- a memo in which nothing is counted
pub fresh : (tags values : List ℕ) (k : ℕ) → length tags ≤ k → Memo tags values (replicate k 0)
fresh tags values k h = record {
  room = omega (arith, length-replicate {A = ℕ} k 0);
  at = λ u q. absurd (omega (arith, zeros k u));
  operands = λ u q b e. absurd (omega (arith, zeros k u));
}

-- ---- the totals are those of the list
module _ (tags values : List ℕ) (x : ℕ) (r : code.Totals) (is : as_totals r ≡ cap 8193 (totals (form_at tags values x))) where
  list-is : as_totals r ≡ cap 8193 (record { clauses = length (cnf (form_at tags values x)); literals = literal_total (cnf (form_at tags values x)) })
  list-is = is ∙ ap (cap 8193) (totals-are (form_at tags values x))

  pub clauses-cut : r.clauses ≡ min 8193 (length (cnf (form_at tags values x)))
  clauses-cut = ap (λ (t : Totals). t.clauses) list-is

  pub literals-cut : r.literals ≡ min 8193 (literal_total (cnf (form_at tags values x)))
  literals-cut = ap (λ (t : Totals). t.literals) list-is
