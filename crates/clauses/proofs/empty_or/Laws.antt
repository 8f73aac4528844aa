-- Laws of the walk for an empty `or` and of its memo.
-- Assumes nothing.
use Prim.Native.Nat.{ℕ}
use mathlib.Core.Path.{◌≡◌, refl, sym, ◌∙◌}
use mathlib.Core.Bool.{Bool, true, false, not, ◌||◌}
use mathlib.Core.List.{List, [], ◌∷◌}
use lib.ListN.{length, drop, set, replicate}
use lib.Seq.{get_or-set_other}
use lib.Dec.{eqb}
use native.Mathlib.Omega.{arith}
use borrow.Author.Tests.{eqb-true, eqb-false}
use Rattle.cells.specs.declared.TermPlace.{TermPlace}
use Rattle.cells.specs.Cell.{operands_of}
use Rattle.cells.specs.ByPlace.{by-test}
use Rattle.formulas.specs.declared.kinds.ConnectiveKind.{ConnectiveKind}
use Rattle.formulas.specs.declared.kinds.ConnectiveKind.TheVariants.{And, Or}
use Rattle.formulas.specs.declared.view.NormalView.{NormalView}
use Rattle.formulas.specs.declared.view.NormalView.TheVariants.{Literal, Connective, Forall}
use Rattle.formulas.specs.Formula.{is_and}
use Rattle.formulas.specs.Normal.{Normal}
use Rattle.formulas.specs.Clauses.{empty_or, empty_ors, is_empty_or}
use Rattle.formulas.specs.Built.{normal_view, normals_of, form_at}
use Rattle.cells.specs.Marks.{MarkNoted}
use Rattle.clauses.specs.ClauseWalk.{NoneReached, Reached}
use Rattle.formulas.proofs.Reading.{read-literal, read-forall, read-connective, zeros}

-- ---- operands
none-empty : (f : ℕ → Normal (List ℕ) ℕ) (b : Bool) (run : List ℕ) → length run ≡ 0
    → not b ≡ is_empty_or b (normals_of f run) || empty_ors (normals_of f run)
none-empty f true [] e = refl
none-empty f false [] e = refl
none-empty f b (u ∷ run) e = absurd (omega arith)

some-empty : (f : ℕ → Normal (List ℕ) ℕ) (b : Bool) (run : List ℕ) → (length run ≡ 0 → ⊥)
    → is_empty_or b (normals_of f run) || empty_ors (normals_of f run) ≡ empty_ors (normals_of f run)
some-empty f b [] n = absurd (n refl)
some-empty f true (u ∷ run) n = refl
some-empty f false (u ∷ run) n = refl

-- ---- the term at x
module _ (tags values : List ℕ) (x : ℕ) (memo : List ℕ) (v : NormalView) (is : v ≡ normal_view tags values x) where
  pub term-literal : NoneReached tags values memo → v ≡ Literal → Reached tags values memo false (empty_or (form_at tags values x))
  term-literal right e = record { is = rw (read-literal tags values x v is e); right = right }

  pub term-forall : NoneReached tags values memo → (body : TermPlace) → v ≡ Forall body → Reached tags values memo false (empty_or (form_at tags values x))
  term-forall right body e = record { is = rw (read-forall tags values x v is body e); right = right }

  module _ (b : ConnectiveKind) (e : v ≡ Connective b) (run : List ℕ) (o : run ≡ operands_of tags values x) (m : Bool) (q : m ≡ eqb (length run) 0) where
    reached-is : is_empty_or (is_and b) (normals_of (form_at tags values) run) || empty_ors (normals_of (form_at tags values) run) ≡ empty_or (form_at tags values x)
    reached-is = rw (read-connective tags values x v is b e, o)

    empty_at : NoneReached tags values memo → m ≡ true → Reached tags values memo (not (is_and b)) (empty_or (form_at tags values x))
    empty_at right y = record { is = none-empty _ (is_and b) run (eqb-true _ _ (sym q ∙ y)) ∙ reached-is; right = right }

    pub term-or : NoneReached tags values memo → m ≡ true → b ≡ Or → Reached tags values memo true (empty_or (form_at tags values x))
    term-or right y k = rw k at (empty_at right y)

    pub term-and : NoneReached tags values memo → m ≡ true → b ≡ And → Reached tags values memo false (empty_or (form_at tags values x))
    term-and right y k = rw k at (empty_at right y)

    pub term-run : m ≡ false → (s : Bool) → Reached tags values memo s (empty_ors (normals_of (form_at tags values) (operands_of tags values x)))
        → Reached tags values memo s (empty_or (form_at tags values x))
    term-run n s a = record {
      is = (rw (← o) at a.is) ∙ (sym (some-empty _ (is_and b) run (eqb-false _ _ (sym q ∙ n))) ∙ reached-is);
      right = a.right;
    }

module _ (tags values : List ℕ) (x : ℕ) (memo : List ℕ) (s : Bool) (a : Reached tags values memo s (empty_or (form_at tags values x))) where
  -- a right no keeps the memo right
  more-right : s ≡ false → NoneReached tags values (set memo x 1)
  more-right e = record {
    at = λ u q. by-test (eqb u x)
        (λ o. rw (eqb-true u x o) (sym e ∙ a.is))
        (λ o. a.right.at u (sym (get_or-set_other memo x u 1 0 (eqb-false u x o)) ∙ q));
  }

  pub noted : (after : List ℕ) (r : Bool) → MarkNoted memo x s after r → Reached tags values after r (empty_or (form_at tags values x))
  noted after r n = record {
    is = n.same ∙ a.is;
    right = rw n.kept (by-test s (λ e. rw e a.right) (λ e. rw e (more-right e)));
  }

-- ---- the walk along a run, at i: what is left says what all says
pub record RunLeft (tags values run memo : List ℕ) (i : ℕ) : Type 0 where
  pub right : NoneReached tags values memo
  pub left : empty_ors (normals_of (form_at tags values) run) ≡ empty_ors (normals_of (form_at tags values) (drop i run))

pub ruleset walks = (term-literal, term-forall, term-or, term-and, term-run, noted)

-- ---- a fresh memo
pub fresh : (tags values : List ℕ) (k : ℕ) → NoneReached tags values (replicate k 0)
fresh tags values k = record { at = λ u e. absurd (omega (arith, zeros k u)) }
