-- Arrays of different lengths are refused, and nothing is changed: the outcomes of the calls that write.
-- Assumes nothing.
use Prim.Native.Nat.{ℕ}
use mathlib.Core.Path.{◌≡◌}
use mathlib.Core.Bool.{Bool}
use mathlib.Core.List.{List}
use lib.ListN.{length}
use Rattle.answers.specs.Answer.{bad_arrays}
use Rattle.answers.specs.declared.Answer.{Answer}
use Rattle.pool.specs.Calls.{FreeVars}
use Rattle.normal_form.specs.Promise.{NormalFormPromise, ClauseListPromise}
use Rattle.rules.specs.Step.{Step}
use Rattle.tag_layouts.proofs.Exits.{free-apart, normal-form-apart, clause-list-apart, step-apart}

module _ {tags values : List ℕ} {r : Answer} (made : r ≡ bad_arrays) (h : length tags ≡ length values → ⊥) {table : List ℕ} {n : ℕ} where
  pub free-unlike : {t : ℕ} {marks marks' : List ℕ} → marks' ≡ marks → FreeVars tags values table n t marks r marks'
  free-unlike {t} {marks} m = rw m (free-apart tags values r made h n table t marks)

  module _ {tags' values' : List ℕ} (t-are : tags' ≡ tags) (v-are : values' ≡ values) where
    pub normal-form-unlike : {t : ℕ} {polarity : Bool} → NormalFormPromise tags values table n t polarity r tags' values'
    normal-form-unlike {t} {polarity} = rw (t-are, v-are) (normal-form-apart tags values r made h n table t polarity)

    pub clause-list-unlike : {t m : ℕ} {literals ends literals' ends' : List ℕ} → m ≡ 0 → literals' ≡ literals → ends' ≡ ends
        → ClauseListPromise tags values table n t literals ends r m tags' values' literals' ends'
    clause-list-unlike {t} {m} {literals} {ends} z l e = rw (t-are, v-are, z, l, e) (clause-list-apart tags values r made h n table t literals ends)

    pub step-unlike : {rule : ℕ} {conclusion : List ℕ} → Step tags values table n rule conclusion r tags' values'
    step-unlike {rule} {conclusion} = rw (t-are, v-are) (step-apart tags values r made h n table rule conclusion)

-- the lent lists by other names
pub lists-left : {tags values table : List ℕ} {n t : ℕ} {literals ends : List ℕ} {r : Answer} {m : ℕ} {tags' values' literals' ends' literals₁ ends₁ : List ℕ}
    → ClauseListPromise tags values table n t literals ends r m tags' values' literals' ends' → literals₁ ≡ literals' → ends₁ ≡ ends'
    → ClauseListPromise tags values table n t literals ends r m tags' values' literals₁ ends₁
lists-left p l e = rw (l, e) p
