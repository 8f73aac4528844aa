-- Every outcome of the two calls keeps its promises.
--     normal-form-promise     of NormalForm
--     clause-list-promise     of ClauseList
-- Assumes nothing.
use Prim.Native.Nat.{ℕ}
use mathlib.Core.Bool.{Bool}
use mathlib.Core.List.{List}
use Rattle.answers.specs.declared.Answer.{Answer}
use Rattle.meaning.specs.Numbered.{numbered}
use Rattle.normal_form.specs.Calls.{NormalForm, ClauseList}
use Rattle.normal_form.specs.Promise.{NormalFormPromise, ClauseListPromise}
use Rattle.normal_form.proofs.Values.{normal-form-value, clause-list-value}
use Rattle.normal_form.proofs.Passes.{normal-form-passes, clause-list-passes}

pub normal-form-promise : {tags values rules : List ℕ} {n t : ℕ} {polarity : Bool} {r : Answer} {tags' values' : List ℕ}
    → NormalForm tags values rules n t polarity r tags' values' → NormalFormPromise tags values rules n t polarity r tags' values'
normal-form-promise f = record {
  cells = f;
  says = λ ok. record { value = λ N. normal-form-value f ok (numbered N); passes = normal-form-passes f ok };
}

pub clause-list-promise : {tags values rules : List ℕ} {n t : ℕ} {literals ends : List ℕ} {r : Answer} {m : ℕ} {tags' values' literals' ends' : List ℕ}
    → ClauseList tags values rules n t literals ends r m tags' values' literals' ends'
    → ClauseListPromise tags values rules n t literals ends r m tags' values' literals' ends'
clause-list-promise f = record {
  cells = f;
  says = λ ok. record { value = λ e N. clause-list-value f ok e (numbered N); passes = clause-list-passes f ok };
}
