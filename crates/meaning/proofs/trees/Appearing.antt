-- The list of a tree's free variables has a variable exactly if it is free, and none twice.
--     occurrences-free       an occurrence is a free variable's, and each free variable has one
--     appearing-free         v is in the list exactly if it is free in t
--     appearing-distinct     no variable stands twice in the list
--     first-free             the first of any list of variables that is in t's list is the first that is free in t
-- Assumes nothing.
use mathlib.Core.Path.{◌≡◌, refl, sym, ap, ap₂, ◌∙◌, fun_ext}
use mathlib.Core.Bool.{Bool, true, not, ◌&&◌, ◌||◌, or-false}
use mathlib.Core.List.{[], ◌∷◌}
use Rattle.free_variables.specs.Once.{leave_out, firsts, among, distinct}
use Rattle.free_variables.proofs.appearing.Once.{among-leave_out, among-firsts, firsts-distinct}
use Rattle.meaning.specs.Term.{Var, Vars, Term, Terms, Lets, const, bit_vector, var, app, quant, bind, letin, op, no_term, tnil, tcons, lnil, lcons}
use Rattle.meaning.specs.FreeTree.{same, has, let_vars, free, frees, free_values}
use Rattle.meaning.specs.Occurrences.{occurrences, occurrences_of, occurrences_in, appearing, first_that}
use Rattle.meaning.proofs.truth.Over.{same-eq, same_refl, has-append}

-- ---- lists of variables
pub among-has : (xs : Vars) (v : Var) → among same xs v ≡ has xs v
unfolding among has
among-has [] v = refl
among-has (x ∷ xs) v = ap (λ (b : Bool). same x v || b) (among-has xs v)

has-without : (bs xs : Vars) (v : Var) → has (leave_out (has bs) xs) v ≡ (not (has bs v) && has xs v)
has-without bs xs v =
    sym (among-has (leave_out (has bs) xs) v) ∙ (among-leave_out same same-eq same_refl (has bs) xs v ∙ ap (λ (b : Bool). not (has bs v) && b) (among-has xs v))

has-firsts : (xs : Vars) (v : Var) → has (firsts same xs) v ≡ has xs v
has-firsts xs v = sym (among-has (firsts same xs) v) ∙ (among-firsts same same-eq same_refl xs v ∙ among-has xs v)

-- ---- occurrences
mutual
  unfolding free occurrences has

  pub occurrences-free : (t : Term) (v : Var) → has (occurrences t) v ≡ free t v
  occurrences-free (const k s c) v = refl
  occurrences-free (bit_vector s w c) v = refl
  occurrences-free (var u) v = or-false (same u v)
  occurrences-free (app s f ts) v = has-append (occurrences f) (occurrences_of ts) v ∙ ap₂ ◌||◌ (occurrences-free f v) (occurrences-frees ts v)
  occurrences-free (quant b s vs t) v = has-without vs (occurrences t) v ∙ ap (λ (z : Bool). not (has vs v) && z) (occurrences-free t v)
  occurrences-free (bind k s vs t) v = has-without vs (occurrences t) v ∙ ap (λ (z : Bool). not (has vs v) && z) (occurrences-free t v)
  occurrences-free (letin s ls t) v =
      has-append (occurrences_in ls) (leave_out (has (let_vars ls)) (occurrences t)) v
      ∙ ap₂ ◌||◌ (occurrences-values ls v) (has-without (let_vars ls) (occurrences t) v ∙ ap (λ (z : Bool). not (has (let_vars ls) v) && z) (occurrences-free t v))
  occurrences-free (op k s ts) v = occurrences-frees ts v
  occurrences-free no_term v = refl

  occurrences-frees : (ts : Terms) (v : Var) → has (occurrences_of ts) v ≡ frees ts v
  occurrences-frees tnil v = refl
  occurrences-frees (tcons t ts) v = has-append (occurrences t) (occurrences_of ts) v ∙ ap₂ ◌||◌ (occurrences-free t v) (occurrences-frees ts v)

  occurrences-values : (ls : Lets) (v : Var) → has (occurrences_in ls) v ≡ free_values ls v
  occurrences-values lnil v = refl
  occurrences-values (lcons a t ls) v = has-append (occurrences t) (occurrences_in ls) v ∙ ap₂ ◌||◌ (occurrences-free t v) (occurrences-values ls v)

-- ---- the list
pub appearing-free : (t : Term) (v : Var) → has (appearing t) v ≡ free t v
unfolding appearing
appearing-free t v = has-firsts (occurrences t) v ∙ occurrences-free t v

pub appearing-distinct : (t : Term) → distinct same (appearing t) ≡ true
unfolding appearing
appearing-distinct t = firsts-distinct same same-eq same_refl (occurrences t)

pub first-free : (t : Term) (vs : Vars) → first_that (has (appearing t)) vs ≡ first_that (free t) vs
first-free t vs = ap (λ (f : Var → Bool). first_that f vs) (fun_ext (appearing-free t))
