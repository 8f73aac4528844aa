-- Refusals 8 and 9 at pairs, and what they say of the variables.
--     fewer-there, fewer-back     every pair of one list is in another
--     used-there, used-back       every pair of one list that is free in a term is in another
-- Assumes nothing.
use Prim.Native.Nat.{ℕ}
use mathlib.Core.Path.{◌≡◌, sym, ap, ◌∙◌}
use mathlib.Core.Bool.{true, not, ◌&&◌, and-false}
use mathlib.Core.List.{List}
use Rattle.std.specs.Prelude.{None}
use Rattle.headers.specs.WellFormed.{is_term}
use Rattle.meaning.specs.Tree.{tree}
use Rattle.meaning.specs.FreeTree.{has as has_var}
use Rattle.meaning.proofs.trees.Passed.{Passed}
use Rattle.meaning.proofs.truth.Over.{bool_cases, not-both}
use Rattle.bindings.specs.Binding.{Binding, has, first_of}
use Rattle.free_pairs.specs.BindingFree.{binding_free}
use Rattle.meaning.proofs.patterns.Bindings.{first-is-none, var_of, vars_at, has-at}
use Rattle.meaning.proofs.patterns.Trees.{Sorted, sorted-has, binding-free}
use Rattle.schemas.specs.Schemas.{Among, FreeAmong}
use Rattle.meaning.proofs.patterns.Back.{has-is}
use Rattle.rules.proofs.sound.QntRmUnused.{pairs-fewer, pairs-unused}

module _ {tags values rules : List ℕ} {n : ℕ} (c : Passed tags values rules n) (ls rs : List Binding) where
  pub fewer-there : first_of (λ a. not (has ls a)) rs ≡ None → Among (vars_at tags values rs) (vars_at tags values ls)
  fewer-there = pairs-fewer c ls rs

  pub fewer-back : Sorted tags n ls → Sorted tags n rs → Among (vars_at tags values rs) (vars_at tags values ls) → first_of (λ a. not (has ls a)) rs ≡ None
  fewer-back s u h =
      first-is-none (λ a. not (has ls a)) rs
      (λ a m. ap not (has-is c ls s a (sorted-has tags n rs u a m) ∙ h (var_of tags values a) (has-at tags values rs a m)))

  module _ (t : ℕ) (k : is_term tags n t ≡ true) (s : Sorted tags n ls) where
    pub used-there : first_of (λ a. not (has rs a) && binding_free tags values n t a) ls ≡ None
        → FreeAmong (tree tags values t) (vars_at tags values ls) (vars_at tags values rs)
    used-there e v h f =
        bool_cases (has_var (vars_at tags values rs) v) (λ y. y) (λ y. absurd (not-both f (pairs-unused c t k ls rs s e v h y)))

    pub used-back : Sorted tags n rs → FreeAmong (tree tags values t) (vars_at tags values ls) (vars_at tags values rs)
        → first_of (λ a. not (has rs a) && binding_free tags values n t a) ls ≡ None
    used-back u h =
        first-is-none (λ a. not (has rs a) && binding_free tags values n t a) ls λ a m.
        let p = sorted-has tags n ls s a m in
        bool_cases (binding_free tags values n t a)
        (λ f. rw (has-is c rs u a p, h (var_of tags values a) (has-at tags values ls a m) (sym (binding-free c t k a p) ∙ f)))
        (λ f. rw f (and-false (not (has rs a))))
