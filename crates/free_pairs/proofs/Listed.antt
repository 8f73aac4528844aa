-- A pair is in the list of a term's free variables exactly if it is free there, of any two lists of cells.
--     binding-listed      the question by the list is the question by `is_free`
--     first-pair-that     so the first pair of a binding list that passes a test and is in the list is the first that passes it and is
--                         free: the refusals name the same variables (02, S-6)
-- Assumes nothing.
use Rattle.std.specs.Prelude.{Option, Some, None}
use Prim.Native.Nat.{ℕ}
use mathlib.Core.Path.{◌≡◌, refl, ap, fun_ext}
use mathlib.Core.Bool.{Bool, ◌&&◌}
use mathlib.Core.List.{List, [], ◌∷◌}
use Rattle.descriptions.specs.Description.{find}
use Rattle.bindings.specs.Binding.{Binding, first_of}
use Rattle.free_variables.proofs.appearing.Listed.{listed-at}
use Rattle.free_pairs.specs.BindingFree.{binding_free, free_at}
use Rattle.free_pairs.specs.BindingListed.{listed_at, binding_listed}
use Rattle.free_pairs.proofs.free_masks.Variables.{stands}

module _ (tags values : List ℕ) (n t : ℕ) where
  pub binding-listed : (a : Binding) → binding_listed tags values n t a ≡ binding_free tags values n t a
  unfolding binding_listed binding_free
  binding-listed a = by (find tags values n 21 (a.sort ∷ a.name ∷ [])) refl
    where
      by : (f : Option ℕ) → find tags values n 21 (a.sort ∷ a.name ∷ []) ≡ f → listed_at tags values t f ≡ free_at tags values t f
      by None q = refl
      by (Some v) q = listed-at tags values v (stands tags values n a.name a.sort v q).tag t

  pub first-pair : (as' : List Binding) → first_of (binding_listed tags values n t) as' ≡ first_of (binding_free tags values n t) as'
  first-pair as' = ap (λ (f : Binding → Bool). first_of f as') (fun_ext binding-listed)

  pub first-pair-that : (test : Binding → Bool) (as' : List Binding)
      → first_of (λ a. test a && binding_listed tags values n t a) as' ≡ first_of (λ a. test a && binding_free tags values n t a) as'
  first-pair-that test as' = ap (λ (f : Binding → Bool). first_of (λ a. test a && f a) as') (fun_ext binding-listed)
