-- The forms of a term, put into a pool that passes its checks, repeat no description: check 15 holds of the pool that is built too.
--     start-clean                      the pool as it was
--     normal-clean, clausal-clean      with the normal form of a term, and with the taken-out form after it
--     normal-single, clausal-single    so no description stands twice
-- Assumes nothing.
use Rattle.std.specs.Prelude.{None}
use Prim.Native.Nat.{ℕ}
use mathlib.Core.Path.{◌≡◌, ◌∙◌}
use mathlib.Core.Bool.{Bool, true}
use mathlib.Core.List.{List}
use lib.ListN.{take}
use native.Mathlib.Omega.{arith}
use Rattle.descriptions.specs.Description.{first_repeat}
use Rattle.descriptions.proofs.description.Fills.{well-formed-fills}
use Rattle.meaning.proofs.trees.Passed.{Passed}
use Rattle.formulas.specs.Built.{Pool, count, normal_form, taken_out_form}
use Rattle.building.specs.Arrays.{pool_of, normal_in, clausal_in}
use Rattle.normal_form.proofs.Repeats.{repeat-same}
use Rattle.normal_form.proofs.NewTerms.{Clean, intern-clean}
use Rattle.normal_form.proofs.NormalFormTruth.{used-same, used-count, used_sound}

-- "No two headers describe the same thing."
abbrev pub Single : Pool → Type 0
Single q = first_repeat q.tags q.values (count q) ≡ None

module _ {tags values rules : List ℕ} {n : ℕ} (c : Passed tags values rules n) where
  start-clean : Clean n (pool_of tags values n)
  start-clean = record {
    good = (used_sound c).good;
    single = rw (used-count c) (repeat-same n tags values (take n tags) (take n values) (used-same c) (well-formed-fills tags values n c.formed) ∙ c.single);
    built = λ t h l k. absurd (omega (arith, used-count c));
  }

  pub normal-clean : (t : ℕ) (p : Bool) → Clean n (normal_in tags values n t p).pool
  unfolding normal_form
  normal-clean t p = intern-clean n _ (pool_of tags values n) start-clean

  pub clausal-clean : (t : ℕ) → Clean n (clausal_in tags values n t).pool
  unfolding taken_out_form
  clausal-clean t = intern-clean n _ (normal_in tags values n t true).pool (normal-clean t true)

  pub normal-single : (t : ℕ) (p : Bool) → Single (normal_in tags values n t p).pool
  normal-single t p = (normal-clean t p).single

  pub clausal-single : (t : ℕ) → Single (clausal_in tags values n t).pool
  clausal-single t = (clausal-clean t).single
