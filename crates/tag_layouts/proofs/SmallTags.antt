-- Every tag of a pool that passes, and of one that a call leaves, is at most the last tag, so that a byte holds it.
--     passed-small, normal-small, clausal-small
-- Assumes nothing.
use Prim.Native.Nat.{ℕ, ◌≤◌, ◌<◌}
use mathlib.Core.Path.{◌≡◌}
use mathlib.Core.Bool.{Bool, true}
use mathlib.Core.List.{List}
use lib.ListN.{get_or}
use Rattle.headers.specs.WellFormed.{is_term}
use Rattle.meaning.proofs.trees.Passed.{Passed}
use Rattle.meaning.proofs.patterns.Trees.{term-below}
use Rattle.formulas.specs.Built.{count}
use Rattle.building.specs.Arrays.{normal_in, clausal_in}
use Rattle.normal_form.proofs.NormalFormTruth.{normal-form-is}
use Rattle.normal_form.proofs.ClauseListTruth.{clausal-form-is}
use Rattle.tag_layouts.specs.Narrowed.{last_tag}
use Rattle.tag_layouts.proofs.WellFormed.{small-tag}

module _ {tags values rules : List ℕ} {n : ℕ} (c : Passed tags values rules n) where
  pub passed-small : (i : ℕ) → i < n → get_or tags i 0 ≤ last_tag
  passed-small = small-tag n tags values c.formed

  module _ (t : ℕ) (h : is_term tags n t ≡ true) where
    pub normal-small : (polarity : Bool) (i : ℕ) → i < count (normal_in tags values n t polarity).pool
        → get_or (normal_in tags values n t polarity).pool.tags i 0 ≤ last_tag
    normal-small polarity i l =
        let (b, k) = term-below c t h in
        small-tag _ (normal_in tags values n t polarity).pool.tags (normal_in tags values n t polarity).pool.values
        (normal-form-is c t b k polarity).sound.formed i l

    pub clausal-small : (i : ℕ) → i < count (clausal_in tags values n t).pool → get_or (clausal_in tags values n t).pool.tags i 0 ≤ last_tag
    clausal-small i l =
        let (b, k) = term-below c t h in
        small-tag _ (clausal_in tags values n t).pool.tags (clausal_in tags values n t).pool.values (clausal-form-is c t b k).sound.formed i l
