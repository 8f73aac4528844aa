-- Laws of `is_term`, which hold of any test of a tag.
-- Assumes nothing.
use Prim.Native.Nat.{ℕ, ◌≤◌, ◌<◌}
use mathlib.Core.Path.{◌≡◌}
use mathlib.Core.Bool.{Bool, ◌&&◌}
use mathlib.Core.List.{List}
use lib.ListN.{get_or}
use lib.Dec.{ltb}
use borrow.Author.Tests.{lt-ltb, le-ltb}

-- a place below a bound whose tag passes a test
module _ (test : ℕ → Bool) (tags : List ℕ) (bound v : ℕ) where
  pub not-below : bound ≤ v → ltb v bound ≡ (ltb v bound && test (get_or tags v 0))
  not-below h = rw (le-ltb _ _ h)

  pub below : v < bound → (tag : ℕ) → tag ≡ get_or tags v 0 → (r : Bool) → r ≡ test tag → r ≡ (ltb v bound && test (get_or tags v 0))
  below h tag t r e = rw (lt-ltb _ _ h, ← t) e
