-- Lists without some of their elements, and without later repeats, by any test of equality.
--     leave_out test xs     xs without the elements that pass the test
--     among eq xs v        v is in xs
--     firsts eq xs         xs without every later repeat
--     distinct eq xs       no element stands twice
--     add_new eq found x    found, and then x unless it is there
--     add_all eq found xs   found, and then what is new among xs, one after another
-- Rests on the library alone.
use Rattle.std.specs.Prelude.{Bool, true, false, not, ◌&&◌, ◌||◌, cond, List, [], ◌∷◌, ◌++◌}

module _ {A : Type 0} where
  unfoldable pub leave_out : (A → Bool) → List A → List A
  leave_out test [] = []
  leave_out test (x ∷ xs) = cond (test x) (leave_out test xs) (x ∷ leave_out test xs)

  unfoldable pub among : (A → A → Bool) → List A → A → Bool
  among eq [] v = false
  among eq (x ∷ xs) v = eq x v || among eq xs v

  -- every element once, where it stands first
  unfoldable pub firsts : (A → A → Bool) → List A → List A
  firsts eq [] = []
  firsts eq (x ∷ xs) = x ∷ leave_out (eq x) (firsts eq xs)

  unfoldable pub distinct : (A → A → Bool) → List A → Bool
  distinct eq [] = true
  distinct eq (x ∷ xs) = not (among eq xs x) && distinct eq xs

  unfoldable pub add_new : (A → A → Bool) → List A → A → List A
  add_new eq found x = cond (among eq found x) found (found ++ x ∷ [])

  unfoldable pub add_all : (A → A → Bool) → List A → List A → List A
  add_all eq found [] = found
  add_all eq found (x ∷ xs) = add_all eq (add_new eq found x) xs
