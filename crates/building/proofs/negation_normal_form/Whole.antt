-- Law of the whole walk: it leaves the normal form.
-- Assumes nothing.
use Rattle.cells.specs.declared.TermPlace.{TermPlace}
use Rattle.std.specs.Prelude.{Option}
use Prim.Native.Nat.{ℕ}
use mathlib.Core.Bool.{Bool}
use mathlib.Core.List.{List}
use Rattle.formulas.specs.Built.{normal_form}
use Rattle.building.specs.Arrays.{pool_of}
use Rattle.building.specs.Walk.{normal, form_of, Known, NormalBuilt}
use Rattle.building.proofs.build.Walks.{whole-built}

pub normal-built : (n : ℕ) (tags values work : List ℕ) (t : ℕ) (polarity : Bool) (r : Option (TermPlace × ℕ)) (tags' values' work' : List ℕ)
    → Known normal n n tags values work t polarity r tags' values' work' → NormalBuilt n tags values (normal_form (pool_of tags values n) t polarity) r tags' values'
unfolding normal_form form_of
normal-built n tags values work t polarity = whole-built normal n tags values work t polarity
