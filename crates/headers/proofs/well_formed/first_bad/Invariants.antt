use mathlib.Core.Path.{◌≡◌}
use Rattle.std.specs.Prelude.{◌<◌, All}
use Rattle.std.specs.List.{find}
use Rattle.cells.specs.HeadersLeft.{headers_left}
use Rattle.headers.specs.WellFormed.{first_bad}
use Rattle.headers.proofs.well_formed.Laws.{is_bad}
use Rattle.headers.proofs.well_formed.first_bad.Given as goal

abbrev pub invariant-loop-p : goal.invariant-loop-p
invariant-loop-p l = record {
  first : first_bad l.pool.tags.now l.pool.values.now l.n ≡ find (is_bad l.pool.tags.now l.pool.values.now l.n) (headers_left l.p-iterator);
  below : All (λ p. p < l.n) (headers_left l.p-iterator);
}
