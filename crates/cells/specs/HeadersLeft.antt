-- What a walk over the headers has left. Rests on Headers and the struct `HeaderPlaces`.
use Rattle.std.specs.Prelude.{ℕ, List}
use Rattle.cells.specs.Headers.{headers_from}
use Rattle.cells.specs.declared.header_places.HeaderPlaces.{HeaderPlaces}

abbrev pub headers_left : HeaderPlaces → List ℕ
headers_left s = headers_from s.values.now s.n s.next
