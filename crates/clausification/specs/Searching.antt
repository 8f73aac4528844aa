-- What the methods of `Search` promise each other: what the search seeks, what its memo holds, and what its walkers find.
-- Rests on bindings' Binding, on TakenSearch and on the struct `Search`.
use Rattle.std.specs.Prelude.{ℕ, Bool, List, Option}
use Rattle.bindings.specs.Binding.{Binding, bindings_of}
use Rattle.clausification.specs.declared.taken_search.Search.{Search}
use Rattle.clausification.specs.TakenSearch.{is_sought, found_at, found_in, SearchMemo, SearchAnswered}

-- whether a pair is sought
abbrev pub sought_in : Search → Binding → Bool
sought_in s = is_sought s.pool.now.tags.now s.pool.now.values.now s.n (bindings_of s.right.now) s.sought

-- the memo is right
abbrev pub MemoOf : Search → List ℕ → Type 0
MemoOf s seen = SearchMemo s.pool.now.tags.now s.pool.now.values.now (sought_in s) seen

-- r is what is found at x, and the memo left is right
abbrev pub FindsAt : Search → ℕ → List ℕ → Option ℕ → Type 0
FindsAt s x seen r = SearchAnswered s.pool.now.tags.now s.pool.now.values.now (sought_in s) seen r (found_at s.pool.now.tags.now s.pool.now.values.now (sought_in s) x)

-- the same of a run of places
abbrev pub FindsIn : Search → List ℕ → List ℕ → Option ℕ → Type 0
FindsIn s run seen r = SearchAnswered s.pool.now.tags.now s.pool.now.values.now (sought_in s) seen r (found_in s.pool.now.tags.now s.pool.now.values.now (sought_in s) run)
