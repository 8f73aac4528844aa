-- A pool that grows: lent arrays with the index of their headers.
-- Rests on Index and the struct `IndexedPool`.
use Rattle.std.specs.Prelude.{◌≡◌, length}
use Rattle.descriptions.specs.Index.{Index}
use Rattle.descriptions.specs.declared.index.IndexedPool.{IndexedPool}

-- the index has the headers of the cells in use
abbrev pub HasIndex : IndexedPool → Type 0
HasIndex pool = Index pool.tags.now pool.values.now pool.count pool.index.now

-- the arrays that pool' lends are those that pool lent: their references and their sizes
pub record SameArrays (pool pool' : IndexedPool) : Type 0 where
  pub tags : pool'.tags.ghost_name ≡ pool.tags.ghost_name
  pub values : pool'.values.ghost_name ≡ pool.values.ghost_name
  pub index : pool'.index.ghost_name ≡ pool.index.ghost_name
  pub tags-size : length pool'.tags.now ≡ length pool.tags.now
  pub values-size : length pool'.values.now ≡ length pool.values.now

-- pool' has the count of pool and the index of its headers, whatever stands past the count
pub record IndexedAgain (pool pool' : IndexedPool) : Type 0 where
  pub count : pool'.count ≡ pool.count
  pub index : Index pool.tags.now pool.values.now pool.count pool'.index.now
