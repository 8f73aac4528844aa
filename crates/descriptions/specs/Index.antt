-- An index of descriptions by hash: the headers of each bucket stand in a chain, the last one first. It is one array,
--     below 8,192    for each header 1 + the one before it in its bucket, 0 where there is none
--     from there on  for each bucket 1 + the last header in it, 0 where there is none
-- Rests on cells' Cell and Limits, on headers' WellFormed, and on Description.
use Rattle.std.specs.Prelude.{ℕ, zero, suc, ◌+◌, ◌-◌, ◌*◌, ◌%◌, ◌≤◌, ◌<◌, ◌≡◌, Bool, cond, List, [], ◌∷◌, length, get_or, set, eqb, Option, Some, None}
use Rattle.cells.specs.Limits.{cell_limit}
use Rattle.cells.specs.Cell.{cells_of, is_at}
use Rattle.descriptions.specs.Description.{find, first_repeat}
use Rattle.headers.specs.WellFormed.{first_bad}

-- the number of buckets
abbrev pub bucket_count : ℕ
bucket_count = 4093

-- the bucket of a description
unfoldable pub hash_from : ℕ → List ℕ → ℕ
hash_from h [] = h
hash_from h (x ∷ xs) = hash_from ((h * 1021 + x % bucket_count) % bucket_count) xs

unfoldable pub bucket_of : ℕ → List ℕ → ℕ
bucket_of tag cells = hash_from (tag % bucket_count) cells

-- 1 + the last header in a bucket
abbrev pub head_of : List ℕ → ℕ → ℕ
head_of index b = get_or index (cell_limit + b) 0

-- the first header on the chain from c where the test holds, and `last` where it holds at none, among at most f headers
unfoldable pub chain_in : List ℕ → (ℕ → Bool) → ℕ → ℕ → Option ℕ → Option ℕ
chain_in index test zero c last = last
chain_in index test (suc f) zero last = last
chain_in index test (suc f) (suc q) last = chain_in index test f (get_or index q 0) (cond (test q) (Some q) last)

-- the same among all headers, of which there are at most c where links point back
unfoldable pub on_chain : List ℕ → (ℕ → Bool) → ℕ → Option ℕ → Option ℕ
on_chain index test c last = chain_in index test c c last

-- what the index has of a description
unfoldable pub look_up : List ℕ → List ℕ → List ℕ → ℕ → List ℕ → Option ℕ
look_up tags values index tag cells = on_chain index (λ q. is_at tags values q tag cells) (head_of index (bucket_of tag cells)) None

-- no entry is above its own place: a chain goes back
pub record PointsBack (index : List ℕ) : Type 0 where
  pub back : (i : ℕ) → get_or index i 0 ≤ i

-- the places that the walk over the headers reaches
pub data Reached (values : List ℕ) : ℕ → Type 0 where
  start : Reached values 0
  next : {p : ℕ} → Reached values p → Reached values (p + (1 + get_or values p 0))

-- a header at q whose cells stand below p
pub record Within (values : List ℕ) (p q : ℕ) : Type 0 where
  pub before : q < p
  pub fits : get_or values q 0 < p - q
  pub header : Reached values q

-- the bucket of the header at q
abbrev pub bucket_at : List ℕ → List ℕ → ℕ → ℕ
bucket_at tags values q = bucket_of (get_or tags q 0) (cells_of values q)

-- a link at i, to q: i is a header below p, in the bucket of q
pub record Linked (tags values : List ℕ) (p i q : ℕ) : Type 0 where
  pub from : Within values p i
  pub bucket : bucket_at tags values q ≡ bucket_at tags values i

-- the index of the headers below p: it has of every description what the scan of them finds
pub record Index (tags values : List ℕ) (p : ℕ) (index : List ℕ) : Type 0 where
  pub size : length index ≡ (cell_limit + 4096)
  pub reached : Reached values p
  pub links-back : PointsBack index
  pub entry : (i q : ℕ) → get_or index i 0 ≡ suc q → Within values p q
  pub link : (i q : ℕ) → i < cell_limit → get_or index i 0 ≡ suc q → Linked tags values p i q
  pub head : (b q : ℕ) → head_of index b ≡ suc q → bucket_at tags values q ≡ b
  pub holds : (tag : ℕ) (cells : List ℕ) → look_up tags values index tag cells ≡ find tags values p tag cells

-- the index with the header at p in front of the chain of bucket b
unfoldable pub entered : List ℕ → ℕ → ℕ → List ℕ
entered index p b = set (set index p (head_of index b)) (cell_limit + b) (p + 1)

-- the index with the chain of bucket b without its first header, if that is p
unfoldable pub unlinked : List ℕ → ℕ → ℕ → List ℕ
unlinked index p b = cond (eqb (head_of index b) (p + 1)) (set index (cell_limit + b) (get_or index p 0)) index

-- the index without the header at p, which is the last one, of bucket b
unfoldable pub without : List ℕ → ℕ → ℕ → List ℕ
without index p b = set (unlinked index p b) p 0

-- p is a place from which headers are to be taken out of an index of those below m
pub record Earlier (values : List ℕ) (p m : ℕ) : Type 0 where
  pub reached : Reached values p
  pub before : p ≤ m
  pub small : m ≤ cell_limit

-- after check 15: a well-formed pool without repeats is in the index
pub record Indexes (tags values : List ℕ) (n : ℕ) (index : List ℕ) : Type 0 where
  pub whole : n ≤ cell_limit → first_bad tags values n ≡ None → first_repeat tags values n ≡ None → Index tags values n index
