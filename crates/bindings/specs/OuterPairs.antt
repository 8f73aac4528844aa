-- The outer pairs of rule 5, prepared once: the distinct pairs of the outer list in order of first appearance, which of them are left, and
-- an index of them by hash, the pairs of each bucket in a chain, the last one first. It is one array of records of five cells:
--     5 * k        the name of pair k
--     5 * k + 1    its sort
--     5 * k + 2    1 as long as it is left; 0 once it is used, and where there is no pair
--     5 * k + 3    1 + the pair before it in its bucket, 0 where there is none
--     5 * b + 4    1 + the last pair of bucket b, 0 where there is none
-- A bucket for each record.
-- Rests on cells' Limits, on answers' Outcome and Refusal, and on Binding, Used and Distinct.
use Rattle.std.specs.Prelude.{ℕ, zero, suc, ◌+◌, ◌*◌, ◌/◌, ◌%◌, ◌≤◌, ◌<◌, ◌≡◌, Bool, true, false, ◌&&◌, not, cond, List, [], ◌∷◌, ◌++◌, length, get_or, set, eqb, Option, Some, None, Result}
use Rattle.cells.specs.Limits.{cell_limit}
use Rattle.answers.specs.Outcome.{Outcome}
use Rattle.answers.specs.Refusal.{outcome_of}
use Rattle.answers.specs.declared.refusal.Refusal.{Refusal}
use Rattle.bindings.specs.Binding.{Binding, same, has}
use Rattle.bindings.specs.Used.{without}
use Rattle.bindings.specs.Distinct.{added, distinct}

-- ---- what the array holds
abbrev pub pair_in : List ℕ → ℕ → Binding
pair_in cells k = record { name = get_or cells (5 * k) 0; sort = get_or cells (5 * k + 1) 0 }

abbrev pub link_of : List ℕ → ℕ → ℕ
link_of cells k = get_or cells (5 * k + 3) 0

-- the pair that a cell of a chain names
abbrev pub named : ℕ → Option ℕ
named zero = None
named (suc k) = Some k

abbrev pub head_of : List ℕ → ℕ → ℕ
head_of cells b = get_or cells (5 * b + 4) 0

unfoldable pub still_left : List ℕ → ℕ → Bool
still_left cells k = not (eqb (get_or cells (5 * k + 2) 0) 0)

-- pair k is left and equals a
unfoldable pub is_pair : List ℕ → Binding → ℕ → Bool
is_pair cells a k = still_left cells k && same (pair_in cells k) a

-- the pairs that are left, of the first n
unfoldable pub left_below : List ℕ → ℕ → List Binding
left_below cells zero = []
left_below cells (suc k) = left_below cells k ++ cond (still_left cells k) (pair_in cells k ∷ []) []

-- the pairs that are left. Past the last record none is
unfoldable pub left_in : List ℕ → List Binding
left_in cells = left_below cells (length cells)

-- the place where a stands among the first n pairs, as long as it is left: by a scan
unfoldable pub scan_below : List ℕ → Binding → ℕ → Option ℕ
scan_below cells a zero = None
scan_below cells a (suc k) = cond (is_pair cells a k) (Some k) (scan_below cells a k)

unfoldable pub scan : List ℕ → Binding → Option ℕ
scan cells a = scan_below cells a (length cells)

-- the bucket of a pair, in an array of this size
unfoldable pub bucket_of : ℕ → Binding → ℕ
bucket_of size a = (a.name * 1021 + a.sort) % (size / 5)

-- pair k is on the chain from c
pub data OnChain (cells : List ℕ) : ℕ → ℕ → Type 0 where
  here : {k : ℕ} → OnChain cells (suc k) k
  next : {q k : ℕ} → OnChain cells (link_of cells q) k → OnChain cells (suc q) k

-- ---- what is asked of it, and kept: each pair that is left is on the chain of its bucket, and stands in the array once. So
-- the index finds what the scan finds (the contract of `find`)
pub record Prepared (cells : List ℕ) : Type 0 where
  pub room : 5 ≤ length cells  -- there is a bucket
  pub back : (k : ℕ) → link_of cells k ≤ k  -- a chain goes back
  pub reached : (k : ℕ) → still_left cells k ≡ true → OnChain cells (head_of cells (bucket_of (length cells) (pair_in cells k))) k
  pub single : (j k : ℕ) → still_left cells j ≡ true → still_left cells k ≡ true → same (pair_in cells j) (pair_in cells k) ≡ true → j ≡ k

-- ---- what the functions say
-- b is the bucket of a
pub record Bucket (cells : List ℕ) (a : Binding) (b : ℕ) : Type 0 where
  pub is : b ≡ bucket_of (length cells) a
  pub inside : 5 * b + 5 ≤ length cells

-- the array with a as pair k
unfoldable pub entered : List ℕ → ℕ → Binding → ℕ → List ℕ
entered cells k a b =
    set (set (set (set (set cells (5 * k) a.name) (5 * k + 1) a.sort) (5 * k + 2) 1) (5 * k + 3) (head_of cells b)) (5 * b + 4) (k + 1)

-- there is room for a pair k
pub record Room (cells : List ℕ) (k : ℕ) : Type 0 where
  pub inside : 5 * k + 5 ≤ length cells
  pub small : k < cell_limit

-- n pairs are entered
pub record Filled (cells : List ℕ) (n : ℕ) : Type 0 where
  pub ready : Prepared cells
  pub rest : (k : ℕ) → n ≤ k → still_left cells k ≡ false
  pub heads : (b : ℕ) → head_of cells b ≤ n

-- with a put at the end of the n pairs there are m of them
pub record Puts (a : Binding) (before : List ℕ) (n : ℕ) (after : List ℕ) (m : ℕ) : Type 0 where
  pub filled : Filled after m
  pub more : m ≤ n + 1
  pub pairs : left_in after ≡ added (left_in before) a

-- an array of zeroes, with room for the pairs of a list of so many cells
pub record Blank (cells : List ℕ) (size : ℕ) : Type 0 where
  pub zeroes : (i : ℕ) → get_or cells i 0 ≡ 0
  pub enough : 5 * size ≤ 2 * length cells
  pub room : 5 ≤ length cells
  pub small : size ≤ cell_limit

-- the array is prepared for these outer pairs
pub record PreparedFor (outer : List Binding) (cells : List ℕ) : Type 0 where
  pub ready : Prepared cells
  pub pairs : left_in cells ≡ distinct outer

-- r says whether a was left; then it is used, and otherwise nothing changes
pub record UsesPrepared (a : Binding) (before : List ℕ) (r : Bool) (after : List ℕ) : Type 0 where
  pub was : r ≡ has (left_in before) a
  pub rest : left_in after ≡ cond r (without a (left_in before)) (left_in before)
  pub kept : Prepared after

-- the outcome leaves these pairs
pub record Leaves (o : Outcome (List Binding)) (r : Result (Unit {0}) Refusal) (after : List ℕ) : Type 0 where
  pub outcome : o ≡ outcome_of r (left_in after)
  pub kept : Prepared after
