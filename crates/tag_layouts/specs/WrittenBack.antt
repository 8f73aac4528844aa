-- What a call on u32 tags writes to its arrays, after a call on bytes has worked on the narrowed tags and on the first values.
--     written_back, BackFits             an array whose cells from n on are copied from another, with zeroes past that; what it asks for
--     tags_after, values_after            both arrays after a call that builds, by its answer
--     BuildWritten, StepWritten         what the code writes after a call that builds, and after the check of a step
-- S-9: "Every call on it gives what the call on the u32 pool with the same tags and values gives, answers, cells and counts alike". 01: "30
-- changes nothing"; below the count no call changes a cell, so that a number that is no tag stays there.
-- Rests on answers' struct `Answer` and on descriptions' Description.
use Rattle.std.specs.Prelude.{ℕ, ◌-◌, ◌≤◌, ◌≡◌, cond, List, ◌++◌, length, take, drop, replicate, eqb}
use Rattle.answers.specs.declared.Answer.{Answer}
use Rattle.descriptions.specs.Description.{zero_from, Cut}

-- the array's own cells below n, then those that are left, then zeroes
unfoldable pub written_back : ℕ → List ℕ → List ℕ → List ℕ
written_back n cells left = take n cells ++ (drop n left ++ replicate (length cells - length left) 0)

pub record BackFits (n : ℕ) (cells left : List ℕ) : Type 0 where
  pub within : n ≤ length left
  pub short : length left ≤ length cells

-- ---- after a call that builds, which answered a and left the narrowed tags, and the first values, as `left` says
unfoldable pub tags_after : Answer → ℕ → List ℕ → List ℕ → List ℕ
tags_after a n tags left = cond (eqb a.code 30) tags (written_back n tags left)

unfoldable pub values_after : Answer → List ℕ → List ℕ → List ℕ
values_after a values left = cond (eqb a.code 30) values (left ++ replicate (length values - length left) 0)

-- ---- what the code writes: a call on bytes was lent the first k bytes of an array, and the first k values. It left `bytes` there, and `rest`
-- stands past it in the array; and it left `left` of the values
module _ (a : Answer) (n k : ℕ) (tags values bytes rest left tags' values' : List ℕ) where
  pub record BuildWritten : Type 0 where
    pub kept : a.code ≡ 30 → (tags' ≡ tags) × (values' ≡ left ++ drop k values)
    pub written : (a.code ≡ 30 → ⊥) → (tags' ≡ written_back n tags (take k (bytes ++ rest))) × (values' ≡ zero_from k (left ++ drop k values))

-- the tags are not copied back: rule 3 alone writes, and it leaves zeroes past the count
module _ (a : Answer) (rule n k : ℕ) (tags values left tags' values' : List ℕ) where
  pub record StepWritten : Type 0 where
    pub other : (rule ≡ 3 → ⊥) → (tags' ≡ tags) × (values' ≡ left ++ drop k values)
    pub kept : a.code ≡ 30 → (tags' ≡ tags) × (values' ≡ left ++ drop k values)
    pub zeroed : rule ≡ 3 → (a.code ≡ 30 → ⊥) → Cut n tags (left ++ drop k values) tags' values'
