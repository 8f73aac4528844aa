-- What the functions of `lines` ask of their arguments.
-- Rests on answers' struct `Answer`, on pool's Check, on tag_layouts' Narrowed, and on StepFile.
use Rattle.std.specs.Prelude.{ℕ, ◌≤◌, ◌≡◌, List}
use Rattle.pool.specs.Check.{check_pool}
use Rattle.answers.specs.declared.Answer.{Answer}
use Rattle.tag_layouts.specs.Narrowed.{narrowed}
use Rattle.step_files.specs.StepFile.{cell_count, step_count, file_tags, file_values}

module _ (bytes : List ℕ) (n steps room : ℕ) where
  -- n and steps are the file's N and R and in bounds, and there is room for the text
  pub record Sized : Type 0 where
    pub n-is : n ≡ cell_count bytes
    pub steps-are : steps ≡ step_count bytes
    pub n-fits : n ≤ 8192
    pub steps-fit : steps ≤ 256
    pub text-fits : 11264 ≤ room

  -- the arrays are the file's, the tags as bytes, and the pool check over them has answered `checked`
  pub record Ready (checked : Answer) (tags values table : List ℕ) : Type 0 where
    pub sized : Sized
    pub tags-are : tags ≡ narrowed (file_tags bytes)
    pub values-are : values ≡ file_values bytes
    pub checked-is : checked ≡ check_pool tags values table n
