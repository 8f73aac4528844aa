-- A call on u32 tags as a call f on bytes: f is lent the tags narrowed to bytes, and as many of the values.
--     Reads     f reads alone, and answers r
--     Writes    f may write too. Where `from` is some n, what it leaves is written back from n on, unless it answers 30
--     Fits      what is asked of f there
-- Arrays of different lengths are refused, and f is not called.
-- Rests on answers' Answer, on the struct `Listed`, on descriptions' Description, and on Narrowed and WrittenBack.
use Rattle.std.specs.Prelude.{ℕ, ◌≤◌, ◌≡◌, ◌⊎◌, List, ◌++◌, length, take, drop, Option, Some}
use Rattle.std.specs.Borrow.{Bor, MutBor}
use Rattle.std.specs.Fn.{Mut, CalledAtTwo, CalledAtPairMut}
use Rattle.answers.specs.Answer.{bad_arrays}
use Rattle.answers.specs.declared.Answer.{Answer}
use Rattle.descriptions.specs.Description.{zero_from}
use Rattle.normal_form.specs.declared.call.Listed.{Listed}
use Rattle.tag_layouts.specs.Narrowed.{NarrowedInto}
use Rattle.tag_layouts.specs.WrittenBack.{written_back}

module _ {F : Type 0} (g : Mut F (Bor (List ℕ) × (Bor (List ℕ) × Unit {0})) Answer) (f : F) (tags values : List ℕ) where
  pub record Read (r : Answer) (f' : F) : Type 0 where
    pub same : length tags ≡ length values
    pub k : ℕ
    pub bytes : List ℕ
    pub into : NarrowedInto tags k bytes
    pub answers : CalledAtTwo g f (take k bytes) (take k values) r f'

  abbrev pub Reads : Answer → F → Type 0
  Reads r f' = ((length tags ≡ length values → ⊥) × (r ≡ bad_arrays) × (f' ≡ f)) ⊎ Read r f'

module _ {F : Type 0} (g : Mut F (MutBor (List ℕ) × (MutBor (List ℕ) × Unit {0})) (Listed × (MutBor (List ℕ) × (MutBor (List ℕ) × Unit {0})))) (f : F)
    (from : Option ℕ) (tags values : List ℕ) where
  -- it leaves as many bytes as it was lent, and among them place n
  abbrev pub Fits : Type 0
  Fits =
      (k : ℕ) (bytes : List ℕ) (r : Listed) (f' : F) (left-tags left : List ℕ) → length tags ≡ length values → NarrowedInto tags k bytes
      → CalledAtPairMut g f (take k bytes) (take k values) r f' left-tags left
      → (n : ℕ) → from ≡ Some n → (r.answer.code ≡ 30 → ⊥) → (length left-tags ≡ k) × (n ≤ k)

  pub record Written (r : Listed) (f' : F) (tags' values' : List ℕ) : Type 0 where
    pub same : length tags ≡ length values
    pub k : ℕ
    pub bytes : List ℕ
    pub into : NarrowedInto tags k bytes
    pub left-tags : List ℕ
    pub left : List ℕ
    pub rest : List ℕ
    pub leaves : CalledAtPairMut g f (take k bytes) (take k values) r f' left-tags left
    pub kept : ((n : ℕ) → from ≡ Some n → r.answer.code ≡ 30) → (tags' ≡ tags) × (values' ≡ left ++ drop k values)
    pub back : (n : ℕ) → from ≡ Some n → (r.answer.code ≡ 30 → ⊥)
        → (tags' ≡ written_back n tags (take k (left-tags ++ rest))) × (values' ≡ zero_from k (left ++ drop k values))

  abbrev pub Writes : Listed → F → List ℕ → List ℕ → Type 0
  Writes r f' tags' values' =
      ((length tags ≡ length values → ⊥) × (r ≡ record { answer = bad_arrays; count = 0 }) × (f' ≡ f) × (tags' ≡ tags) × (values' ≡ values))
      ⊎ Written r f' tags' values'
