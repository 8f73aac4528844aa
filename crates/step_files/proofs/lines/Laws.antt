-- Laws of `StepFile` for the functions of `lines`.
-- Assumes nothing.
use Prim.Native.Nat.{ℕ, suc, ◌+◌, ◌-◌, ◌*◌, ◌≤◌, ◌<◌}
use mathlib.Core.Path.{◌≡◌, refl, sym, ap, ◌∙◌}
use mathlib.Core.Bool.{not, ◌&&◌}
use mathlib.Core.List.{List, [], ◌∷◌, ◌++◌}
use lib.ListN.{length, get_or, take, drop, replicate, length-append, length-replicate, get_or-replicate, get_or-append, get_or-eq_default}
use lib.Seq.{take_at, drop_at, length-take-le, get_or-append-add, ext_get_or}
use lib.Dec.{eqb, ltb}
use borrow.Author.Tests.{ltb-true, ltb-false}
use native.Mathlib.Omega.{arith}
use native.Mathlib.Numerals.{add-one}
use Rattle.cells.specs.ByPlace.{by-test}
use Rattle.descriptions.specs.Description.{zero_from}
use Rattle.step_files.specs.Words.{word_at, words_from}
use Rattle.step_files.proofs.words.Words.{length-words, get_d_words}
use Rattle.step_files.proofs.NarrowedTags.{file-answer}
use Rattle.tag_layouts.specs.Narrowed.{narrow, narrowed}
use Rattle.tag_layouts.proofs.Alike.{narrowed_at, narrowed-length, narrowed-padded}
use Rattle.pool.specs.Check.{check_pool, Indexed}
use Rattle.answers.specs.declared.Answer.{Answer}
use Rattle.rules.specs.Step.{cells_left, Step}
use Rattle.step_files.specs.StepFile.{cells_from, answer_to, lines}
use Rattle.step_files.specs.Steps.{Sized, Ready}
use Rattle.step_files.specs.Text.{line, LinePut}
use Rattle.step_files.proofs.answer_lines.Laws.{put-append}

-- ---- the arrays
-- the array l, zeroed from n on
module _ (n : ℕ) (l cells : List ℕ) (e : cells ≡ zero_from n l) (long : length l ≡ 8192) (fits : n ≤ 8192) where
  zeroed-length : length cells ≡ 8192
  unfolding zero_from
  zeroed-length = rw (e, length-append, length-take-le n l (omega arith), length-replicate) (omega arith)

  pub part-within : n ≤ length cells
  part-within = rw zeroed-length fits

  -- the part that a call reads into
  pub part-read : n ≡ length (take n cells)
  part-read = sym (length-take-le n cells part-within)

  -- what it holds once its first n cells are read
  pub cells-read : (bytes : List ℕ) (start k : ℕ) (words : List ℕ) → words ≡ words_from bytes start k → n ≡ k → words ++ drop n cells ≡ cells_from bytes start n
  unfolding cells_from zero_from
  cells-read bytes start k words w same =
      let d : drop n (take n l ++ replicate (length l - n) 0) ≡ replicate (length l - n) 0 = drop_at (take n l) (replicate (length l - n) 0) n (length-take-le n l (omega arith)) in
      rw (w, ← same, e, d, long)

pub ruleset cells-from = (part-within, part-read, cells-read)

cells-length : (bytes : List ℕ) (start n : ℕ) → n ≤ 8192 → length (cells_from bytes start n) ≡ 8192
unfolding cells_from
cells-length bytes start n h = rw (length-append, length-words, length-replicate) (omega arith)

-- ---- the tags, as bytes
zero-at : (k i : ℕ) → ◌≡◌ {A = ℕ} (get_or (replicate k 0) i 0) 0
zero-at k i =
    by-test (ltb i k)
    (λ e. get_or-replicate k i 0 0 (ltb-true i k e))
    (λ e. get_or-eq_default (replicate k 0) 0 (rw length-replicate (ltb-false i k e)))

module _ (bytes : List ℕ) (start n i : ℕ) where
  pub tag-past : n ≤ i → 0 ≡ narrow (get_or (cells_from bytes start n) i 0)
  unfolding cells_from narrow
  tag-past h =
      let k : i ≡ length (words_from bytes start n) + (i - n) = rw length-words (omega arith) in
      let e : get_or (words_from bytes start n ++ replicate (8192 - n) 0) i 0 ≡ 0 =
      ap (λ (j : ℕ). get_or (words_from bytes start n ++ replicate (8192 - n) 0) j 0) k
      ∙ (get_or-append-add (words_from bytes start n) (replicate (8192 - n) 0) (i - n) 0 ∙ zero-at (8192 - n) (i - n)) in
      rw e

  pub tag_read : (b w : ℕ) → b ≡ narrow w → w ≡ word_at bytes (start + i) → i < n → b ≡ narrow (get_or (cells_from bytes start n) i 0)
  unfolding cells_from
  tag_read b w e is h =
      let g : get_or (words_from bytes start n ++ replicate (8192 - n) 0) i 0 ≡ word_at bytes (start + i) =
      get_or-append (words_from bytes start n) (replicate (8192 - n) 0) 0 i (rw length-words h) ∙ get_d_words bytes start n i h in
      rw (e, is, g)

-- a list that holds the bytes of all of them
pub tags_are : (bytes : List ℕ) (start n : ℕ) (tags : List ℕ) (i : ℕ) → n ≤ 8192 → length tags ≡ 8192
    → ((j : ℕ) → j < i → get_or tags j 0 ≡ narrow (get_or (cells_from bytes start n) j 0)) → length tags ≤ i → tags ≡ narrowed (cells_from bytes start n)
tags_are bytes start n tags i h long each l =
    let size : length tags ≡ length (narrowed (cells_from bytes start n)) = long ∙ sym (narrowed-length (cells_from bytes start n) ∙ cells-length bytes start n h) in
    ext_get_or 0 tags (narrowed (cells_from bytes start n)) size (λ j k. each j (omega arith) ∙ sym (narrowed_at (cells_from bytes start n) j))

module _ (bytes : List ℕ) (start n : ℕ) (fits : n ≤ 8192) where
  -- past n there are zeroes already
  cut-same : zero_from n (cells_from bytes start n) ≡ cells_from bytes start n
  unfolding cells_from zero_from
  cut-same =
      let e : length (words_from bytes start n ++ replicate (8192 - n) 0) - n ≡ 8192 - n =
      rw (length-append, length-words, length-replicate) (omega arith) in
      rw (e, take_at (words_from bytes start n) (replicate (8192 - n) 0) n (length-words bytes start n))

  -- so a step leaves them as they were
  pub left-same : (tags values table : List ℕ) (rule : ℕ) (conclusion : List ℕ) (a : Answer)
      → cells_left tags values table n rule conclusion a (cells_from bytes start n) ≡ cells_from bytes start n
  unfolding cells_left
  left-same tags values table rule conclusion a =
      by-test (eqb rule 3 && not (eqb a.code 30)) (λ e. rw e cut-same) (λ e. rw e)

  -- and its tags too
  narrowed-cut : zero_from n (narrowed (cells_from bytes start n)) ≡ narrowed (cells_from bytes start n)
  unfolding cells_from zero_from
  narrowed-cut =
      let long : length (narrowed (words_from bytes start n)) ≡ n = narrowed-length (words_from bytes start n) ∙ length-words bytes start n in
      let e : length (narrowed (words_from bytes start n) ++ replicate (8192 - n) 0) - n ≡ 8192 - n =
      rw (length-append, long, length-replicate) (omega arith) in
      rw (narrowed-padded (words_from bytes start n) (8192 - n), e, take_at (narrowed (words_from bytes start n)) (replicate (8192 - n) 0) n long)

  pub tags-left-same : (tags values table : List ℕ) (rule : ℕ) (conclusion : List ℕ) (a : Answer)
      → cells_left tags values table n rule conclusion a (narrowed (cells_from bytes start n)) ≡ narrowed (cells_from bytes start n)
  unfolding cells_left
  tags-left-same tags values table rule conclusion a =
      by-test (eqb rule 3 && not (eqb a.code 30)) (λ e. rw e narrowed-cut) (λ e. rw e)

pub made-ready : (bytes : List ℕ) (n steps room : ℕ) (checked : Answer) (tags values table : List ℕ) → Sized bytes n steps room
    → tags ≡ narrowed (cells_from bytes 2 n) → values ≡ cells_from bytes (2 + n) n → checked ≡ check_pool tags values table n
    → Ready bytes n steps room checked tags values table
made-ready bytes n steps room checked tags values table sized t v c =
    record { sized = sized; tags-are = t ∙ rw sized.n-is; values-are = v ∙ rw sized.n-is; checked-is = c }

-- ---- one step
module _ (bytes : List ℕ) (n steps room : ℕ) (checked : Answer) (tags₀ values₀ table : List ℕ) (ready : Ready bytes n steps room checked tags₀ values₀ table)
    (tags values : List ℕ) (same-tags : tags ≡ tags₀) (same-values : values ≡ values₀) where
  pub indexed-then : (index : List ℕ) → Indexed tags values n checked index → Indexed tags₀ values₀ n checked index
  indexed-then index i = rw (← same-tags, ← same-values) i

  module _ (k rule place : ℕ) (rule-is : rule ≡ word_at bytes (2 + 2 * n + k)) (place_is : place ≡ word_at bytes (2 + 2 * n + steps + k)) (a : Answer) (tags' values' : List ℕ)
      (step : Step tags values table n rule (place ∷ []) a tags' values') where
    pub answer-is : a ≡ answer_to bytes table k
    answer-is = cc (step.answer, file-answer bytes table k, ready.tags-are, ready.values-are, ready.sized.n-is, ready.sized.steps-are)

    pub tags-same : tags' ≡ tags₀
    tags-same = cc (step.tags-are, tags-left-same bytes 2 n ready.sized.n-fits tags values table rule (place ∷ []) a, ready.tags-are, ready.sized.n-is)

    pub values_same : values' ≡ values₀
    values_same = cc (step.values-are, left-same bytes (2 + n) n ready.sized.n-fits tags values table rule (place ∷ []) a, ready.values-are, ready.sized.n-is)

-- ---- the lines
pub lines_none : (bytes table out : List ℕ) → LinePut (lines bytes table 0) (44 * 0) 0 out 0 out
unfolding lines
lines_none bytes table out = record { end = refl; short = omega arith; out-is = refl }

module _ (bytes table : List ℕ) (k : ℕ) (out₀ : List ℕ) (at : ℕ) (out : List ℕ) (so_far : LinePut (lines bytes table k) (44 * k) 0 out₀ at out) where
  pub lines_next : (a : Answer) (r : ℕ) (out' : List ℕ) → a ≡ answer_to bytes table k → LinePut (line (k + 1) a) 44 at out r out'
      → LinePut (lines bytes table (k + 1)) (44 * (k + 1)) 0 out₀ r out'
  unfolding lines
  lines_next a r out' is p =
      let e : 44 * suc k ≡ 44 * k + 44 = omega arith in
      rw (add-one, e, ← is) (put-append so_far (rw add-one at p))
