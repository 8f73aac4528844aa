-- Laws of `file_text`, one for each way out of `answer_file`.
-- Assumes nothing.
use Prim.Native.Nat.{ℕ, ◌+◌, ◌*◌, ◌≤◌, ◌<◌}
use mathlib.Core.Path.{◌≡◌, ◌∙◌}
use mathlib.Core.List.{List}
use lib.ListN.{length, length-append}
use lib.Seq.{sets-eq}
use native.Mathlib.Omega.{arith}
use borrow.Author.Tests.{lt-ltb, le-ltb, eq-eqb, ne_eqb}
use Rattle.step_files.specs.Words.{word_at}
use Rattle.answers.specs.Answer.{ill_formed, bad_arrays}
use Rattle.answers.specs.declared.Answer.{Answer}
use Rattle.step_files.specs.StepFile.{file_text, lines, written, Answered}
use Rattle.step_files.specs.Text.{line, LinePut}
use Rattle.step_files.proofs.Accepted.{file-follows}

module _ (bytes table out : List ℕ) where
  pub file-unwritten : length out < 11264 → Answered bytes table out 0 out
  unfolding written
  file-unwritten h = record { end = rw (lt-ltb _ _ h); out-is = rw (lt-ltb _ _ h); follows = file-follows bytes table }

  module _ (room : 11264 ≤ length out) (r : ℕ) (out' : List ℕ) where
    file-written : (text : List ℕ) (most : ℕ) → LinePut text most 0 out r out' → most ≤ 11264 → text ≡ file_text bytes table → Answered bytes table out r out'
    unfolding written
    file-written text most p h e =
        let size : r ≡ length text = omega (arith, p.end) in
        let n : 0 + length text ≡ r = omega arith in
        record {
          end = rw (le-ltb _ _ room, ← e) size;
          out-is = rw (le-ltb _ _ room, ← e, ← n) (p.out-is ∙ sets-eq text out 0 (omega (arith, p.short)));
          follows = file-follows bytes table;
        }

    module _ (a : Answer) (p : LinePut (line 0 a) 44 0 out r out') where
      pub file-short : length bytes < 8 → a ≡ ill_formed 0 → Answered bytes table out r out'
      unfolding file_text
      file-short h is = file-written _ _ p (omega arith) (rw (lt-ltb _ _ h, is))

      module _ (h : 8 ≤ length bytes) (n : ℕ) (n-is : n ≡ word_at bytes 0) where
        pub file-cells : 8192 < n → a ≡ bad_arrays → Answered bytes table out r out'
        unfolding file_text
        file-cells g is = file-written _ _ p (omega arith) (rw (le-ltb _ _ h, lt-ltb 8192 (word_at bytes 0) (omega arith), is))

        module _ (steps : ℕ) (steps-are : steps ≡ word_at bytes 1) (g : n ≤ 8192) where
          pub file-steps : 256 < steps → a ≡ bad_arrays → Answered bytes table out r out'
          unfolding file_text
          file-steps f is =
              file-written _ _ p (omega arith)
              (rw (le-ltb _ _ h, le-ltb 8192 (word_at bytes 0) (omega arith), lt-ltb 256 (word_at bytes 1) (omega arith), is))

          pub file-length : steps ≤ 256 → (length bytes ≡ 4 * (2 + 2 * n + 2 * steps) → ⊥) → a ≡ ill_formed 0 → Answered bytes table out r out'
          unfolding file_text
          file-length f other is =
              file-written _ _ p (omega arith)
              (rw (
                le-ltb _ _ h,
                le-ltb 8192 (word_at bytes 0) (omega arith),
                le-ltb 256 (word_at bytes 1) (omega arith),
                ne_eqb (length bytes) (4 * (2 + 2 * word_at bytes 0 + 2 * word_at bytes 1)) (λ e. other (omega arith)),
                is,
              ))

    pub file-lines : 8 ≤ length bytes → (n steps : ℕ) → n ≡ word_at bytes 0 → steps ≡ word_at bytes 1 → n ≤ 8192 → steps ≤ 256
        → length bytes ≡ 4 * (2 + 2 * n + 2 * steps) → LinePut (lines bytes table steps) 11264 0 out r out' → Answered bytes table out r out'
    unfolding file_text
    file-lines h n steps n-is steps-are g f size p =
        file-written _ _ p (omega arith)
        (rw (
          le-ltb _ _ h,
          le-ltb 8192 (word_at bytes 0) (omega arith),
          le-ltb 256 (word_at bytes 1) (omega arith),
          eq-eqb (length bytes) (4 * (2 + 2 * word_at bytes 0 + 2 * word_at bytes 1)) (omega arith),
          steps-are,
        ))

pub ruleset file = (file-unwritten, file-short, file-cells, file-steps, file-length, file-lines)

-- what is written ends in the array
pub end_fits : {bytes table out : List ℕ} {r : ℕ} {out' : List ℕ} → Answered bytes table out r out' → r ≤ length out'
end_fits a = rw (a.out-is, length-append, ← a.end) (omega arith)
