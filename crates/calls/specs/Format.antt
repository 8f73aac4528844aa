-- The layout of a call file, over the list of its bytes: u32 little-endian words. Blocks may stand first.
--     100, L, L entries     the table of sort rules in use (S-2)
--     102                   tags are lent as bytes (S-9)
-- Then eight words say what follows.
--     call, T, V, N, rule or place, polarity, X, Y; then T tags and V values, and in a call 0 the X places of the conclusion
-- Rests on step_files' Words and on the struct `Head`.
use Rattle.std.specs.Prelude.{ℕ, ◌+◌, ◌*◌, ◌≤◌, Bool, ◌&&◌, ◌||◌, cond, List, length, leb, eqb}
use Rattle.step_files.specs.Words.{word_at}
use Rattle.calls.specs.declared.call_files.Head.{Head}

-- block 100: whether it stands, its L, and its words
unfoldable pub has_table : List ℕ → Bool
has_table bytes = eqb (word_at bytes 0) 100

unfoldable pub entry_count : List ℕ → ℕ
entry_count bytes = cond (has_table bytes) (word_at bytes 1) 0

unfoldable pub table_words : List ℕ → ℕ
table_words bytes = cond (has_table bytes) (2 + entry_count bytes) 0

-- block 102 stands after it
unfoldable pub lent_in_bytes : List ℕ → Bool
lent_in_bytes bytes = eqb (word_at bytes (table_words bytes)) 102

unfoldable pub block_words : List ℕ → ℕ
block_words bytes = cond (lent_in_bytes bytes) (table_words bytes + 1) (table_words bytes)

-- of the bytes after the blocks
unfoldable pub head_of : List ℕ → Head
head_of bytes =
    record {
      call = word_at bytes 0;
      tags = word_at bytes 1;
      values = word_at bytes 2;
      n = word_at bytes 3;
      place = word_at bytes 4;
      polarity = word_at bytes 5;
      lent = word_at bytes 6;
      ends = word_at bytes 7;
    }

-- X: the places of the conclusion in a call 0, and the length of a lent array in the calls 2 and 4
unfoldable pub conclusion_count : Head → ℕ
conclusion_count head = cond (eqb head.call 0) head.lent 0

unfoldable pub lent_count : Head → ℕ
lent_count head = cond (eqb head.call 2 || eqb head.call 4) head.lent 0

-- Y: the length of the array of ends in a call 4
unfoldable pub ends_count : Head → ℕ
ends_count head = cond (eqb head.call 4) head.ends 0

-- each array has at most 9,000 elements, and the file ends with the last of those that stand in it
unfoldable pub is_whole : List ℕ → Head → Bool
is_whole bytes head =
    leb head.tags 9000 && (leb head.values 9000 && (leb (lent_count head) 9000 && (leb (ends_count head) 9000
    && (leb (conclusion_count head) 9000 && eqb (length bytes) (4 * (8 + head.tags + head.values + conclusion_count head))))))

-- the arrays' bounds as facts
pub record Bounded (head : Head) : Type 0 where
  pub tags : head.tags ≤ 9000
  pub values : head.values ≤ 9000
  pub lent : lent_count head ≤ 9000
  pub ends : ends_count head ≤ 9000
  pub conclusion : conclusion_count head ≤ 9000
