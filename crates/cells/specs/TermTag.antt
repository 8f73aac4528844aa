-- Which tags are terms' and which places.
-- 01, "Pool, from src/ast/term.rs": the tags of sorts and terms.
-- Rests on the library alone.
use Rattle.std.specs.Prelude.{ℕ, Bool, ◌&&◌, List, get_or, leb, ltb}

unfoldable pub is_term_tag : ℕ → Bool
is_term_tag tag = leb 16 tag

-- t is the place of a term of a well-formed pool
unfoldable pub is_term : List ℕ → ℕ → ℕ → Bool
is_term tags n t = ltb t n && is_term_tag (get_or tags t 0)
