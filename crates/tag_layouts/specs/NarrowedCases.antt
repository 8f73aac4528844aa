-- Why the correspondence rests on the order of the checks, by computation: 15 alone and 16 alone do tell a list of tags from its narrowed one.
-- 01, "What stops a step": "Checks run 30, 14, 15, 16, ..", so that 14 has refused such a list.
-- Rests on cells' Bounded, Cell and Headers, on headers' WellFormed, on descriptions' Description, on sorts' SortRule, on pool's Check, and on
-- Narrowed.
use Rattle.std.specs.Prelude.{ℕ, ◌≡◌, refl, List, [], ◌∷◌, replicate, Some, None}
use Rattle.cells.specs.Bounded.{every_in, every}
use Rattle.cells.specs.Cell.{cells_of, sort_of, operands_of, same_cells, is_at}
use Rattle.cells.specs.Headers.{first_in, first_from, first_header}
use Rattle.headers.specs.WellFormed.{shape_of, count_fits, is_term_tag, bool_first, header_fits, first_bad}
use Rattle.descriptions.specs.Description.{find, repeats, first_repeat}
use Rattle.sorts.specs.SortRule.{is_sort, special_of, by_special, by_rule, compute_sort, states_sort, first_wrong_sort}
use Rattle.pool.specs.Check.{check_cells}
use Rattle.tag_layouts.specs.Narrowed.{narrow, narrowed}

-- two headers with tags that are none's
abbrev tags : List ℕ
tags = 1 ∷ 200 ∷ 201 ∷ []

abbrev values : List ℕ
values = 0 ∷ 0 ∷ 0 ∷ []

pub tags-narrow : narrowed tags ≡ 1 ∷ 255 ∷ 255 ∷ []
unfolding narrowed narrow
tags-narrow = refl

-- 15 alone finds no repeat in the one, and one in the other
pub no-repeat : first_repeat tags values 3 ≡ None
unfolding first_repeat repeats find first_header first_from first_in is_at same_cells cells_of
no-repeat = refl

pub repeat : first_repeat (narrowed tags) values 3 ≡ Some 2
unfolding narrowed narrow first_repeat repeats find first_header first_from first_in is_at same_cells cells_of
repeat = refl

-- 14 comes first, and finds the same header in both
pub both-refused : check_cells (narrowed tags) values [] 3 ≡ check_cells tags values [] 3
unfolding narrowed narrow check_cells first_bad header_fits bool_first count_fits shape_of every every_in first_header first_from first_in
both-refused = refl

-- 16 alone: a table that has a rule for tag 200 and none for tag 255
abbrev operator : List ℕ
operator = 1 ∷ 200 ∷ 0 ∷ []

abbrev cells : List ℕ
cells = 0 ∷ 1 ∷ 0 ∷ []

abbrev table : List ℕ
table = replicate 169 0

pub no-wrong : first_wrong_sort operator cells table 3 ≡ None
unfolding first_wrong_sort states_sort compute_sort is_sort by_rule first_header first_from first_in is_term_tag sort_of operands_of is_at same_cells cells_of
no-wrong = refl

pub wrong : first_wrong_sort (narrowed operator) cells table 3 ≡ Some 1
unfolding narrowed narrow first_wrong_sort states_sort compute_sort is_sort by_rule by_special special_of first_header first_from first_in is_term_tag sort_of operands_of is_at same_cells cells_of
wrong = refl
