-- 31 of the normal form's call is exact: by what is built, and not by the pool as it was. Each line is shown by computation.
--
--     term    polarity    cells of the arrays    answer
--     x       false       7                      accepted: (not x) at 4, 7 cells
--     x       false       6                      31
--     x       true        4                      accepted: x itself, nothing is built
--
-- x is a variable of sort Bool at 1, in a pool of 4 cells.
-- Rests on answers' Answer, on cells' Bounded, ByPlace, Cell and Headers, on headers' WellFormed, on descriptions' Description, on sorts'
-- SortRule, on sort_table's Table and TableAnswer, on pool's Check, on formulas' Formula and Built, on building's Arrays, and on Calls.
use Rattle.std.specs.Prelude.{◌≡◌, refl, true, false, [], ◌∷◌}
use Rattle.cells.specs.Bounded.{every_in, every}
use Rattle.cells.specs.ByPlace.{down_to, by_place}
use Rattle.cells.specs.Cell.{cells_of, sort_of, operands_of, same_cells, is_at}
use Rattle.cells.specs.Headers.{first_in, first_from, first_header}
use Rattle.headers.specs.WellFormed.{shape_of, count_fits, pair_kind, kind_at, is_sort_tag, is_term_tag, is_term, value_fits, cell_fits, bool_first, header_fits, first_bad}
use Rattle.descriptions.specs.Description.{find, repeats, first_repeat}
use Rattle.sorts.specs.SortRule.{is_sort, by_rule, compute_sort, states_sort, first_wrong_sort}
use Rattle.sort_table.specs.Table.{built_in}
use Rattle.sort_table.specs.TableAnswer.{first_entry, forbids, is_connective, loses_bool, table_answer}
use Rattle.answers.specs.Answer.{accepted}
use Rattle.pool.specs.Check.{arrays_fit, check_cells, check_pool, and_then, check_term}
use Rattle.formulas.specs.Formula.{all_before, connective, quantifier, view_of, form_by, form}
use Rattle.formulas.specs.Built.{put, intern, normal_form}
use Rattle.building.specs.Arrays.{fits}
use Rattle.normal_form.specs.Calls.{no_room, normal_answer}

pub room-for-it : normal_answer (1 ∷ 21 ∷ 0 ∷ 0 ∷ 9 ∷ 9 ∷ 9 ∷ []) (0 ∷ 2 ∷ 0 ∷ 1 ∷ 9 ∷ 9 ∷ 9 ∷ []) built_in 4 1 false ≡ accepted 4 7
unfolding normal_answer and_then check_term check_pool arrays_fit table_answer first_entry forbids loses_bool is_connective check_cells first_bad first_repeat first_wrong_sort first_header first_from first_in header_fits bool_first cell_fits value_fits kind_at pair_kind count_fits shape_of is_sort_tag is_term_tag is_term every every_in repeats find is_at same_cells cells_of sort_of operands_of states_sort compute_sort by_rule is_sort built_in fits normal_form form by_place down_to form_by view_of connective quantifier all_before intern put
room-for-it = refl

pub a-cell-short : normal_answer (1 ∷ 21 ∷ 0 ∷ 0 ∷ 9 ∷ 9 ∷ []) (0 ∷ 2 ∷ 0 ∷ 1 ∷ 9 ∷ 9 ∷ []) built_in 4 1 false ≡ no_room
unfolding normal_answer and_then check_term check_pool arrays_fit table_answer first_entry forbids loses_bool is_connective check_cells first_bad first_repeat first_wrong_sort first_header first_from first_in header_fits bool_first cell_fits value_fits kind_at pair_kind count_fits shape_of is_sort_tag is_term_tag is_term every every_in repeats find is_at same_cells cells_of sort_of operands_of states_sort compute_sort by_rule is_sort built_in fits normal_form form by_place down_to form_by view_of connective quantifier all_before intern put
a-cell-short = refl

pub nothing-built : normal_answer (1 ∷ 21 ∷ 0 ∷ 0 ∷ []) (0 ∷ 2 ∷ 0 ∷ 1 ∷ []) built_in 4 1 true ≡ accepted 1 4
unfolding normal_answer and_then check_term check_pool arrays_fit table_answer first_entry forbids loses_bool is_connective check_cells first_bad first_repeat first_wrong_sort first_header first_from first_in header_fits bool_first cell_fits value_fits kind_at pair_kind count_fits shape_of is_sort_tag is_term_tag is_term every every_in repeats find is_at same_cells cells_of sort_of operands_of states_sort compute_sort by_rule is_sort built_in fits normal_form form by_place down_to form_by view_of connective quantifier all_before intern put
nothing-built = refl
