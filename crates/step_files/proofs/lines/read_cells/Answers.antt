use Rattle.step_files.proofs.lines.Laws.{cells-from}
use borrow.Author.Rules.{rules}
use Rattle.step_files.proofs.lines.read_cells.Goals as goal

pub slice_bounds-read_words-end-2 : goal.slice_bounds-read_words-end-2
slice_bounds-read_words-end-2 c = search (cells-from, rules)

pub returns : goal.returns
returns c = search (cells-from, rules)
