use mathlib.Core.Path.{◌∙◌}
use native.Mathlib.Omega.{arith}
use Rattle.step_files.proofs.answer_lines.Decimals.{ten-digits}
use Rattle.step_files.proofs.answer_lines.Laws.{number_put}
use Rattle.step_files.proofs.answer_lines.put_number.Goals as goal

pub slice_bounds-copy_from_slice-end : goal.slice_bounds-copy_from_slice-end
slice_bounds-copy_from_slice-end c = omega (arith, ten-digits _ _ c.decimal-k.ensures.len (omega arith))

pub returns : goal.returns
returns c =
    let text = c.copy_from_slice.ensures.after ∙ c.decimal-k.ensures.digits in
    let ten = ten-digits _ _ c.decimal-k.ensures.len (omega arith) in
    number_put _ _ _ _ _ _ c.from.ensures c.decimal-k.ensures.len text (omega arith) c.requires (omega arith)
