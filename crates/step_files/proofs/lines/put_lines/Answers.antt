use borrow.Author.Rules.{rules}
use mathlib.Core.Path.{refl, ◌∙◌}
use Rattle.step_files.proofs.lines.Laws.{answer-is, indexed-then, tags-same, values_same, lines_none, lines_next}
use Rattle.step_files.proofs.lines.put_lines.Goals as goal

pub loop-k-init : goal.loop-k-init
loop-k-init c = (refl, refl, refl, search rules, lines_none _ _ _)

pub loop-k-preserved : goal.loop-k-preserved
loop-k-preserved c =
    let here = c.loop-k.invariant in
    let step = rw here.2 at c.check_after-answer.ensures.step in
    let index = rw here.2 at c.check_after-answer.ensures.indexed_2 in (
      tags-same _ _ _ _ _ _ _ _ c.requires.ready _ _ here.0 here.1 _ _ _ c.word-rule.ensures c.word.ensures _ _ _ step,
      values_same _ _ _ _ _ _ _ _ c.requires.ready _ _ here.0 here.1 _ _ _ c.word-rule.ensures c.word.ensures _ _ _ step,
      c.check_after-answer.ensures.count ∙ here.2,
      indexed-then _ _ _ _ _ _ _ _ c.requires.ready _ _ here.0 here.1 _ index,
      lines_next _ _ _ _ _ _ here.4 _ _ _
          (answer-is _ _ _ _ _ _ _ _ c.requires.ready _ _ here.0 here.1 _ _ _ c.word-rule.ensures c.word.ensures _ _ _ step) c.put_line-at.ensures,
    )
