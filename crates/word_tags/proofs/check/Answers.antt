use Rattle.std.proofs.Common.{rules, inl, inr, ap, ◌≡◌}
use Rattle.std.proofs.lemmas.Option.{none-some}
use lib.ListN.{take}
use Rattle.rules.specs.Step.{Step}
use Rattle.tag_layouts.proofs.Exits.{step-read, step-refused, step_cut}
use Rattle.word_tags.proofs.Refused.{step-unlike}
use Rattle.word_tags.proofs.check.Goals as goal

pub write-requires-clause-fits : goal.write-requires-clause-fits
write-requires-clause-fits c k bytes r f' left-tags left same into w n e h = absurd (none-some n e)

pub returns-then-rule-ne-CNF : goal.returns-then-rule-ne-CNF
returns-then-rule-ne-CNF c =
    elim c.write.ensures [
      | inl u ↦ let (h, e, s, a, b) = u in step-unlike (ap (λ l. l.answer) e) h a b
      | inr w ↦
          let (p, q) = w.leaves.shows in
          let (y, z) = w.leaves.leaves in
          let m = w.leaves.called in
          let (t, v) = w.kept (λ n e. absurd (none-some n e)) in
          rw (t, v) (step-read _ _ w.bytes w.k w.into w.same _ _ _ _ _ w.left-tags w.left (search rules) c.if-rule-ne-CNF.true)
    ]

pub returns-then-answer-eq30 : goal.returns-then-answer-eq30
returns-then-answer-eq30 c =
    elim c.write.ensures [
      | inl u ↦ let (h, e, s, a, b) = u in step-unlike (ap (λ l. l.answer) e) h a b
      | inr w ↦
          let (p, q) = w.leaves.shows in
          let (y, z) = w.leaves.leaves in
          let m = w.leaves.called in
          let (t, v) = w.kept (λ n e. absurd (none-some n e)) in
          rw (t, v) (step-refused _ _ w.bytes w.k w.into w.same _ _ _ _ _ w.left-tags w.left (search rules) c.if-answer-eq30.true)
    ]

pub returns : goal.returns
returns c =
    elim c.write.ensures [
      | inl u ↦ let e = ap (λ l. l.answer.code) u.1 in absurd (c.if-answer-eq30.false e)
      | inr w ↦
          let (p, q) = w.leaves.shows in
          let (y, z) = w.leaves.leaves in
          let m = w.leaves.called in
          let (t, v) = w.kept (λ n e. absurd (none-some n e)) in
          let f : Step (take w.k w.bytes) (take w.k c.args.values.now) c.args.table.now c.args.n c.args.rule c.args.conclusion.now c.write.result.answer w.left-tags w.left =
          search rules in
          let cut = rw (t, v) at c.cut_back.ensures in
          let builds : c.args.rule ≡ 3 = search rules in
          step_cut _ _ w.bytes w.k w.into w.same _ _ _ _ _ w.left-tags w.left f builds c.if-answer-eq30.false _ _ cut
    ]
