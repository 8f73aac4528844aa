use Rattle.std.proofs.Common.{rules, arith, [], length, refl, ap, inl, inr}
use Rattle.std.proofs.lemmas.Option.{same_Some}
use lib.ListN.{take}
use lib.Dec.{eqb}
use borrow.Author.Tests.{eqb-true, eqb-false}
use Rattle.cells.specs.ByPlace.{by-test}
use Rattle.normal_form.specs.Promise.{ClauseListPromise}
use Rattle.tag_layouts.proofs.Calls.{clause-list-size, clause-list-room}
use Rattle.tag_layouts.proofs.Exits.{clause-list-kept, clause-list-written}
use Rattle.tag_layouts.proofs.Arrays.{lent-part}
use Rattle.word_tags.proofs.Refused.{clause-list-unlike, lists-left}
use Rattle.word_tags.proofs.clause_list.Goals as goal

pub write-requires-clause-fits : goal.write-requires-clause-fits
write-requires-clause-fits c k bytes r f' left-tags left same into w n e h =
    let (p, q) = w.shows in
    let (y, z) = w.leaves in
    let m = w.called.met in
    let f : ClauseListPromise (take k bytes) (take k c.args.values.now) c.args.table.now c.args.n c.args.t.0 c.args.literals.now c.args.ends.now r.answer r.count left-tags left f'.3.now f'.4.now = search rules in
    let long = clause-list-size c.args.tags.now c.args.values.now bytes same k into _ _ _ _ _ _ _ _ _ _ _ f.cells in
    let back = clause-list-room c.args.tags.now c.args.values.now bytes same k into _ _ _ _ _ _ _ _ _ _ _ f.cells [] h in
    (long, omega (arith, same_Some c.args.n n e, back.within, ap length (lent-part k left-tags [] long)))

pub returns : goal.returns
returns c =
    elim c.write.ensures [
      | inl u ↦ let (h, e, s, a, b) = u in clause-list-unlike (ap (λ l. l.answer) e) h a b (ap (λ l. l.count) e) (search rules) (search rules)
      | inr w ↦
          let (p, q) = w.leaves.shows in
          let (y, z) = w.leaves.leaves in
          let m = w.leaves.called.met in
          let f : ClauseListPromise (take w.k w.bytes) (take w.k c.args.values.now) c.args.table.now c.args.n c.args.t.0 c.args.literals.now c.args.ends.now c.write.result.answer c.write.result.count w.left-tags w.left c.write.new.call.3.now c.write.new.call.4.now = search rules in
          let written : ClauseListPromise c.args.tags.now c.args.values.now c.args.table.now c.args.n c.args.t.0 c.args.literals.now c.args.ends.now c.write.result.answer c.write.result.count c.write.new.tags c.write.new.values c.write.new.call.3.now c.write.new.call.4.now =
          by-test (eqb c.write.result.answer.code 30)
          (λ o.
          let e = eqb-true c.write.result.answer.code 30 o in
          let (t, v) = w.kept (λ n i. e) in
          rw (t, v) (clause-list-kept _ _ w.bytes w.k w.into w.same _ _ _ _ _ _ _ w.left-tags w.left _ _ f e))
          (λ o.
          let h = eqb-false c.write.result.answer.code 30 o in
          let (t, v) = w.back c.args.n refl h in
          clause-list-written _ _ w.bytes w.k w.into w.same _ _ _ _ _ _ _ w.left-tags w.left _ _ f h w.rest _ _ t v) in
          lists-left written (search rules) (search rules)
    ]
