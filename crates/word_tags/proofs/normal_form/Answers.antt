use Rattle.std.proofs.Common.{rules, arith, [], length, refl, ap, inl, inr}
use Rattle.std.proofs.lemmas.Option.{same_Some}
use lib.ListN.{take}
use lib.Dec.{eqb}
use borrow.Author.Tests.{eqb-true, eqb-false}
use Rattle.cells.specs.ByPlace.{by-test}
use Rattle.normal_form.specs.Promise.{NormalFormPromise}
use Rattle.tag_layouts.proofs.Calls.{normal-form-size, normal-form-room}
use Rattle.tag_layouts.proofs.Exits.{normal-form-kept, normal-form-written}
use Rattle.tag_layouts.proofs.Arrays.{lent-part}
use Rattle.word_tags.proofs.Refused.{normal-form-unlike}
use Rattle.word_tags.proofs.normal_form.Goals as goal

pub write-requires-clause-fits : goal.write-requires-clause-fits
write-requires-clause-fits c k bytes r f' left-tags left same into w n e h =
    let (p, q) = w.shows in
    let (y, z) = w.leaves in
    let m = w.called in
    let f : NormalFormPromise (take k bytes) (take k c.args.values.now) c.args.table.now c.args.n c.args.t.0 c.args.polarity r.answer left-tags left = search rules in
    let long = normal-form-size c.args.tags.now c.args.values.now bytes same k into _ _ _ _ _ _ _ f.cells in
    let back = normal-form-room c.args.tags.now c.args.values.now bytes same k into _ _ _ _ _ _ _ f.cells [] h in
    (long, omega (arith, same_Some c.args.n n e, back.within, ap length (lent-part k left-tags [] long)))

pub returns : goal.returns
returns c =
    elim c.write.ensures [
      | inl u ↦ let (h, e, s, a, b) = u in normal-form-unlike (ap (λ l. l.answer) e) h a b
      | inr w ↦
          let (p, q) = w.leaves.shows in
          let (y, z) = w.leaves.leaves in
          let m = w.leaves.called in
          let f : NormalFormPromise (take w.k w.bytes) (take w.k c.args.values.now) c.args.table.now c.args.n c.args.t.0 c.args.polarity c.write.result.answer w.left-tags w.left = search rules in
          by-test (eqb c.write.result.answer.code 30)
          (λ o.
          let e = eqb-true c.write.result.answer.code 30 o in
          let (t, v) = w.kept (λ n i. e) in
          rw (t, v) (normal-form-kept _ _ w.bytes w.k w.into w.same _ _ _ _ _ w.left-tags w.left f e))
          (λ o.
          let h = eqb-false c.write.result.answer.code 30 o in
          let (t, v) = w.back c.args.n refl h in
          normal-form-written _ _ w.bytes w.k w.into w.same _ _ _ _ _ w.left-tags w.left f h w.rest _ _ t v)
    ]
