use Rattle.std.proofs.Common.{rules, ℕ, ◌≡◌, ◌+◌, ◌-◌, ◌≤◌, List, ◌++◌, length, take, ◌∙◌, sym, ap, subst, arith, length-take-le, take-take, take_at, drop_at, take-add}
use Rattle.std.proofs.lemmas.Slice.{take-put_mid}
use Rattle.std.proofs.KnownBytes.{Consumes-trans}
use Rattle.std.specs.Io.KnownBytes.{Consumes}
use borrow.Rule.Slice.PartMut.{put_mid}
use Rattle.step_files.proofs.inputs.read_full.Goals as goal

-- what is read into the rest of the buffer stands after its front
front-put_mid : (buf part : List ℕ) (d n : ℕ) → d ≤ length buf → length part ≡ length buf - d → n ≤ length part
    → take (d + n) (put_mid d (length buf - d) buf part) ≡ take d buf ++ take n part
front-put_mid buf part d n within long few =
    let k = length buf - d in
    let front = length-take-le d buf within in
    sym (take-take (d + n) (d + k) (put_mid d k buf part) (omega arith))
    ∙ ap (take (d + n)) (take-put_mid d k buf part (d + k) (omega arith) (omega arith))
    ∙ take-add d n (take d buf ++ part)
    ∙ (λ j. take_at (take d buf) part d front j ++ take n (drop_at (take d buf) part d front j))

pub loop-done-preserved : goal.loop-done-preserved
loop-done-preserved g c =
    let e = front-put_mid c.loop-done.buf c.read.new.buf c.loop-done.done c.in-Ok.n c.loop-done.invariant.0 (omega arith) c.in-Ok.ensures.bound.0 in
    (search rules, subst (Consumes _ _) (sym e) (Consumes-trans _ _ _ _ _ c.loop-done.invariant.1 c.in-Ok.ensures.bytes.0))
