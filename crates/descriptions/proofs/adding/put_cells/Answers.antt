use Rattle.std.proofs.Common.{arith, ◌≡◌, ◌+◌, ◌-◌, length, refl}
use Rattle.descriptions.proofs.description.Laws.{filled, cells-put}
use Rattle.descriptions.proofs.adding.put_cells.Goals as goal

pub returns : goal.returns
returns c =
    let k : c.args.at + length c.args.cells.now - c.args.at ≡ length c.args.cells.now = omega arith in
    rw k
    (cells-put _ _ _ _ _ _ _ (omega arith) (omega arith) refl
    (filled c.args.at (length c.args.cells.now) c.args.tags.now _ (omega arith) (rw k at (c.fill.ensures.after (λ y e. e))))
    c.copy_cells.ensures)
