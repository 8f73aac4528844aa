use Rattle.std.proofs.Common.{arith, rules, ◌≡◌, ◌≤◌, ap, length}
use Rattle.cells.proofs.HeaderLists.{none_left, one_left_cut}
use Rattle.std.proofs.Common.{◌∷◌}
use Rattle.cells.specs.HeadersLeft.{headers_left}
use Rattle.cells.proofs.header_places.HeaderPlacesIterator.next.Goals as goal

pub returns-then-self-p-clause-steps : goal.returns-then-self-p-clause-steps
returns-then-self-p-clause-steps c = (none_left _ _ _ c.if-self-p.true, none_left _ _ _ c.if-self-p.true)

one_header : (c : goal.After-self-1) → headers_left c.args.self.now ≡ c.args.self.now.next ∷ headers_left (record { values = c.args.self.now.values; n = c.args.self.now.n; next = c.saturating_add-self.result })
one_header c =
    let h : c.args.self.now.n ≤ 18446744073709551615 = omega arith in
    rw c.saturating_add-self.ensures (one_left_cut _ _ _ c.if-self-p.false _ c.cell-k.ensures _ h)

pub returns-clause-steps : goal.returns-clause-steps
returns-clause-steps c = one_header c

pub returns-clause-goes : goal.returns-clause-goes
returns-clause-goes c = let shorter = ap length (one_header c) in search rules
