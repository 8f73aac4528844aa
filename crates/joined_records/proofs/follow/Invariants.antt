use Rattle.std.proofs.Common.{◌≡◌, drop}
use Rattle.joined_records.specs.Records.{follow}
use Rattle.joined_records.proofs.follow.Given as goal

abbrev pub invariant-loop-pair : goal.invariant-loop-pair
invariant-loop-pair l = follow l.list l.right l.initial.s ≡ follow (drop l.pair-index l.list) l.right l.s
