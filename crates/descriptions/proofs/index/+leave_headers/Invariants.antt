use Prim.Native.Nat.{◌-◌}
use Rattle.descriptions.proofs.index.+leave_headers.Given as goal

abbrev pub decreases-leave_headers : goal.decreases-leave_headers
decreases-leave_headers l = l.m - l.p
