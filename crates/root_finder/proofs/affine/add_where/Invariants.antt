use Rattle.std.proofs.Common.{◌≡◌, length}
use Rattle.root_finder.proofs.affine.add_where.Given as goal

abbrev pub invariant-loop-x : goal.invariant-loop-x
invariant-loop-x l = length l.x-items ≡ 16
