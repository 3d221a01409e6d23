use Rattle.std.proofs.Common.{◌≡◌, length}
use Rattle.root_finder.proofs.affine.eliminate.Given as goal

abbrev pub invariant-loop-k : goal.invariant-loop-k
invariant-loop-k l = length l.rows ≡ 16
