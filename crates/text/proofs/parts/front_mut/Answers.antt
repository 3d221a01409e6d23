use native.Mathlib.Omega.{arith}
use lib.ListN.{length-take}
use Rattle.text.proofs.parts.front_mut.Goals as goal

pub slice_bounds-result-end : goal.slice_bounds-result-end
slice_bounds-result-end c = simp length-take (omega arith)
