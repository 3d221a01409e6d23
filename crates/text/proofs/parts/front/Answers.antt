use mathlib.Core.Path.{sym}
use native.Mathlib.Omega.{arith}
use lib.ListN.{length-take}
use lib.Seq.{take_all}
use Rattle.text.proofs.parts.front.Goals as goal

pub returns-then-items-n : goal.returns-then-items-n
returns-then-items-n g c = sym (take_all _ _ c.if-items-n.true)

pub slice_bounds-result-end : goal.slice_bounds-result-end
slice_bounds-result-end g c = simp length-take (omega arith)
