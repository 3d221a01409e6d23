use mathlib.Core.Path.{◌≡◌}
use native.Mathlib.Omega.{arith}
use Rattle.algebra.proofs.Array.{holds-start}
use Rattle.key_equation.proofs.shortest.Goals as goal

pub loop-h-init : goal.loop-h-init
loop-h-init c = holds-start _ _ _

pub step-r-requires : goal.step-r-requires
step-r-requires c = record { tables = c.requires.tables; h_lt_t = (omega arith, c.requires.t_bound.0, c.requires.t_bound.1); holds = c.loop-h.invariant }

pub loop-h-preserved : goal.loop-h-preserved
loop-h-preserved c = c.step-r.ensures

pub returns : goal.returns
returns c = let e : c.loop-h.h ≡ c.args.t = omega arith in rw e at c.loop-h.invariant
