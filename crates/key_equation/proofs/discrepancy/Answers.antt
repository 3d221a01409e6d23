use mathlib.Core.Path.{◌≡◌}
use Prim.Native.Nat.{suc}
use native.Mathlib.Omega.{arith}
use Rattle.key_equation.proofs.KeyEquation.{discrepancy-start, discrepancy-next}
use Rattle.key_equation.proofs.discrepancy.Goals as goal

pub loop-i-init : goal.loop-i-init
loop-i-init c = discrepancy-start _ _ _ _

pub product_by_tables-p-requires : goal.product_by_tables-p-requires
product_by_tables-p-requires c = record { tables = c.requires.tables; x_bound = (c.requires.elements.1.small _, c.requires.elements.0.small _) }

pub loop-i-preserved : goal.loop-i-preserved
loop-i-preserved c = discrepancy-next _ _ _ c.requires.elements.0 c.requires.elements.1 c.loop-i.invariant c.product_by_tables-p.ensures

pub returns : goal.returns
returns c = let e : c.loop-i.i ≡ suc c.args.len = omega arith in rw e at c.loop-i.invariant
