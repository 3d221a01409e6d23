use mathlib.Core.Path.{refl}
use native.Mathlib.Omega.{arith}
use Rattle.division_table.proofs.Filling.{power_small}
use Rattle.division_table.proofs.fill.power.Goals as goal

pub returns : goal.returns
returns c = let m = power_small c.args.i c.requires refl in
    omega arith
