use mathlib.Core.Path.{◌≡◌}
use native.Mathlib.Omega.{arith}
use Rattle.division_table.specs.Table.{four, ten, fourteen}
use Rattle.division_table.proofs.Filling.{wide-last, words-four, words-ten, words-fourteen}
use Rattle.division_table.proofs.fill.fill.Goals as goal

pub fill_wide-requires : goal.fill_wide-requires
fill_wide-requires c = (four, words-four, c.requires.1)

pub fill_wide-requires-then-used-eq10 : goal.fill_wide-requires-then-used-eq10
fill_wide-requires-then-used-eq10 c = (ten, words-ten, c.requires.1)

pub fill_wide-requires-else-used-eq10 : goal.fill_wide-requires-else-used-eq10
fill_wide-requires-else-used-eq10 c = (fourteen, words-fourteen, c.requires.1)

pub returns-else-used-eq10 : goal.returns-else-used-eq10
returns-else-used-eq10 c = let e : c.args.used ≡ 14 = wide-last c.requires.0 (λ h. omega arith) (λ h. omega arith) in
    rw e c.fill_wide-else-used-eq10.ensures
