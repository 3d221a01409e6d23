use mathlib.Core.Path.{◌≡◌}
use native.Mathlib.Omega.{arith}
use native.Mathlib.Numerals.{add-one}
use Rattle.split_test.proofs.Splitting.{reducing-start, reducing-next, reducing-end}
use Rattle.split_test.proofs.reduced.Goals as goal

pub loop-i-init : goal.loop-i-init
loop-i-init c = reducing-start _ _ _ c.requires.n_bound.2

pub clear-requires : goal.clear-requires
clear-requires c = record { tables = c.requires.tables; len_bound = (omega arith, rw (add-one c.args.n) c.requires.n_bound.1, c.loop-i.invariant.elements) }

pub loop-i-preserved : goal.loop-i-preserved
loop-i-preserved c = reducing-next _ (omega arith) c.loop-i.invariant (rw (add-one c.args.n) at c.clear.ensures)

pub returns : goal.returns
returns c = let e : c.loop-i.i ≡ c.args.n = omega arith in reducing-end _ (rw e at c.loop-i.invariant)
