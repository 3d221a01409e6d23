use mathlib.Core.Path.{◌≡◌}
use native.Mathlib.Omega.{arith}
use Rattle.root_search.proofs.Search.{value-at-start, value-at-next}
use Rattle.root_search.proofs.value_at.Goals as goal

pub loop-i-init : goal.loop-i-init
loop-i-init c = value-at-start _ _ c.requires.len_bound.2

pub scaled-q-requires : goal.scaled-q-requires
scaled-q-requires c = record { tables = c.requires.tables; x_bound = (c.loop-i.invariant.low, c.requires.len_bound.1) }

pub loop-i-preserved : goal.loop-i-preserved
loop-i-preserved c = value-at-next _ _ _ c.requires.len_bound.2 c.loop-i.invariant c.scaled-q.ensures

pub returns : goal.returns
returns c = let e : c.loop-i.i ≡ c.args.len = omega arith in rw e at c.loop-i.invariant
