use native.Mathlib.Omega.{arith}
use Rattle.field.proofs.Primitive.{longest-below, element-below}
use Rattle.field_tables.proofs.Lookup.{quotient-lookup}
use Rattle.field_tables.proofs.quotient.Goals as goal

pub bounds-logs-i : goal.bounds-logs-i
bounds-logs-i c = element-below _ c.requires.d_nonzero.1

pub overflow_cast-x : goal.overflow_cast-x
overflow_cast-x c = omega (arith, c.requires.tables.logs-below _ c.requires.d_nonzero.1, longest-below c.args.f)

pub bounds-logs-j : goal.bounds-logs-j
bounds-logs-j c = element-below _ c.requires.d_nonzero.3

pub overflow_cast-y : goal.overflow_cast-y
overflow_cast-y c = omega (arith, c.requires.tables.logs-below _ c.requires.d_nonzero.3, longest-below c.args.f)

pub overflow_sub-n : goal.overflow_sub-n
overflow_sub-n c = omega (arith, c.requires.tables.logs-below _ c.requires.d_nonzero.3)

pub overflow_add-x : goal.overflow_add-x
overflow_add-x c = omega (arith, c.requires.tables.logs-below _ c.requires.d_nonzero.1, longest-below c.args.f)

pub wrap-requires : goal.wrap-requires
wrap-requires c = omega (arith, c.requires.tables.logs-below _ c.requires.d_nonzero.1)

pub returns : goal.returns
returns c = let same = rw c.longest-n.ensures at c.wrap.ensures.1 in
    (c.wrap.ensures.0, quotient-lookup _ c.requires.tables _ _ _ c.requires.d_nonzero.0 c.requires.d_nonzero.1 c.requires.d_nonzero.2 c.requires.d_nonzero.3 same)
