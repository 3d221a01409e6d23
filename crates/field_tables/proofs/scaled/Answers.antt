use native.Mathlib.Omega.{arith}
use native.Mathlib.Nat.{pos_of_ne-zero}
use Rattle.field.proofs.Primitive.{longest-below, element-below}
use Rattle.field_tables.proofs.Lookup.{product-zero-left, scaled-lookup}
use Rattle.field_tables.proofs.scaled.Goals as goal

pub returns-then-x-eq0 : goal.returns-then-x-eq0
returns-then-x-eq0 c = product-zero-left _ _ c.if-x-eq0.true

pub bounds-logs-i : goal.bounds-logs-i
bounds-logs-i c = element-below _ c.requires.x_bound.0

pub overflow_cast-l : goal.overflow_cast-l
overflow_cast-l c = omega (arith, c.requires.tables.logs-below _ c.requires.x_bound.0, longest-below c.args.f)

pub overflow_add-l : goal.overflow_add-l
overflow_add-l c = omega (arith, c.requires.tables.logs-below _ c.requires.x_bound.0, longest-below c.args.f)

pub wrap-k-requires : goal.wrap-k-requires
wrap-k-requires c = omega (arith, c.requires.tables.logs-below _ c.requires.x_bound.0)

pub offset_bounds-powers-k : goal.offset_bounds-powers-k
offset_bounds-powers-k c = omega (arith, c.wrap-k.ensures.0, longest-below c.args.f)

pub bounds-powers-k : goal.bounds-powers-k
bounds-powers-k c = omega (arith, c.wrap-k.ensures.0, longest-below c.args.f)

pub returns : goal.returns
returns c = let w = c.wrap-k.ensures in
    scaled-lookup _ c.requires.tables _ _ _ (pos_of_ne-zero c.if-x-eq0.false) c.requires.x_bound.0 w.0 w.1
