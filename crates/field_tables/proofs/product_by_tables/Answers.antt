use native.Mathlib.Nat.{pos_of_ne-zero}
use native.Mathlib.Omega.{arith}
use Rattle.field.proofs.Primitive.{longest-below, element-below}
use Rattle.field_tables.proofs.Lookup.{product-zero-left, product-zero-right, product-lookup}
use Rattle.field_tables.proofs.product_by_tables.Goals as goal

pub returns-then-x-eq0 : goal.returns-then-x-eq0
returns-then-x-eq0 c = product-zero-left _ _ c.if-x-eq0.true

pub returns-then-y-eq0 : goal.returns-then-y-eq0
returns-then-y-eq0 c = product-zero-right _ _ c.if-y-eq0.true

pub bounds-logs-at_x : goal.bounds-logs-at_x
bounds-logs-at_x c = element-below _ c.requires.x_bound.0

pub overflow_cast-i : goal.overflow_cast-i
overflow_cast-i c = omega (arith, c.requires.tables.logs-below _ c.requires.x_bound.0, longest-below c.args.f)

pub bounds-logs-at_y : goal.bounds-logs-at_y
bounds-logs-at_y c = element-below _ c.requires.x_bound.1

pub overflow_cast-j : goal.overflow_cast-j
overflow_cast-j c = omega (arith, c.requires.tables.logs-below _ c.requires.x_bound.1, longest-below c.args.f)

pub overflow_add-i : goal.overflow_add-i
overflow_add-i c = omega (arith, c.requires.tables.logs-below _ c.requires.x_bound.0, c.requires.tables.logs-below _ c.requires.x_bound.1, longest-below c.args.f)

pub wrap-k-requires : goal.wrap-k-requires
wrap-k-requires c = omega (arith, c.requires.tables.logs-below _ c.requires.x_bound.0, c.requires.tables.logs-below _ c.requires.x_bound.1)

pub offset_bounds-powers-k : goal.offset_bounds-powers-k
offset_bounds-powers-k c = omega (arith, c.wrap-k.ensures.0, longest-below c.args.f)

pub bounds-powers-k : goal.bounds-powers-k
bounds-powers-k c = omega (arith, c.wrap-k.ensures.0, longest-below c.args.f)

pub returns : goal.returns
returns c = product-lookup _ c.requires.tables _ _ _ (pos_of_ne-zero c.if-x-eq0.false)
    (pos_of_ne-zero c.if-y-eq0.false)
    c.requires.x_bound.0 c.requires.x_bound.1 c.wrap-k.ensures.0 c.wrap-k.ensures.1
