use Rattle.layout_plan.proofs.SectorPlans.{one-sector, more-sectors}
use Rattle.layout_plan.proofs.sector_sums.sectors_layout.Goals as goal

pub returns-then-sectors-eq1 : goal.returns-then-sectors-eq1
returns-then-sectors-eq1 c = one-sector _ c.field_of-field.ensures c.sector_shape-last.ensures.eq c.if-sectors-eq1.true c.sectors_plan-plan.ensures

pub returns : goal.returns
returns c = more-sectors _ c.field_of-field.ensures c.sector_shape-last.ensures.eq c.if-sectors-eq1.false
    c.sector_shape-own.ensures.eq c.sectors_plan-plan-2.ensures
