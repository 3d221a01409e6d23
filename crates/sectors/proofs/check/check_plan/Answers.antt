use Rattle.std.proofs.lemmas.Result.{err_from_is_err_and}
use Rattle.sectors.proofs.Answering.{kept-found, broken-found}
use Rattle.sectors.proofs.check.check_plan.Goals as goal

pub returns-in_err-finding_of : goal.returns-in_err-finding_of
returns-in_err-finding_of c = let p = err_from_is_err_and c.from_residual.result c.from_residual.ensures.1 in
    rw (p.1, p.2) (broken-found _ c.sectors_layout-layout.ensures c.sector_fields.ensures c.plan_of.ensures c.finding_of.ensures c.in_err-finding_of.was)

pub returns : goal.returns
returns c = kept-found _ c.sectors_layout-layout.ensures c.sector_fields.ensures c.plan_of.ensures c.finding_of.ensures c.in_ok-finding_of.was
