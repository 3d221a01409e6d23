use Rattle.rudderfig.proofs.Returns.{claim-accepted, claim-refused}
use Rattle.rudderfig.proofs.rudderfig_check_claim.Goals as goal

pub returns-in-Ok : goal.returns-in-Ok
returns-in-Ok c = claim-accepted c.check_claim.ensures c.in-Ok.is c.done.ensures

pub returns-in-Err : goal.returns-in-Err
returns-in-Err c = claim-refused c.check_claim.ensures c.in-Err.is c.refusal_number.ensures c.refused.ensures
