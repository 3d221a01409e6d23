use Rattle.rudderfig.proofs.Returns.{judge-flips, judge-refused}
use Rattle.rudderfig.proofs.rudderfig_judge_block.Goals as goal

pub returns-in-Ok : goal.returns-in-Ok
returns-in-Ok c = judge-flips c.judge_block.ensures c.in-Ok.is c.done.ensures

pub returns-in-Err : goal.returns-in-Err
returns-in-Err c = judge-refused c.judge_block.ensures c.in-Err.is c.refused_by.ensures
