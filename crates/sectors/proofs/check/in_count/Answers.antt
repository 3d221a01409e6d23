use Rattle.sectors.proofs.Answering.{count_none, count-some}
use Rattle.sectors.proofs.check.in_count.Goals as goal

pub returns-then-count-eq0 : goal.returns-then-count-eq0
returns-then-count-eq0 c = count_none _ c.if-count-eq0.true

pub returns : goal.returns
returns c = count-some _ c.if-count-eq0.false
