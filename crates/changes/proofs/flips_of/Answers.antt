use Rattle.changes.proofs.Showing.{flips-ruined, flips-written, flips-erased}
use Rattle.changes.proofs.flips_of.Goals as goal

pub returns-then-is_ruined : goal.returns-then-is_ruined
returns-then-is_ruined c = flips-ruined _ (c.is_ruined.ensures.0 c.if-is_ruined.true)

pub returns-then-count-lt128 : goal.returns-then-count-lt128
returns-then-count-lt128 c = flips-written _ c.if-count-lt128.true

pub returns : goal.returns
returns c = flips-erased _ (c.is_ruined.ensures.1 c.if-is_ruined.false) c.if-count-lt128.false
