use Rattle.bits.proofs.Runs.{run_length}
use Rattle.block_write.proofs.Encoding.{padded-put, padded-none}
use Rattle.block_write.proofs.write_block.Goals as goal

pub returns-then-pads-eq0 : goal.returns-then-pads-eq0
returns-then-pads-eq0 c = padded-none _ _ _ _ _ c.if-pads-eq0.true c.write_covered.ensures

pub returns : goal.returns
returns c = padded-put _ _ _ _ _ c.requires.1 (run_length _ _ _) c.write_covered.ensures c.fill_ones.ensures
