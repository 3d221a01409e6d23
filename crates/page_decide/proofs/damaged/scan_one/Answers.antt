use native.Mathlib.Omega.{arith}
use Rattle.page_decide.proofs.Scanning.{reached-one}
use Rattle.page_decide.proofs.damaged.scan_one.Goals as goal

pub returns : goal.returns
returns c = let e = c.scan_of.ensures in
    let p = c.requires in
    (e.0, reached-one _ _ e.0 e.1 e.2 (let l = p.block_lt_blocks.0 in omega arith) (λ k. c.block_remainder-remainder.ensures))
