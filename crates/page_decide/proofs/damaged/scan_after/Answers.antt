use mathlib.Core.Path.{sym, ◌∙◌}
use Prim.Native.Nat.{◌+◌}
use native.Mathlib.Omega.{arith}
use Rattle.page_plan.proofs.Tables.{table-later}
use Rattle.page_decide.proofs.Scanning.{reached-one}
use Rattle.page_decide.proofs.damaged.scan_after.Goals as goal

pub returns-then-b-plan : goal.returns-then-b-plan
returns-then-b-plan c = let e = c.scan_of.ensures in
    (e.0, reached-one _ _ e.0 e.1 e.2 (omega arith) (λ k. absurd (omega arith)))

pub returns-then-known : goal.returns-then-known
returns-then-known c = let e = c.scan_of-then-known.ensures in
    let p = c.requires in
    (e.0, reached-one _ _ e.0 e.1 e.2 (let l = p.block_lt_blocks.0 in omega arith) (λ k. p.ready.1.ahead c.if-known.true))

pub scan_one-requires : goal.scan_one-requires
scan_one-requires c = let p = c.requires in
    record { ready = p.ready.0; block_lt_blocks = (let l = p.block_lt_blocks.0 in omega arith, table-later _ p.ready.0.plan _ (omega arith) (let l = p.block_lt_blocks.0 in omega arith) p.block_lt_blocks.1) }

pub scan_two-requires : goal.scan_two-requires
scan_two-requires c = let p = c.requires in
    let q = p.ready.0.plan in
    let l = p.block_lt_blocks.0 in
    let b = c.args.scan.block + 1 in
    let x = q.behind b (omega arith) (omega arith) in
    let y = q.behind (b + 1) (omega arith) (omega arith) in
    record { ready = p.ready.0; block_bound = (omega arith, table-later _ q b (omega arith) (omega arith) p.block_lt_blocks.1); block_value = (y.0 ∙ sym x.0, y.1 ∙ sym x.1) }
