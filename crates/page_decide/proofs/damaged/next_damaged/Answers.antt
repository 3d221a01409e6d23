use Prim.Native.Nat.{◌-◌}
use native.Mathlib.Omega.{arith}
use borrow.Author.Rules.{rules}
use Rattle.page_decide.proofs.Scanning.{scanned-found, clean-next, scanned-end}
use Rattle.page_decide.proofs.damaged.next_damaged.Goals as goal

pub loop-at-init : goal.loop-at-init
loop-at-init c = (search rules, c.scan_after-at.ensures.1, λ k l m. absurd (omega arith))

pub returns-then-not-clean : goal.returns-then-not-clean
returns-then-not-clean c = let i = c.loop-at.invariant in
    rw (← c.scan_after-at.ensures.0) (scanned-found _ _ _ i.0 i.1 i.2 c.is_zero-clean.ensures c.if-not-clean.true-raw)

pub scan_after-at-requires-in-loop-at : goal.scan_after-at-requires-in-loop-at
scan_after-at-requires-in-loop-at c = let p = c.requires in
    record { ready = (p.ready.0, c.loop-at.invariant.1); block_lt_blocks = (search rules, p.block_lt_blocks.1) }

pub loop-at-smaller : goal.loop-at-smaller
loop-at-smaller c = let e = c.scan_after-at-in-loop-at.ensures.0 in omega arith

pub loop-at-preserved : goal.loop-at-preserved
loop-at-preserved c = let i = c.loop-at.invariant in
    let e = c.scan_after-at-in-loop-at.ensures in
    let l = e.0 in (
      omega arith,
      e.1,
      rw l (clean-next _ _ _ i.2 (i.1.left (omega arith)) c.is_zero-clean.ensures c.if-not-clean.false-raw),
    )

pub returns : goal.returns
returns c = let i = c.loop-at.invariant in
    rw (← c.scan_after-at.ensures.0) (scanned-end _ _ i.0 (omega arith) i.1 i.2)
