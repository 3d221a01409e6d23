use Prim.Native.Nat.{◌-◌}
use mathlib.Core.Path.{refl}
use native.Mathlib.Omega.{arith}
use Rattle.page_decide.proofs.Deciding.{remembers-nothing}
use Rattle.page_counts.proofs.Looking.{underway-left, underway-reached, underway-next, underway-end}
use Rattle.page_counts.proofs.count_from.Goals as goal

pub loop-at-init : goal.loop-at-init
loop-at-init c = (omega arith, c.requires.pending.underway, remembers-nothing _ _ c.nothing-last.ensures)

pub decide_block-last-requires : goal.decide_block-last-requires
decide_block-last-requires c = let l = c.loop-at in
    let p = c.requires in
    let ready = p.pending.ready in
    record { ready = (ready, underway-left _ _ ready.plan l.invariant.1 c.loop-at-test.true, l.invariant.2); decoding = p.serves.each _ l.invariant.0 c.loop-at-test.true }

pub bounds-counts-i : goal.bounds-counts-i
bounds-counts-i c = omega (arith, c.loop-at-test.true, c.loop-at.invariant.1.size)

pub next_damaged-at-requires : goal.next_damaged-at-requires
next_damaged-at-requires c = let p = c.requires.pending in
    record { ready = (p.ready, underway-reached _ _ p.ready.plan c.loop-at.invariant.1); block_lt_blocks = (c.loop-at-test.true, p.table) }

pub loop-at-smaller : goal.loop-at-smaller
loop-at-smaller c = omega (arith, c.loop-at-test.true, c.next_damaged-at.ensures.low)

pub loop-at-preserved : goal.loop-at-preserved
loop-at-preserved c = let l = c.loop-at in
    let plan = c.requires.pending.ready.plan in
    let d = c.decide_block-last.ensures in (
      omega (arith, l.invariant.0, c.next_damaged-at.ensures.low),
      underway-next _ _ plan l.invariant.1 refl c.loop-at-test.true d.at c.next_damaged-at.ensures,
      d.remembers,
    )

pub returns : goal.returns
returns c = let l = c.loop-at in
    underway-end _ _ c.requires.pending.ready.plan l.invariant.1 c.loop-at-test.false
