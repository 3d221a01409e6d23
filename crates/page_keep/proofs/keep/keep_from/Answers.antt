use Prim.Native.Nat.{◌-◌}
use mathlib.Core.Path.{refl, ◌∙◌}
use native.Mathlib.Omega.{arith}
use Rattle.page_decide.proofs.Deciding.{remembers-nothing}
use Rattle.page_keep.specs.Keeping.{PageDecided}
use Rattle.page_keep.proofs.Keeping.{underway-left, underway-reached, decided-room, underway-ruined, underway-next, underway-sound}
use Rattle.page_keep.proofs.keep.keep_from.Goals as goal

pub loop-at-init : goal.loop-at-init
loop-at-init c = (omega arith, c.requires.pending.underway, remembers-nothing _ _ c.nothing-last.ensures, refl)

pub decide_block-last-requires : goal.decide_block-last-requires
decide_block-last-requires c = let l = c.loop-at in
    let p = c.requires in
    let ready = p.pending.ready in
    record { ready = (ready, underway-left _ _ ready.plan l.invariant.1 c.loop-at-test.true, l.invariant.2); decoding = p.serves.each _ l.invariant.0 c.loop-at-test.true }

pub shape_of-places-then-is_ruined : goal.shape_of-places-then-is_ruined
shape_of-places-then-is_ruined c = c.loop-at.invariant.3

pub returns-then-is_ruined : goal.returns-then-is_ruined
unfolding PageDecided
returns-then-is_ruined c = let plan = c.requires.pending.ready.plan in
    underway-ruined _ _ plan c.loop-at.invariant.1 refl c.loop-at-test.true c.decide_block-last.ensures.at (c.is_ruined.ensures.0 c.if-is_ruined.true)

pub keep_block-requires : goal.keep_block-requires
keep_block-requires c = let u = c.loop-at.invariant.1 in
    let plan = c.requires.pending.ready.plan in
    let e = c.decide_block-last.ensures in
    record { block_bound = (omega (arith, c.loop-at-test.true, plan.few), e.size, decided-room _ _ plan c.loop-at-test.true e.at); block_in_bounds = (omega (arith, u.room, c.loop-at-test.true), u.flips-length) }

pub next_damaged-at-requires : goal.next_damaged-at-requires
next_damaged-at-requires c = let p = c.requires.pending in
    record { ready = (p.ready, underway-reached _ _ p.ready.plan c.loop-at.invariant.1); block_lt_blocks = (c.loop-at-test.true, p.table) }

pub loop-at-smaller : goal.loop-at-smaller
loop-at-smaller c = omega (arith, c.loop-at-test.true, c.next_damaged-at.ensures.low)

pub loop-at-preserved : goal.loop-at-preserved
loop-at-preserved c = let l = c.loop-at in
    let plan = c.requires.pending.ready.plan in
    let e = c.decide_block-last.ensures in (
      omega (arith, l.invariant.0, c.next_damaged-at.ensures.low),
      underway-next _ _ plan l.invariant.1 refl c.loop-at-test.true e.at (c.is_ruined.ensures.1 c.if-is_ruined.false) refl c.keep_block.ensures c.next_damaged-at.ensures,
      e.remembers,
      c.keep_block.ensures.places-length ∙ l.invariant.3,
    )

pub shape_of-places : goal.shape_of-places
shape_of-places c = c.loop-at.invariant.3

pub returns : goal.returns
unfolding PageDecided
returns c = let l = c.loop-at in
    underway-sound _ _ c.requires.pending.ready.plan l.invariant.1 c.loop-at-test.false
