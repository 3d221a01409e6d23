use mathlib.Core.Path.{refl}
use native.Mathlib.Omega.{arith}
use Rattle.page_decide.proofs.Deciding.{later-field}
use Rattle.page_keep.specs.Keeping.{PageDecided}
use Rattle.page_keep.proofs.Keeping.{underway-left, underway-reached, decided-room, underway-ruined, underway-next, underway-sound}
use Rattle.page_keep.proofs.keep.keep_lent.Goals as goal

pub keep_alike-requires : goal.keep_alike-requires
keep_alike-requires c = let p = c.requires in
    record { pending = p.pending; one_field = (c.apart-own.ensures.0 c.if-not-own.true, p.block_lt_blocks.1, p.block_lt_blocks.2, p.block_lt_blocks.3) }

pub decide_lent-decided-requires : goal.decide_lent-decided-requires
decide_lent-decided-requires c = let p = c.requires in
    record { ready = (p.pending.ready, underway-left _ _ p.pending.ready.plan p.pending.underway p.block_lt_blocks.0); powers_len = (p.block_lt_blocks.1, p.block_lt_blocks.2, p.block_lt_blocks.3) }

pub returns-then-is_ruined : goal.returns-then-is_ruined
unfolding PageDecided
returns-then-is_ruined c = let p = c.requires in
    let plan = p.pending.ready.plan in
    let e = c.apart-own.ensures.1 c.if-not-own.false in
    underway-ruined _ _ plan p.pending.underway e plan.some (rw e at c.decide_lent-decided.ensures.block_decided.at) (c.is_ruined.ensures.0 c.if-is_ruined.true)

pub keep_block-requires : goal.keep_block-requires
keep_block-requires c = let p = c.requires in
    let u = p.pending.underway in
    let e = c.decide_lent-decided.ensures.block_decided in
    record { block_bound = (omega arith, e.size, decided-room _ _ p.pending.ready.plan p.block_lt_blocks.0 e.at); block_in_bounds = (omega (arith, u.room, p.pending.ready.plan.some), u.flips-length) }

pub next_damaged-next-requires : goal.next_damaged-next-requires
next_damaged-next-requires c = let p = c.requires in
    record { ready = (p.pending.ready, underway-reached _ _ p.pending.ready.plan p.pending.underway); block_lt_blocks = (p.block_lt_blocks.0, p.pending.table) }

pub returns-then-block-plan : goal.returns-then-block-plan
unfolding PageDecided
returns-then-block-plan c = let p = c.requires in
    let plan = p.pending.ready.plan in
    let e = c.apart-own.ensures.1 c.if-not-own.false in
    underway-sound _ _ plan
    (underway-next _ _ plan p.pending.underway e plan.some (rw e at c.decide_lent-decided.ensures.block_decided.at) (c.is_ruined.ensures.1 c.if-is_ruined.false) refl c.keep_block.ensures
    (rw e at c.next_damaged-next.ensures)) (omega arith)

pub keep_alike-requires-2 : goal.keep_alike-requires-2
keep_alike-requires-2 c = let p = c.requires in
    let plan = p.pending.ready.plan in
    let e = c.apart-own.ensures.1 c.if-not-own.false in
    record {
      pending = record {
        ready = p.pending.ready;
        table = p.pending.table;
        underway = underway-next _ _ plan p.pending.underway e plan.some (rw e at c.decide_lent-decided.ensures.block_decided.at) (c.is_ruined.ensures.1 c.if-is_ruined.false) refl
            c.keep_block.ensures (rw e at c.next_damaged-next.ensures);
      };
      one_field = (later-field _ _ plan (omega (arith, c.next_damaged-next.ensures.low)), c.decide_lent-decided.ensures.powers_len_2.0, c.decide_lent-decided.ensures.powers_len_2.1, c.decide_lent-decided.ensures.powers_len_2.2);
    }
