use mathlib.Core.Path.{sym, ap, ◌∙◌}
use native.Mathlib.Omega.{arith}
use lib.ListN.{length}
use Rattle.page_theory.proofs.Reading.{counts-length}
use Rattle.page_decide.proofs.Deciding.{later-field}
use Rattle.page_counts.proofs.Looking.{underway-left, underway-reached, underway-next, underway-end}
use Rattle.page_counts.proofs.count_damaged.Goals as goal

pub count_alike-requires : goal.count_alike-requires
count_alike-requires c = record { pending = c.requires.pending; one_field = c.apart-own.ensures.0 c.if-not-own.true }

pub decide_alone-decided-requires : goal.decide_alone-decided-requires
decide_alone-decided-requires c = let p = c.requires in
    (p.pending.ready, underway-left _ _ p.pending.ready.plan p.pending.underway p.block_lt_blocks)

pub bounds-counts-0 : goal.bounds-counts-0
bounds-counts-0 c = let p = c.requires.pending in
    omega (arith, p.underway.size, p.ready.plan.some)

pub next_damaged-next-requires : goal.next_damaged-next-requires
next_damaged-next-requires c = let p = c.requires in
    record { ready = (p.pending.ready, underway-reached _ _ p.pending.ready.plan p.pending.underway); block_lt_blocks = (p.block_lt_blocks, p.pending.table) }

pub returns-then-block-plan : goal.returns-then-block-plan
returns-then-block-plan c = let p = c.requires in
    let plan = p.pending.ready.plan in
    let e = c.apart-own.ensures.1 c.if-not-own.false in
    underway-end _ _ plan
    (underway-next _ _ plan p.pending.underway e plan.some (rw e at c.decide_alone-decided.ensures.at) (rw e at c.next_damaged-next.ensures)) (omega arith)

pub count_alike-requires-2 : goal.count_alike-requires-2
count_alike-requires-2 c = let p = c.requires in
    let plan = p.pending.ready.plan in
    let e = c.apart-own.ensures.1 c.if-not-own.false in
    record {
      pending = record {
        ready = p.pending.ready;
        table = p.pending.table;
        underway = underway-next _ _ plan p.pending.underway e plan.some (rw e at c.decide_alone-decided.ensures.at) (rw e at c.next_damaged-next.ensures);
      };
      one_field = later-field _ _ plan (omega (arith, c.next_damaged-next.ensures.low));
    }

pub shape_of-counts : goal.shape_of-counts
shape_of-counts c = let p = c.requires.pending in
    ap length c.count_alike-2.ensures ∙ counts-length _ _ ∙ sym p.underway.size
