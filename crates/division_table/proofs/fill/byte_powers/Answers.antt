use mathlib.Core.Path.{◌≡◌, refl, ◌∙◌}
use native.Mathlib.Omega.{arith}
use borrow.Author.Rules.{rules}
use lib.ListN.{length}
use Rattle.table_rows.proofs.Rows.{rows_none}
use Rattle.division_table.proofs.Filling.{size-kept, one-room, byte-turn, byte_next, byte-only, byte-start, byte-both}
use Rattle.division_table.proofs.fill.byte_powers.Goals as goal

pub put_row-requires : goal.put_row-requires
put_row-requires c = let p = c.requires in
    (p.0, one-room _ p.0 p.1)

pub loop-i-init : goal.loop-i-init
loop-i-init c = let r = c.put_row in
    (size-kept r.auto.rows c.requires.1, refl, λ x small powers. powers, rows_none c.args.n 1 255 r.new.rows, c.requires.0)

pub put_power-requires : goal.put_power-requires
put_power-requires c = let s = c.loop-i in
    byte-turn _ s.i s.invariant.4 (omega arith) c.loop-i-test.true c.power.ensures c.power-in-loop-i.ensures s.invariant.0

pub loop-i-preserved : goal.loop-i-preserved
loop-i-preserved c = let r = c.put_power in
    let s = c.loop-i in
    let h = c.loop-i-test.true in (
      size-kept r.auto.rows s.invariant.0,
      r.auto.rows ∙ s.invariant.1,
      λ x small powers. byte_next _ x s.i small (omega arith) h c.power.ensures c.power-in-loop-i.ensures r.ensures.0 r.ensures.1 (s.invariant.2 x small powers),
      byte-only _ s.i h c.power-in-loop-i.ensures s.invariant.3 r.ensures.1,
      s.invariant.4,
    )

pub returns : goal.returns
returns c = let s = c.loop-i in
    let n = c.args.n in
    let l : length c.args.row.words ≡ 15 = search rules in
    let e : s.i ≡ 8 = omega arith in (
      λ none small. rw e at (s.invariant.2 _ small (byte-start n c.args.row.words l c.requires.0 small none c.put_row.ensures.0 c.put_row.ensures.1)),
      byte-both n c.put_row.ensures.1 s.invariant.3,
    )
