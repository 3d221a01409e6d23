use native.Mathlib.Omega.{arith}
use mathlib.Core.Path.{◌≡◌, refl, ◌∙◌}
use Rattle.table_rows.proofs.Rows.{rows_none}
use Rattle.division_table.proofs.Filling.{odd-room, no_less, less-eight, size-kept, power-fits, power-sixteen, even-most, odd-most, odd-after, odd-turn, odd-again, odd-start, one_more, cleared-only}
use Rattle.division_table.proofs.fill.odd_powers.Goals as goal

pub clear_row-requires : goal.clear_row-requires
clear_row-requires c = let p = c.requires in
    (p.0, odd-room _ p.0 p.1)

pub loop-i-init : goal.loop-i-init
loop-i-init c = let r = c.clear_row in
    (c.requires.0, size-kept r.auto.rows c.requires.1, refl, λ X zero_row small evens none. record { none = none; power = λ i h. absurd (no_less h) }, rows_none c.args.n 272 16 r.new.rows)

pub power-requires : goal.power-requires
power-requires c = less-eight c.loop-i-test.true

pub overflow_add-power : goal.overflow_add-power
overflow_add-power c = record { fits = power-fits 256 _ even-most (less-eight c.loop-i-test.true) c.power.ensures }

pub power-requires-in-loop-i : goal.power-requires-in-loop-i
power-requires-in-loop-i c = less-eight c.loop-i-test.true

pub overflow_add-power-in-loop-i : goal.overflow_add-power-in-loop-i
overflow_add-power-in-loop-i c = record { fits = power-fits 272 _ odd-most (less-eight c.loop-i-test.true) c.power-in-loop-i.ensures }

pub put_power-requires : goal.put_power-requires
put_power-requires c = odd-turn _ c.loop-i.i c.loop-i.invariant.0 c.loop-i-test.true c.power.ensures c.power-in-loop-i.ensures c.loop-i.invariant.1

pub loop-i-preserved : goal.loop-i-preserved
loop-i-preserved c = let r = c.put_power in
    let s = c.loop-i in
    let n = c.args.n in
    let h = c.loop-i-test.true in (
      s.invariant.0,
      size-kept r.auto.rows s.invariant.1,
      r.auto.rows ∙ s.invariant.2,
      λ X zero_row small evens none. odd-again n s.i h c.power.ensures c.power-in-loop-i.ensures r.ensures.0 r.ensures.1 s.invariant.4 zero_row small evens (s.invariant.3 X zero_row small evens none),
      one_more n 272 16 _ (power-sixteen s.i h c.power-in-loop-i.ensures) s.invariant.4 r.ensures.1,
    )

pub shape_of-table : goal.shape_of-table
shape_of-table c = c.loop-i.invariant.2 ∙ c.clear_row.auto.rows

pub returns : goal.returns
returns c = let s = c.loop-i in
    let n = c.args.n in
    let k = c.clear_row in
    let last : s.i ≡ 4 = omega arith in (
      λ X zero_row ex small evens.
          let o = odd-start n X 272 odd-after k.ensures.1 k.ensures.0 zero_row ex evens in
          rw last at (s.invariant.3 X o.0 small o.1 o.2),
      cleared-only n 272 k.ensures.1 s.invariant.4,
    )
