use Prim.Native.Nat.{◌+◌, ◌^◌, ◌*◌}
use mathlib.Core.Path.{◌≡◌, refl, ◌∙◌}
use native.Mathlib.Omega.{arith}
use borrow.Author.Rules.{rules}
use lib.ListN.{length}
use Rattle.table_rows.proofs.Rows.{rows_none}
use Rattle.code.specs.Register.{low}
use Rattle.remainder.proofs.Words.{low-lt}
use Rattle.division_table.proofs.Filling.{wide-two, wide-most, wide-degree, divisor-monic, divisor-below, row-whole, even-room, divisor-room, less-eight, less-eight-before, size-kept, power-fits, power-sixteen, even-most, digit-place, place_inside, digit-fits, digit-small, digit-sum-fits, even-turn, even-next, even-start, one_more, both-only}
use Rattle.division_table.proofs.fill.even_powers.Goals as goal

pub clear_row-requires : goal.clear_row-requires
clear_row-requires c = let p = c.requires in
    (p.2, even-room _ p.2 p.3)

pub divisor_wide-whole-requires : goal.divisor_wide-whole-requires
divisor_wide-whole-requires c = wide-most c.requires.0

pub put_row-requires : goal.put_row-requires
put_row-requires c = let p = c.requires in
    (p.2, divisor-room _ p.2 (size-kept c.clear_row.auto.rows p.3))

pub loop-i-init : goal.loop-i-init
loop-i-init c = let r = c.put_row in (
  c.requires.1,
  c.requires.2,
  c.requires.0,
  size-kept r.auto.rows (size-kept c.clear_row.auto.rows c.requires.3),
  refl,
  λ g monic powers. powers,
  rows_none c.args.n 256 16 r.new.rows,
)

pub power-from-requires : goal.power-from-requires
power-from-requires c = less-eight-before c.loop-i-test.true

pub overflow_add-from : goal.overflow_add-from
overflow_add-from c = record { fits = power-fits 256 _ even-most (less-eight-before c.loop-i-test.true) c.power-from.ensures }

pub row_bytes-requires : goal.row_bytes-requires
row_bytes-requires c = c.loop-i.invariant.1

pub overflow_mul-one : goal.overflow_mul-one
overflow_mul-one c = let s = c.loop-i in
    record { fits = (digit-place _ s.i _ s.invariant.1 c.row_bytes.ensures c.loop-i-test.true c.power-from.ensures (wide-most s.invariant.2)).row }

pub overflow_mul-one-in-loop-i : goal.overflow_mul-one-in-loop-i
overflow_mul-one-in-loop-i c = let s = c.loop-i in
    record { fits = (digit-place _ s.i _ s.invariant.1 c.row_bytes.ensures c.loop-i-test.true c.power-from.ensures (wide-most s.invariant.2)).word }

pub overflow_add-one : goal.overflow_add-one
overflow_add-one c = let s = c.loop-i in
    record { fits = (digit-place _ s.i _ s.invariant.1 c.row_bytes.ensures c.loop-i-test.true c.power-from.ensures (wide-most s.invariant.2)).sum }

pub overflow_add-one-in-loop-i : goal.overflow_add-one-in-loop-i
overflow_add-one-in-loop-i c = let s = c.loop-i in
    record { fits = (digit-place _ s.i _ s.invariant.1 c.row_bytes.ensures c.loop-i-test.true c.power-from.ensures (wide-most s.invariant.2)).last }

pub bounds-table-row_bytes : goal.bounds-table-row_bytes
bounds-table-row_bytes c = let s = c.loop-i in
    place_inside (digit-place _ s.i _ s.invariant.1 c.row_bytes.ensures c.loop-i-test.true c.power-from.ensures (wide-most s.invariant.2)).inside s.invariant.3

pub overflow_cast-one : goal.overflow_cast-one
overflow_cast-one c = record { fits = digit-fits (c.slice_known-in-loop-i-1.given _).fits }

pub overflow_add-one-in-loop-i-2 : goal.overflow_add-one-in-loop-i-2
overflow_add-one-in-loop-i-2 c = record { fits = digit-sum-fits (c.slice_known-in-loop-i-1.given _).fits }

pub power-requires : goal.power-requires
power-requires c = less-eight c.loop-i-test.true

pub overflow_add-power : goal.overflow_add-power
overflow_add-power c = record { fits = power-fits 256 _ even-most (less-eight c.loop-i-test.true) c.power.ensures }

pub put_power-requires : goal.put_power-requires
put_power-requires c = let s = c.loop-i in
    even-turn _ s.i s.invariant.1 (omega arith) c.loop-i-test.true c.power-from.ensures c.power.ensures (digit-small (c.slice_known-in-loop-i-1.given _).fits) s.invariant.3

pub loop-i-preserved : goal.loop-i-preserved
loop-i-preserved c = let r = c.put_power in
    let s = c.loop-i in
    let h = c.loop-i-test.true in
    let w = s.invariant.2 in (
      s.invariant.0,
      s.invariant.1,
      w,
      size-kept r.auto.rows s.invariant.3,
      r.auto.rows ∙ s.invariant.4,
      λ g monic powers.
          even-next _ _ (wide-two w) s.invariant.0 g s.i c.row_bytes.ensures monic (omega arith) h (λ j. (c.slice_known-in-loop-i-1.given j).fits) c.power-from.ensures c.power.ensures
          r.ensures.0 r.ensures.1 (s.invariant.5 g monic powers),
      one_more _ 256 16 _ (power-sixteen s.i h c.power.ensures) s.invariant.6 r.ensures.1,
    )

pub shape_of-table : goal.shape_of-table
shape_of-table c = c.loop-i.invariant.4 ∙ c.put_row.auto.rows ∙ c.clear_row.auto.rows

pub returns : goal.returns
returns c = let s = c.loop-i in
    let n = c.args.n in
    let u = c.args.used in
    let rest = low c.args.divisor u in
    let last : s.i ≡ 4 = omega arith in
    let below = low-lt c.args.divisor (λ j. search rules) u in
    let monic = divisor-monic u rest below in
    let length-is : length c.divisor_wide-whole.result.words ≡ 15 = search (rules, c.divisor_wide-whole.type_inv) in
    let one = row-whole n c.divisor_wide-whole.result.words length-is c.requires.2 c.divisor_wide-whole.ensures (divisor-below n u rest c.requires.1 below) in
    let o = even-start n 256 257 (64 * u) (2 ^ (64 * u) + rest) refl (wide-degree c.requires.0) monic c.clear_row.ensures.0 c.clear_row.ensures.1
    (rw one at c.put_row.ensures.0) c.put_row.ensures.1 in (
      rw last at (s.invariant.5 _ monic o.0),
      both-only n 256 o.1 s.invariant.6,
    )
