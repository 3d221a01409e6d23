use Prim.Native.Nat.{◌*◌, ◌+◌}
use mathlib.Core.Path.{◌≡◌, refl, ◌∙◌}
use native.Mathlib.Omega.{arith}
use borrow.Author.Rules.{rules}
use lib.Bits.{xor_lt}
use Rattle.wide.proofs.Bytes.{Bytes}
use Rattle.wide.proofs.Steps.{only_next}
use Rattle.table_rows.specs.Rows.{row_bytes}
use Rattle.table_rows.proofs.Rows.{size-most, size-least, size-end, size-before, rows_before, row_kept}
use Rattle.table_rows.proofs.Steps.{bytes-set, only_none, only-both, only_row, power-start, power-next, power-made}
use Rattle.table_rows.proofs.put_power.Goals as goal

pub overflow_mul-a : goal.overflow_mul-a
overflow_mul-a c = let e = c.row_bytes-size.ensures in
    let h = size-end c.args.n c.args.to e c.requires.3 in
    let l = size-before c.args.n e c.requires.1 in
    search rules

pub overflow_mul-b : goal.overflow_mul-b
overflow_mul-b c = let e = c.row_bytes-size.ensures in
    let h = size-end c.args.n c.args.to e c.requires.3 in
    let l = size-before c.args.n e c.requires.2 in
    search rules

pub overflow_mul-c : goal.overflow_mul-c
overflow_mul-c c = let h = size-end c.args.n c.args.to c.row_bytes-size.ensures c.requires.3 in
    search rules

pub store_word-requires : goal.store_word-requires
store_word-requires c = let e = c.row_bytes-size.ensures in
    let h = size-end c.args.n c.args.to e c.requires.3 in
    let l = size-least c.args.n e in
    omega arith

pub loop-i-init : goal.loop-i-init
loop-i-init c = let n = c.args.n in
    let size = c.row_bytes-size.result in
    let e = c.row_bytes-size.ensures in
    let h = size-end n c.args.to e c.requires.3 in (
      refl,
      power-start _ _ (size * c.args.from) (size * c.args.plus) (size * c.args.to) c.args.k c.store_word.ensures.0,
      only_none (size * c.args.to) 8 _,
      λ j. (c.slice_known-2-1.given j).fits,
      omega arith,
      size-most n e c.requires.0,
      size-before n e c.requires.1,
      size-before n e c.requires.2,
    )

pub loop-i-preserved : goal.loop-i-preserved
loop-i-preserved c = let s = c.loop-i in
    let x = c.args in
    let us = c.store_word.new.rows in
    let p = c.row_bytes-size.result * x.from in
    let q = c.row_bytes-size.result * x.plus in
    let to = c.row_bytes-size.result * x.to in
    let least = size-least x.n c.row_bytes-size.ensures in
    let known : Bytes s.rows = λ j. (c.slice_known-in-loop-i-3-1.given j).fits in (
      search rules,
      λ ex ey.
          power-next us s.rows p q to s.i x.k (λ j. (c.slice_known-2-1.given j).fits) (omega arith) (omega arith) (omega arith) (omega arith) (omega arith) s.invariant.2
          c.joined-byte.ensures (s.invariant.1 ex ey),
      only_next to s.i _ s.invariant.2,
      bytes-set s.rows known (to + s.i) _ (xor_lt 8 c.joined-byte.result _ (search rules) (known (q + s.i))),
      s.invariant.4,
      s.invariant.5,
      s.invariant.6,
      s.invariant.7,
    )

pub returns : goal.returns
returns c = let s = c.loop-i in
    let x = c.args in
    let pre = c.requires in
    let size = c.row_bytes-size.ensures in
    let called = c.store_word in
    let us = called.new.rows in
    let least = size-least x.n size in
    let f : s.i ≡ c.row_bytes-size.result = omega arith in
    let e : s.i ≡ row_bytes x.n = f ∙ size in
    let o = rw size at called.ensures.1 in
    let w = rw (e, size) at s.invariant.2 in (
      λ y z ry rz h.
          let ty = row_kept x.n (row_bytes x.n * x.to) 8 o x.from y (rows_before x.n pre.1) ry in
          let tz = row_kept x.n (row_bytes x.n * x.to) 8 o x.plus z (rows_before x.n pre.2) rz in
          power-made x.n us s.rows x.from x.plus x.to x.k y z s.invariant.3 (rw (e, size) at s.invariant.1 ty.zeros tz.zeros) ty tz h,
      only_row x.n x.to
          (only-both (row_bytes x.n * x.to) 8 (row_bytes x.n) (row_bytes x.n * x.to) (row_bytes x.n) o w (omega arith) (omega arith) (omega arith)),
    )
