use Prim.Native.Nat.{◌*◌}
use mathlib.Core.Path.{◌≡◌, refl, ◌∙◌}
use native.Mathlib.Omega.{arith}
use borrow.Author.Rules.{rules}
use Rattle.wide.specs.Bytes.{little}
use Rattle.wide.proofs.Steps.{only_next}
use Rattle.table_rows.specs.Rows.{row_bytes}
use Rattle.table_rows.proofs.Rows.{size-most, size-end}
use Rattle.table_rows.proofs.Steps.{zero-next, row-cleared, only_none, only_row}
use Rattle.table_rows.proofs.clear_row.Goals as goal

pub overflow_mul-to : goal.overflow_mul-to
overflow_mul-to c = let h = size-end c.args.n c.args.v c.row_bytes-size.ensures c.requires.1 in
    search rules

pub loop-i-init : goal.loop-i-init
unfolding little
loop-i-init c = let e = c.row_bytes-size.ensures in
    (refl, refl, only_none (c.row_bytes-size.result * c.args.v) 0 _, size-end c.args.n c.args.v e c.requires.1, size-most c.args.n e c.requires.0)

pub loop-i-preserved : goal.loop-i-preserved
loop-i-preserved c = let s = c.loop-i in
    let to = c.row_bytes-size.result * c.args.v in
    (search rules, zero-next to s.i s.rows (omega arith) s.invariant.1, only_next to s.i 0 s.invariant.2, s.invariant.3, s.invariant.4)

pub returns : goal.returns
returns c = let s = c.loop-i in
    let called = c.row_bytes-size in
    let x = c.args in
    let f : s.i ≡ called.result = omega arith in
    let e : s.i ≡ row_bytes x.n = f ∙ called.ensures in
    (row-cleared x.n s.rows x.v (rw (e, called.ensures) at s.invariant.1), only_row x.n x.v (rw (e, called.ensures) at s.invariant.2))
