use Prim.Native.Nat.{◌+◌, ◌*◌}
use native.Mathlib.Omega.{arith}
use borrow.Author.Rules.{rules}
use Rattle.table_rows.specs.Rows.{row_bytes}
use Rattle.table_rows.proofs.Rows.{row-size, size-end}
use Rattle.table_rows.proofs.Steps.{row_put, only-both, only_row}
use Rattle.table_rows.proofs.put_row.Goals as goal

pub overflow_mul-to : goal.overflow_mul-to
overflow_mul-to c = let h = size-end c.args.n c.args.v c.row_bytes.ensures c.requires.1 in
    search rules

pub store_word-requires : goal.store_word-requires
store_word-requires c = let e = c.row_bytes.ensures in
    let h = size-end c.args.n c.args.v e c.requires.1 in
    let s = row-size c.args.n in
    omega arith

pub overflow_add-to : goal.overflow_add-to
overflow_add-to c = let e = c.row_bytes.ensures in
    let h = size-end c.args.n c.args.v e c.requires.1 in
    let s = row-size c.args.n in
    search rules

pub store_row-requires : goal.store_row-requires
store_row-requires c = let e = c.row_bytes.ensures in
    let h = size-end c.args.n c.args.v e c.requires.1 in
    let s = row-size c.args.n in
    (c.requires.0, omega arith)

pub returns : goal.returns
returns c = let x = c.args in
    let upper = c.store_row in
    let lower = c.store_word in
    let e = c.row_bytes.ensures in
    let s = row-size x.n in (
      row_put x.n x.v _ _ (rw e at lower.ensures.0) (rw e at upper.ensures.0) (rw e at upper.ensures.1),
      only_row x.n x.v (only-both (row_bytes x.n * x.v) 8 (row_bytes x.n) (row_bytes x.n * x.v + 8) (8 * x.n) (rw e at lower.ensures.1) (rw e at upper.ensures.1) (omega arith) (omega arith) (omega arith)),
    )
