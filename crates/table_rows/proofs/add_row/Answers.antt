use Prim.Native.Nat.{◌*◌, ◌+◌}
use mathlib.Core.Path.{◌≡◌, refl, ◌∙◌}
use native.Mathlib.Omega.{arith}
use borrow.Author.Rules.{rules}
use lib.Bits.{xor_lt}
use Rattle.wide.specs.Bytes.{little}
use Rattle.wide.proofs.Bytes.{Bytes}
use Rattle.wide.proofs.Steps.{only_next}
use Rattle.table_rows.specs.Rows.{row_bytes}
use Rattle.table_rows.proofs.Rows.{size-most, size-least, size-end, size-before}
use Rattle.table_rows.proofs.Steps.{bytes-set, only_none, only_row, sum-next, sum-made}
use Rattle.table_rows.proofs.add_row.Goals as goal

pub overflow_mul-a : goal.overflow_mul-a
overflow_mul-a c = let e = c.row_bytes-size.ensures in
    let h = size-end c.args.n c.args.to e c.requires.3 in
    let l = size-before c.args.n e c.requires.1 in
    search rules

pub overflow_mul-b : goal.overflow_mul-b
overflow_mul-b c = let e = c.row_bytes-size.ensures in
    let h = size-end c.args.n c.args.to e c.requires.3 in
    let l = size-before c.args.n e c.requires.2 in
    search rules

pub overflow_mul-c : goal.overflow_mul-c
overflow_mul-c c = let h = size-end c.args.n c.args.to c.row_bytes-size.ensures c.requires.3 in
    search rules

pub loop-i-init : goal.loop-i-init
unfolding little
loop-i-init c = let n = c.args.n in
    let e = c.row_bytes-size.ensures in (
      refl,
      refl,
      only_none (c.row_bytes-size.result * c.args.to) 0 _,
      λ h. omega arith,
      size-end n c.args.to e c.requires.3,
      size-most n e c.requires.0,
      size-before n e c.requires.1,
      size-before n e c.requires.2,
    )

pub loop-i-preserved : goal.loop-i-preserved
loop-i-preserved c = let s = c.loop-i in
    let x = c.args in
    let p = c.row_bytes-size.result * x.one in
    let q = c.row_bytes-size.result * x.other in
    let to = c.row_bytes-size.result * x.to in
    let known : Bytes s.rows = λ j. (c.slice_known-in-loop-i-2-1.given j).fits in (
      search rules,
      sum-next x.rows.now s.rows p q to s.i known (omega arith) (omega arith) (omega arith) s.invariant.2 s.invariant.1,
      only_next to s.i _ s.invariant.2,
      λ h. bytes-set s.rows known (to + s.i) _ (xor_lt 8 _ _ (known (p + s.i)) (known (q + s.i))),
      s.invariant.4,
      s.invariant.5,
      s.invariant.6,
      s.invariant.7,
    )

pub returns : goal.returns
returns c = let s = c.loop-i in
    let x = c.args in
    let f : s.i ≡ c.row_bytes-size.result = omega arith in
    let e : s.i ≡ row_bytes x.n = f ∙ c.row_bytes-size.ensures in
    let l = size-least x.n c.row_bytes-size.ensures in (
      λ y z. sum-made x.n x.rows.now s.rows x.one x.other x.to y z (s.invariant.3 (omega arith)) (rw (e, c.row_bytes-size.ensures) at s.invariant.1),
      only_row x.n x.to (rw (e, c.row_bytes-size.ensures) at s.invariant.2),
    )
