use Prim.Native.Nat.{◌-◌, ◌+◌, ◌*◌, ◌/◌, ◌%◌, ◌^◌}
use mathlib.Core.Path.{◌≡◌, ap, ◌∙◌}
use native.Mathlib.Omega.{arith}
use borrow.Author.Rules.{rules}
use Rattle.table_rows.specs.Rows.{row_bytes}
use Rattle.partial.specs.Clearing.{row_words}
use Rattle.division_steps.proofs.Rows.{row-place}
use Rattle.division_steps.proofs.Steps.{byte_next, stored_next}
use Rattle.division_steps.proofs.places.Goals as goal

pub overflow_mul-at : goal.overflow_mul-at
overflow_mul-at c = let w = c.row_size.ensures in
    let m = row-place {c = c.loop-b.left % 256} w.2 (omega arith) c.row_bytes-size.ensures in
    record { fits = omega arith }

pub overflow_add-at : goal.overflow_add-at
overflow_add-at c = let w = c.row_size.ensures in
    let m = row-place {c = c.loop-b.left % 256} w.2 (omega arith) c.row_bytes-size.ensures in
    record { fits = omega arith }

pub loop-b-preserved : goal.loop-b-preserved
loop-b-preserved c = let s = c.loop-b in
    let v = c.args.v in
    let size = c.row_bytes-size.result in (
      search rules,
      byte_next v s.b s.invariant.1,
      stored_next (λ k. size * (v / 2 ^ (8 * k) % 256) + 8 - k) s.at s.b (omega arith) s.invariant.2 (ap (λ x. size * (x % 256) + 8 - s.b) s.invariant.1),
    )

pub returns : goal.returns
returns c = λ b h.
    let s = c.loop-b in
    let e : c.row_bytes-size.result ≡ row_bytes (row_words c.args.used) = c.row_bytes-size.ensures ∙ ap row_bytes c.row_size.ensures.0 in
    rw e at (s.invariant.2 b (omega arith))
