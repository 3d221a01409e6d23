use Prim.Native.Nat.{◌*◌}
use mathlib.Core.Path.{sym, ap, ◌∙◌}
use native.Mathlib.Omega.{arith}
use Rattle.remainder.proofs.Fold.{parity-bits-below}
use Rattle.remainder.specs.Remainder.{bytes_for}
use Rattle.piece_rules.proofs.Replies.{usable-level, finish-unusable, finish-early, finish-bytes, finish-right}
use Rattle.replies.specs.Replies.{number, verdict_number}
use Rattle.piece_rules.proofs.finish_reply.Goals as goal

pub returns-then-not-is_usable : goal.returns-then-not-is_usable
unfolding verdict_number number
returns-then-not-is_usable c = finish-unusable _ _ _ (sym c.is_usable.ensures ∙ c.if-not-is_usable.true)

pub returns-then-state : goal.returns-then-state
unfolding verdict_number number
returns-then-state c = finish-early _ _ _ (sym c.is_usable.ensures ∙ c.if-not-is_usable.false) c.if-state.true

pub overflow_mul-t : goal.overflow_mul-t
overflow_mul-t c = omega (arith, usable-level _ _ (sym c.is_usable.ensures ∙ c.if-not-is_usable.false))

pub parity_bits-bits-requires : goal.parity_bits-bits-requires
parity_bits-bits-requires c = omega (arith, usable-level _ _ (sym c.is_usable.ensures ∙ c.if-not-is_usable.false))

pub bytes_for-requires : goal.bytes_for-requires
bytes_for-requires c = let a = c.args in
    let l = usable-level a.f a.state (sym c.is_usable.ensures ∙ c.if-not-is_usable.false) in
    let p = parity-bits-below a.f (2 * a.state.level) (omega arith) in
    omega (arith, c.parity_bits-bits.ensures)

pub returns-then-len-bytes_for : goal.returns-then-len-bytes_for
unfolding verdict_number number
returns-then-len-bytes_for c = let u = sym c.is_usable.ensures ∙ c.if-not-is_usable.false in
    let e = c.bytes_for.ensures ∙ ap bytes_for c.parity_bits-bits.ensures in
    finish-bytes _ _ _ u c.if-state.false (λ h. c.if-len-bytes_for.true (h ∙ sym e))

pub returns : goal.returns
unfolding verdict_number number
returns c = let u = sym c.is_usable.ensures ∙ c.if-not-is_usable.false in
    let e = c.bytes_for.ensures ∙ ap bytes_for c.parity_bits-bits.ensures in
    finish-right _ _ _ u c.if-state.false (c.if-len-bytes_for.false ∙ e)
