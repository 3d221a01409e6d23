use Prim.Native.Nat.{◌*◌}
use mathlib.Core.Path.{sym, ◌∙◌}
use native.Mathlib.Omega.{arith}
use Rattle.replies.proofs.Editions.{highest-small}
use Rattle.remainder.proofs.Fold.{parity-bits-below}
use Rattle.piece_rules.proofs.Replies.{refused-some, passed-none, right-level, usable-refused, usable-past, usable-below}
use Rattle.piece_rules.proofs.is_usable.Goals as goal

pub returns-then-is_err : goal.returns-then-is_err
returns-then-is_err c = usable-refused _ _ c.start_reply.ensures (refused-some _ (sym c.is_err.ensures.value ∙ c.if-is_err.true))

pub returns-then-state : goal.returns-then-state
returns-then-state c = usable-past _ _ (sym c.start_reply.ensures ∙ passed-none _ (sym c.is_err.ensures.value ∙ c.if-is_err.false)) c.if-state.true

pub overflow_mul-t : goal.overflow_mul-t
overflow_mul-t c = omega (arith, right-level 2 _ _ _ (sym c.start_reply.ensures ∙ passed-none _ (sym c.is_err.ensures.value ∙ c.if-is_err.false)), highest-small 2)

pub parity_bits-bits-requires : goal.parity_bits-bits-requires
parity_bits-bits-requires c = omega (arith, right-level 2 _ _ _ (sym c.start_reply.ensures ∙ passed-none _ (sym c.is_err.ensures.value ∙ c.if-is_err.false)), highest-small 2)

pub is_below-requires : goal.is_below-requires
is_below-requires c = let r = c.start_reply.ensures in
    let a = c.args in
    let l = right-level 2 _ _ _ (sym r ∙ passed-none _ (sym c.is_err.ensures.value ∙ c.if-is_err.false)) in
    let p = parity-bits-below a.f (2 * a.state.level) (omega (arith, l, highest-small 2)) in
    omega (arith, c.parity_bits-bits.ensures, p)

pub returns : goal.returns
returns c = let r = c.start_reply.ensures in
    usable-below _ _ (sym r ∙ passed-none _ (sym c.is_err.ensures.value ∙ c.if-is_err.false)) (omega arith) c.parity_bits-bits.ensures c.is_below.ensures
