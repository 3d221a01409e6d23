use Prim.Native.Nat.{◌*◌}
use native.Mathlib.Omega.{arith}
use Rattle.remainder.proofs.Fold.{parity-bits-below}
use Rattle.piece_rules.proofs.Replies.{reply-level, reply-empty, reply-plain, reply-long, reply-right, longest-most}
use Rattle.replies.proofs.Editions.{highest-small}
use Rattle.replies.specs.Replies.{number, verdict_number}
use Rattle.piece_rules.proofs.start_reply.Goals as goal

pub returns-then-highest-level_field : goal.returns-then-highest-level_field
unfolding verdict_number number
returns-then-highest-level_field c = reply-level _ _ _ _ (omega (arith, c.highest.ensures))

pub returns-then-size-eq0 : goal.returns-then-size-eq0
unfolding verdict_number number
returns-then-size-eq0 c = reply-empty _ _ _ _ (omega (arith, c.highest.ensures)) c.if-size-eq0.true

pub returns-then-level_field-eq0 : goal.returns-then-level_field-eq0
unfolding verdict_number number
returns-then-level_field-eq0 c = reply-plain _ _ _ _ (omega (arith, c.highest.ensures)) (omega arith) c.if-level_field-eq0.true

pub returns-then-longest-size : goal.returns-then-longest-size
unfolding verdict_number number
returns-then-longest-size c = reply-long _ _ _ _ (omega (arith, c.highest.ensures)) (omega arith) (omega arith) (omega (arith, c.longest-longest.ensures))

pub overflow_mul-t : goal.overflow_mul-t
overflow_mul-t c = omega (arith, c.highest.ensures, highest-small c.args.edition)

pub parity_bits-bits-requires : goal.parity_bits-bits-requires
parity_bits-bits-requires c = omega (arith, c.highest.ensures, highest-small c.args.edition)

pub overflow_add-size : goal.overflow_add-size
overflow_add-size c = let a = c.args in
    let l = longest-most a.f in
    let p = parity-bits-below a.f (2 * a.level_field) (omega (arith, c.highest.ensures, highest-small a.edition)) in
    omega (arith, c.parity_bits-bits.ensures, c.longest-longest.ensures)

pub returns-then-longest-size-2 : goal.returns-then-longest-size-2
unfolding verdict_number number
returns-then-longest-size-2 c = reply-long _ _ _ _ (omega (arith, c.highest.ensures)) (omega arith) (omega arith) (omega (arith, c.parity_bits-bits.ensures, c.longest-longest.ensures))

pub returns : goal.returns
unfolding verdict_number number
returns c = reply-right _ _ _ _ (omega (arith, c.highest.ensures)) (omega arith) (omega arith) (omega (arith, c.parity_bits-bits.ensures, c.longest-longest.ensures))
