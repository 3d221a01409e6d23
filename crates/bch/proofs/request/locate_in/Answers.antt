use mathlib.Core.Path.{sym, ap, ◌∙◌}
use Prim.Native.Nat.{◌+◌, ◌*◌, ◌/◌, ◌≤◌}
use native.Mathlib.Omega.{arith}
use Rattle.replies.proofs.Editions.{highest-small}
use Rattle.remainder.specs.Remainder.{bytes_for}
use Rattle.remainder.proofs.Fold.{parity-bits-below}
use Rattle.bch.specs.Answers.{level_of}
use Rattle.bch.proofs.Replies.{in-level, in-zero, in-short, in-long, in_bytes, in-places, in_right}
use Rattle.bch.proofs.request.locate_in.Goals as goal

pub returns-then-highest-level_field : goal.returns-then-highest-level_field
returns-then-highest-level_field c = in-level _ _ _ _ _ _ (omega (arith, c.highest.ensures))

pub returns-then-level_field-eq0 : goal.returns-then-level_field-eq0
returns-then-level_field-eq0 c = in-zero _ _ _ _ _ _ (omega (arith, c.highest.ensures)) c.if-level_field-eq0.true

pub overflow_mul-t : goal.overflow_mul-t
overflow_mul-t c = omega (arith, c.highest.ensures, highest-small c.args.edition)

pub parity_bits-bits-requires : goal.parity_bits-bits-requires
parity_bits-bits-requires c = omega (arith, c.highest.ensures, highest-small c.args.edition)

pub returns-then-n-bits : goal.returns-then-n-bits
unfolding level_of
returns-then-n-bits c = in-short _ _ _ _ _ _ (omega (arith, c.highest.ensures)) (omega arith) (omega (arith, c.parity_bits-bits.ensures))

pub returns-then-longest-n : goal.returns-then-longest-n
unfolding level_of
returns-then-longest-n c = in-long _ _ _ _ _ _ (omega (arith, c.highest.ensures)) (omega arith) (omega (arith, c.parity_bits-bits.ensures))
    (omega (arith, c.longest.ensures))

pub returns-then-remainder-bits : goal.returns-then-remainder-bits
unfolding level_of bytes_for
returns-then-remainder-bits c = in_bytes _ _ _ _ _ _ (omega (arith, c.highest.ensures)) (omega arith) (omega (arith, c.parity_bits-bits.ensures))
    (omega (arith, c.longest.ensures)) (λ e. c.if-remainder-bits.true (e ∙ ap (λ d. (d + 7) / 8) (sym c.parity_bits-bits.ensures)))

pub returns-then-places-t : goal.returns-then-places-t
unfolding level_of bytes_for
returns-then-places-t c = in-places _ _ _ _ _ _ (omega (arith, c.highest.ensures)) (omega arith) (omega (arith, c.parity_bits-bits.ensures))
    (omega (arith, c.longest.ensures)) (c.if-remainder-bits.false ∙ ap (λ d. (d + 7) / 8) c.parity_bits-bits.ensures) c.if-places-t.true

pub locate_remainder-requires : goal.locate_remainder-requires
locate_remainder-requires c = let level : 2 * c.args.level_field ≤ 62 = omega (arith, c.highest.ensures, highest-small c.args.edition) in (
  level,
  omega (arith, c.parity_bits-bits.ensures),
  omega (arith, c.longest.ensures),
  omega (arith, c.if-remainder-bits.false, c.parity_bits-bits.ensures, parity-bits-below c.args.f (2 * c.args.level_field) level),
  omega arith,
)

pub returns : goal.returns
unfolding level_of bytes_for
returns c = in_right _ _ _ _ _ _ (omega (arith, c.highest.ensures)) (omega arith) (omega (arith, c.parity_bits-bits.ensures))
    (omega (arith, c.longest.ensures)) (c.if-remainder-bits.false ∙ ap (λ d. (d + 7) / 8) c.parity_bits-bits.ensures) (omega arith)
    c.locate_remainder.ensures
