use Prim.Native.Nat.{◌*◌}
use mathlib.Core.Path.{sym, ap, ◌∙◌}
use native.Mathlib.Omega.{arith}
use borrow.Author.Tests.{lt-ltb, le-ltb}
use Rattle.std.specs.Prelude.{Ok}
use Rattle.mark.proofs.Places.{marked-before, marked-within, marked-after, streamed-before, streamed-after}
use Rattle.layout.specs.Bits.{located, bit_in}
use Rattle.page_bits.proofs.Inverse.{bit_in_lem}
use Rattle.page_bits.proofs.places.bit_in.Goals as goal

pub returns-then-plan-position : goal.returns-then-plan-position
unfolding bit_in
returns-then-plan-position c = simp (le-ltb _ _ c.if-plan-position.true)

pub returns-then-at-start : goal.returns-then-at-start
returns-then-at-start c = let a = c.args in
    let q = a.plan in
    ap Ok (c.located.ensures ∙ sym (ap (located q) (streamed-before q.mark a.position (omega arith))))
    ∙ sym (bit_in_lem q (omega arith) (marked-before q.mark a.position (omega arith)))

pub returns-then-at-start-2 : goal.returns-then-at-start-2
unfolding bit_in
returns-then-at-start-2 c = let a = c.args in
    let q = a.plan in
    simp (lt-ltb a.position (8 * q.size) (omega arith), marked-within q.mark a.position (omega arith) (omega arith))

pub returns : goal.returns
returns c = let a = c.args in
    let q = a.plan in
    ap Ok (c.located-2.ensures ∙ sym (ap (located q) (streamed-after q.mark a.position (omega arith))))
    ∙ sym (bit_in_lem q (omega arith) (marked-after q.mark a.position (omega arith)))
