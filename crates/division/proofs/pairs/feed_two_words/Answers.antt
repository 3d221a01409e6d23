use Prim.Native.Nat.{◌-◌, ◌%◌}
use mathlib.Core.Path.{◌≡◌, refl}
use native.Mathlib.Omega.{arith}
use Rattle.bits.specs.Bits.{run}
use Rattle.remainder.specs.Parity.{parity_from}
use Rattle.division_steps.proofs.Steps.{parity-parts}
use Rattle.division.proofs.pairs.feed_two_words.Goals as goal

pub feed_two_few-two-requires : goal.feed_two_few-two-requires
feed_two_few-two-requires c = let p = c.requires in
    record { rests = p.rests; count_bound = (omega arith, omega arith, omega arith) }

pub loop-fed-init : goal.loop-fed-init
unfolding run parity_from
loop-fed-init c = let f = c.args.count % 16 in
    let z : f - f ≡ 0 = omega arith in
    let e = c.feed_two_few-two.ensures in
    (omega arith, omega arith, omega arith, (e.words_bound.0, rw z refl), (e.words_bound_2.0, rw z refl))

pub feed_two_few-two-requires-in-loop-fed : goal.feed_two_few-two-requires-in-loop-fed
feed_two_few-two-requires-in-loop-fed c = let i = c.loop-fed.invariant in
    let p = c.requires in
    record { rests = (p.rests.0, i.3.0, i.4.0); count_bound = (omega arith, omega arith, omega arith) }

pub loop-fed-preserved : goal.loop-fed-preserved
loop-fed-preserved c = let s = c.loop-fed in
    let e = c.feed_two_few-two-in-loop-fed.ensures in (
      omega arith,
      omega arith,
      omega arith,
      (e.words_bound.0, parity-parts _ _ _ _ _ _ _ (omega arith) (omega arith) s.invariant.3.1 e.words_bound.1),
      (e.words_bound_2.0, parity-parts _ _ _ _ _ _ _ (omega arith) (omega arith) s.invariant.4.1 e.words_bound_2.1),
    )

pub returns : goal.returns
returns c = let i = c.loop-fed.invariant in
    let e = c.feed_two_few-two.ensures in
    record { words_bound = (i.3.0, parity-parts _ _ _ _ _ _ _ (omega arith) refl e.words_bound.1 i.3.1); words_bound_2 = (i.4.0, parity-parts _ _ _ _ _ _ _ (omega arith) refl e.words_bound_2.1 i.4.1) }
