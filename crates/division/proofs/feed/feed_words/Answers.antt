use Prim.Native.Nat.{◌-◌, ◌%◌}
use mathlib.Core.Path.{◌≡◌, refl}
use native.Mathlib.Omega.{arith}
use Rattle.bits.specs.Bits.{run}
use Rattle.remainder.specs.Parity.{parity_from}
use Rattle.division_steps.proofs.Steps.{parity-parts}
use Rattle.division.proofs.feed.feed_words.Goals as goal

pub feed_few_words-r-requires : goal.feed_few_words-r-requires
feed_few_words-r-requires c = let p = c.requires in (p.0, p.1, omega arith, omega arith)

pub loop-fed-init : goal.loop-fed-init
unfolding run parity_from
loop-fed-init c = let f = c.args.count % 16 in
    let z : f - f ≡ 0 = omega arith in
    (omega arith, omega arith, omega arith, c.feed_few_words-r.ensures.0, rw z refl)

pub feed_few_words-r-requires-in-loop-fed : goal.feed_few_words-r-requires-in-loop-fed
feed_few_words-r-requires-in-loop-fed c = let i = c.loop-fed.invariant in
    let p = c.requires in
    (p.0, i.3, omega arith, omega arith)

pub loop-fed-preserved : goal.loop-fed-preserved
loop-fed-preserved c = let s = c.loop-fed in
    let e = c.feed_few_words-r-in-loop-fed.ensures in
    (omega arith, omega arith, omega arith, e.0, parity-parts _ _ _ _ _ _ _ (omega arith) (omega arith) s.invariant.4 e.1)

pub returns : goal.returns
returns c = let s = c.loop-fed in
    (s.invariant.3, parity-parts _ _ _ _ _ _ _ (omega arith) refl c.feed_few_words-r.ensures.1 s.invariant.4)
