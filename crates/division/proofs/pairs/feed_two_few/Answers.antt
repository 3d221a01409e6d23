use mathlib.Core.Path.{◌≡◌, ◌∙◌, refl}
use native.Mathlib.Omega.{arith}
use Rattle.bits.specs.Bits.{run}
use Rattle.remainder.specs.Parity.{parity_from}
use Rattle.division_steps.proofs.Steps.{parity-word}
use Rattle.division.proofs.pairs.feed_two_few.Goals as goal

pub loop-fed-init : goal.loop-fed-init
unfolding run parity_from
loop-fed-init c = let p = c.requires.rests in ((p.1, refl), (p.2, refl))

pub two_steps-two-requires : goal.two_steps-two-requires
two_steps-two-requires c = let i = c.loop-fed.invariant in
    (c.requires.rests.0, i.0.0, i.1.0)

pub loop-fed-preserved : goal.loop-fed-preserved
loop-fed-preserved c = let s = c.loop-fed in
    let first = c.turned_word-v.ensures ∙ c.words_from-firsts.ensures s.fed (omega arith) in
    let second = c.turned_word-w.ensures ∙ c.words_from-seconds.ensures s.fed (omega arith) in
    let e = c.two_steps-two.ensures in (
      (e.words_bound.0, parity-word _ _ _ _ _ s.fed s.invariant.0.1 first e.words_bound.1),
      (e.words_bound_2.0, parity-word _ _ _ _ _ s.fed s.invariant.1.1 second e.words_bound_2.1),
    )

pub returns : goal.returns
returns c = let i = c.loop-fed.invariant in
    let e : c.loop-fed.fed ≡ c.args.count = omega arith in
    record { words_bound = (i.0.0, i.0.1 ∙ rw e); words_bound_2 = (i.1.0, i.1.1 ∙ rw e) }
