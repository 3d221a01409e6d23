use mathlib.Core.Path.{◌≡◌, ◌∙◌, refl}
use native.Mathlib.Omega.{arith}
use Rattle.bits.specs.Bits.{run}
use Rattle.remainder.specs.Parity.{parity_from}
use Rattle.division_steps.proofs.Steps.{parity-word}
use Rattle.division.proofs.feed.feed_wide.Goals as goal

pub loop-fed-init : goal.loop-fed-init
unfolding run parity_from
loop-fed-init g c = (c.requires.1, refl)

pub step-r-requires : goal.step-r-requires
step-r-requires g c = (c.requires.0, c.loop-fed.invariant.0)

pub loop-fed-preserved : goal.loop-fed-preserved
loop-fed-preserved g c = let s = c.loop-fed in
    let w = c.turned_word-w.ensures ∙ c.words_from-words.ensures s.fed (omega arith) in
    let e = c.step-r.ensures in
    (e.0, parity-word _ _ _ _ _ s.fed s.invariant.1 w e.1)

pub returns : goal.returns
returns g c = let i = c.loop-fed.invariant in
    let e : c.loop-fed.fed ≡ c.args.count = omega arith in
    (i.0, i.1 ∙ rw e)
