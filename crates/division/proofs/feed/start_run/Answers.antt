use mathlib.Core.Path.{◌∙◌, refl, ap}
use native.Mathlib.Omega.{arith}
use Rattle.bits.specs.Bits.{run, digits}
use Rattle.remainder.specs.Parity.{parity_from}
use Rattle.division_steps.proofs.Steps.{odd-below, odd-digits}
use Rattle.division.proofs.feed.start_run.Goals as goal

pub start-requires : goal.start-requires
start-requires c = let p = c.requires in (p.0, p.1, omega arith, omega arith)

pub returns-then-odd-eq0 : goal.returns-then-odd-eq0
unfolding run digits
returns-then-odd-eq0 c = let e = c.start.ensures in (e.0, λ g. e.1 g ∙ rw c.if-odd-eq0.true refl)

pub start-requires-2 : goal.start-requires-2
start-requires-2 c = let p = c.requires in
    (p.0, p.1, p.2, odd-below _ c.args.at c.args.odd (omega arith) c.word_at-w.ensures refl)

pub returns : goal.returns
returns c = let e = c.start-2.ensures in
    (e.0, λ g. e.1 g ∙ ap (parity_from _ g _) (odd-digits _ c.args.at c.args.odd (omega arith) c.word_at-w.ensures refl))
