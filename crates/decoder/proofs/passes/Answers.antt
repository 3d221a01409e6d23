use native.Mathlib.Omega.{arith}
use Rattle.bits.proofs.Decides.{decides-false, decides-as}
use Rattle.decoder.proofs.passes.Goals as goal

pub sums_agree-requires : goal.sums_agree-requires
sums_agree-requires c = let p = c.requires in
    let a = c.descend_below.ensures.holds c.if-descend_below.true in
    record { powers = p.powers; t_bound = (omega arith, p.t_bound.1, p.t_bound.3, λ k l. omega (arith, a.below k l), p.t_bound.4) }

pub returns-then-descend_below : goal.returns-then-descend_below
returns-then-descend_below c = let a = c.descend_below.ensures.holds c.if-descend_below.true in
    decides-as (λ g. (a, g)) (λ g. g.1) c.sums_agree.ensures

pub returns : goal.returns
returns c = decides-false (λ h. c.descend_below.ensures.fails c.if-descend_below.false h.0)
