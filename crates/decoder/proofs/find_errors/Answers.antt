use mathlib.Core.Path.{◌≡◌, refl, sym, ap, ◌∙◌}
use Prim.Native.Nat.{◌≤◌, ◌-◌}
use native.Mathlib.Omega.{arith}
use borrow.Author.Tests.{eqb-true}
use borrow.Author.Rules.{rules}
use lib.ListN.{length}
use Rattle.code.specs.Locations.{locate}
use Rattle.series.proofs.Element.{small-elements}
use Rattle.decoder.proofs.Locating.{syndromes-power-sums, zero-located, nonzero-short, recurs-leading, recurs-divisor, unsplit-nowhere, long-nowhere, few-nowhere, wrong-nowhere, list-located, agreed-located, finds-none, finds-zero, finds-listed, finds-list}
use Rattle.decoder.proofs.find_errors.Goals as goal

pub returns-then-is_zero : goal.returns-then-is_zero
returns-then-is_zero c = let z = eqb-true _ _ (sym c.is_zero.ensures ∙ c.if-is_zero.true) in
    let e = c.no_exponents.ensures in
    finds-zero _ _ _ _ _ (ap (locate c.args.f c.args.t c.args.n) z ∙ zero-located _ _ _ c.requires.locatable.fits) e.0 e.1 e.2

pub shortest-r-requires : goal.shortest-r-requires
shortest-r-requires c = record { tables = c.requires.decoding.tables; t_bound = (c.requires.locatable.fits.level, syndromes-power-sums _ _ _ c.syndromes-sums.ensures) }

pub returns-then-t-len : goal.returns-then-t-len
returns-then-t-len c = let short = nonzero-short c.requires.locatable c.is_zero.ensures c.if-is_zero.false in
    let sums = c.syndromes-sums.ensures in
    let recurs = c.shortest-r.ensures in
    let e = c.no_exponents-then-t-len.ensures in
    finds-none _ _ _ _ _ (long-nowhere _ _ _ _ c.requires.locatable short sums recurs c.if-t-len.true) e.0 e.1 e.2

pub passes-requires : goal.passes-requires
passes-requires c = let short = nonzero-short c.requires.locatable c.is_zero.ensures c.if-is_zero.false in
    let sums = c.syndromes-sums.ensures in
    let recurs = c.shortest-r.ensures in
    record { powers = record { at = c.requires.decoding.tables.powers-at }; t_bound = (c.requires.locatable.fits.level, sums.elements, short, omega (arith, c.requires.locatable.fits.level, c.if-t-len.false), search rules) }

pub returns-then-passes : goal.returns-then-passes
returns-then-passes c = let short = nonzero-short c.requires.locatable c.is_zero.ensures c.if-is_zero.false in
    let sums = c.syndromes-sums.ensures in
    let recurs = c.shortest-r.ensures in
    let few : c.shortest-r.result.len ≤ c.args.t = c.if-t-len.false in
    let room : length c.find_roots-proposed.result ≡ 64 = search rules in
    let both = c.passes.ensures.holds c.if-passes.true in
    finds-listed _ _ _ _ _ refl few room (list-located _ _ _ _ c.requires.locatable short sums (omega (arith, c.requires.locatable.fits.level)) both.0 both.1 few)

pub cannot_split-requires : goal.cannot_split-requires
cannot_split-requires c = let short = nonzero-short c.requires.locatable c.is_zero.ensures c.if-is_zero.false in
    let sums = c.syndromes-sums.ensures in
    let recurs = c.shortest-r.ensures in
    record { tables = c.requires.decoding.tables; len_bound = (omega (arith, c.requires.locatable.fits.level, c.if-t-len.false), recurs-divisor _ _ _ _ c.requires.locatable short sums recurs) }

pub returns-then-cannot_split : goal.returns-then-cannot_split
returns-then-cannot_split c = let short = nonzero-short c.requires.locatable c.is_zero.ensures c.if-is_zero.false in
    let sums = c.syndromes-sums.ensures in
    let recurs = c.shortest-r.ensures in
    let e = c.no_exponents-then-cannot_split.ensures in
    finds-none _ _ _ _ _ (unsplit-nowhere _ _ _ _ c.requires.locatable short sums recurs (c.cannot_split.ensures c.if-cannot_split.true)) e.0 e.1 e.2

pub locate-places-requires : goal.locate-places-requires
locate-places-requires c = let short = nonzero-short c.requires.locatable c.is_zero.ensures c.if-is_zero.false in
    let sums = c.syndromes-sums.ensures in
    let recurs = c.shortest-r.ensures in
    record { tables = c.requires.decoding.tables; len_bound = (omega (arith, c.requires.locatable.fits.level, c.if-t-len.false), short, small-elements _ recurs.small-c, recurs-leading _ _ _ _ c.requires.locatable short sums recurs) }

pub returns-then-count-len : goal.returns-then-count-len
returns-then-count-len c = let short = nonzero-short c.requires.locatable c.is_zero.ensures c.if-is_zero.false in
    let sums = c.syndromes-sums.ensures in
    let recurs = c.shortest-r.ensures in
    let places = c.locate-places in
    let e = c.no_exponents-then-count-len.ensures in
    finds-none _ _ _ _ _ (few-nowhere _ _ _ _ c.requires.locatable short sums recurs places.ensures.1 c.if-count-len.true) e.0 e.1 e.2

pub reversed-exponents-requires : goal.reversed-exponents-requires
reversed-exponents-requires c = let places = c.locate-places in
    omega (arith, c.requires.locatable.fits.level, places.ensures.0, c.if-t-len.false)

pub sums_agree-located-requires : goal.sums_agree-located-requires
sums_agree-located-requires c = let short = nonzero-short c.requires.locatable c.is_zero.ensures c.if-is_zero.false in
    let sums = c.syndromes-sums.ensures in
    let recurs = c.shortest-r.ensures in
    let places = c.locate-places in
    record { powers = record { at = c.requires.decoding.tables.powers-at }; t_bound = (c.requires.locatable.fits.level, sums.elements, omega (arith, c.requires.locatable.fits.level, places.ensures.0, c.if-t-len.false), λ k l. rw (c.reversed-exponents.ensures.at k l) (omega (arith, places.ensures.1.lists.below (places.result.count - 1 - k) (omega (arith, l)))), c.reversed-exponents.ensures.full) }

pub returns : goal.returns
returns c = let short = nonzero-short c.requires.locatable c.is_zero.ensures c.if-is_zero.false in
    let sums = c.syndromes-sums.ensures in
    let recurs = c.shortest-r.ensures in
    let places = c.locate-places in
    let few : places.result.count ≤ c.args.t = omega (arith, c.requires.locatable.fits.level, places.ensures.0, c.if-t-len.false) in
    let turned = c.reversed-exponents.ensures in
    finds-list _ _ _ _ _ few turned.full c.sums_agree-located.ensures
    (λ agrees. agreed-located _ _ _ _ c.requires.locatable short sums recurs places.ensures.1 (omega (arith, turned.full)) turned agrees few)
    (λ wrong. wrong-nowhere _ _ _ _ c.requires.locatable short sums recurs places.ensures.1 (omega (arith, turned.full)) turned wrong)
