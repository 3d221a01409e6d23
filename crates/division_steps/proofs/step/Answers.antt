use Prim.Native.Nat.{◌+◌}
use mathlib.Core.Path.{◌≡◌}
use native.Mathlib.Omega.{arith}
use borrow.Author.Rules.{rules}
use lib.ListN.{length}
use Rattle.division_table.proofs.Filling.{wide-two, wide-most, wide-last}
use Rattle.division_steps.proofs.Rows.{added_more, added-step, place-most}
use Rattle.partial.proofs.Turns.{top-word}
use Rattle.division_steps.proofs.step.Goals as goal

pub bounds-words : goal.bounds-words
bounds-words g c = let m = wide-most c.requires.0.wide in
    search rules

pub places-at-requires : goal.places-at-requires
places-at-requires g c = wide-most c.requires.0.wide

pub word_up-next-requires : goal.word_up-next-requires
word_up-next-requires g c = let p = c.requires in
    let few = wide-two p.0.wide in
    let m = wide-most p.0.wide in
    (omega arith, m, p.1)

pub words_added-requires : goal.words_added-requires
words_added-requires g c = (omega arith, omega arith, c.requires.0.size, λ b h. place-most c.requires.0.wide _ b (c.places-at.ensures b h))

pub words_added-high-requires : goal.words_added-high-requires
words_added-high-requires g c = (omega arith, omega arith, c.requires.0.size, λ b h. place-most c.requires.0.wide _ b (c.places-at.ensures b h))

pub words_added-requires-then-this-eq10 : goal.words_added-requires-then-this-eq10
words_added-requires-then-this-eq10 g c = (omega arith, omega arith, c.requires.0.size, λ b h. place-most c.requires.0.wide _ b (c.places-at.ensures b h))

pub words_added-high-requires-2 : goal.words_added-high-requires-2
words_added-high-requires-2 g c = (omega arith, omega arith, c.requires.0.size, λ b h. place-most c.requires.0.wide _ b (c.places-at.ensures b h))

pub words_added-most-requires : goal.words_added-most-requires
words_added-most-requires g c = (omega arith, omega arith, c.requires.0.size, λ b h. place-most c.requires.0.wide _ b (c.places-at.ensures b h))

pub words_added-requires-2 : goal.words_added-requires-2
words_added-requires-2 g c = (omega arith, omega arith, c.requires.0.size, λ b h. place-most c.requires.0.wide _ b (c.places-at.ensures b h))

pub returns-then-this-eq4 : goal.returns-then-this-eq4
returns-then-this-eq4 g c = let p = c.requires in
    let s = c.args.state.words in
    let up = c.word_up-next in
    let u : g.row.USED ≡ 4 = omega arith in
    let most = wide-most p.0.wide in
    let l : length s ≡ 15 = search rules in
    let n : length up.result.words ≡ 15 = search rules in
    let m : length c.words_added.result.words ≡ 15 = search rules in
    let v : g.row.USED + 1 ≡ 5 = omega arith in
    added-step g.row.USED _ _ p.0 (λ j. (c.shared_slice_known-1.given j).fits) _ c.places-at.ensures s up.result.words c.words_added.result.words c.args.w p.1 c.ranges.w.fits
    (top-word s (λ k. search rules) g.row.USED (omega arith) p.1) up.ensures (λ k. search rules) n m (rw v (c.words_added.ensures))

pub returns-then-this-eq10 : goal.returns-then-this-eq10
returns-then-this-eq10 g c = let p = c.requires in
    let s = c.args.state.words in
    let up = c.word_up-next in
    let u : g.row.USED ≡ 10 = omega arith in
    let most = wide-most p.0.wide in
    let l : length s ≡ 15 = search rules in
    let n : length up.result.words ≡ 15 = search rules in
    let m : length c.words_added-then-this-eq10.result.words ≡ 15 = search rules in
    let v : g.row.USED + 1 ≡ 11 = omega arith in
    added-step g.row.USED _ _ p.0 (λ j. (c.shared_slice_known-1.given j).fits) _ c.places-at.ensures s up.result.words c.words_added-then-this-eq10.result.words c.args.w p.1 c.ranges.w.fits
    (top-word s (λ k. search rules) g.row.USED (omega arith) p.1) up.ensures (λ k. search rules) n m (rw v (added_more _ _ (omega arith) (omega arith) c.words_added-high.ensures c.words_added-then-this-eq10.ensures))

pub returns : goal.returns
returns g c = let p = c.requires in
    let s = c.args.state.words in
    let up = c.word_up-next in
    let u : g.row.USED ≡ 14 = wide-last p.0.wide c.if-this-eq4.false c.if-this-eq10.false in
    let most = wide-most p.0.wide in
    let l : length s ≡ 15 = search rules in
    let n : length up.result.words ≡ 15 = search rules in
    let m : length c.words_added-2.result.words ≡ 15 = search rules in
    let v : g.row.USED + 1 ≡ 15 = omega arith in
    added-step g.row.USED _ _ p.0 (λ j. (c.shared_slice_known-1.given j).fits) _ c.places-at.ensures s up.result.words c.words_added-2.result.words c.args.w p.1 c.ranges.w.fits
    (top-word s (λ k. search rules) g.row.USED (omega arith) p.1) up.ensures (λ k. search rules) n m (rw v (added_more _ _ (omega arith) (omega arith) (added_more _ _ (omega arith) (omega arith) c.words_added-high-2.ensures c.words_added-most.ensures) c.words_added-2.ensures))
