-- what `search` does not reach from the end
use mathlib.Core.Path.{◌≡◌}
use native.Mathlib.Omega.{arith}
use borrow.Author.Rules.{rules}
use lib.ListN.{length}
use Rattle.remainder.proofs.Words.{Words}
use Rattle.division_steps.proofs.Rows.{added-step, place-most}
use Rattle.division_steps.proofs.Steps.{top-word}
use Rattle.division_steps.proofs.two_steps.Goals as goal

pub words_added-requires : goal.words_added-requires
words_added-requires c = (omega arith, omega arith, c.requires.0.size, λ b h. place-most c.requires.0.wide _ b (c.places-at.ensures b h))

pub words_added-requires-2 : goal.words_added-requires-2
words_added-requires-2 c = (omega arith, omega arith, c.requires.0.size, λ b h. place-most c.requires.0.wide _ b (c.places-to.ensures b h))

pub returns : goal.returns
returns c = let p = c.requires in
    let u = c.args.a.words in
    let v = c.args.b.words in
    let up = c.word_up-one in
    let other = c.word_up-other in
    let one = c.words_added in
    let two = c.words_added-2 in
    let lu : (length u ≡ 15) × Words u = (search rules, λ k. search rules) in
    let lv : (length v ≡ 15) × Words v = (search rules, λ k. search rules) in
    let nu : (length up.result.words ≡ 15) × Words up.result.words = (search rules, λ k. search rules) in
    let nv : (length other.result.words ≡ 15) × Words other.result.words = (search rules, λ k. search rules) in
    let ol : length one.result.words ≡ 15 = search rules in
    let tl : length two.result.words ≡ 15 = search rules in
    record {
      words_bound = added-step 4 _ _ p.0 (λ j. (c.shared_slice_known-1.given j).fits) _ c.places-at.ensures u up.result.words one.result.words c.args.v p.1 c.ranges.v.fits
          (top-word u lu.1 5 (omega arith) (omega (arith, lu.0)) p.1) up.ensures nu.1 nu.0 ol one.ensures;
      words_bound_2 = added-step 4 _ _ p.0 (λ j. (c.shared_slice_known-1.given j).fits) _ c.places-to.ensures v other.result.words two.result.words c.args.w p.2 c.ranges.w.fits
          (top-word v lv.1 5 (omega arith) (omega (arith, lv.0)) p.2) other.ensures nv.1 nv.0 tl two.ensures;
    }
