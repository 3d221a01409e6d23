use mathlib.Core.Path.{◌≡◌, refl, ap, ◌∙◌}
use Prim.Native.Nat.{◌+◌}
use native.Mathlib.Omega.{arith}
use borrow.Author.Rules.{rules}
use Rattle.bits.specs.Bits.{bit_of, run}
use Rattle.code.specs.Word.{zeros}
use Rattle.zeros.proofs.Counting.{run-zeros-le, zeros-next, limit-reached, limit-below, chunk-bounds}
use Rattle.zeros.proofs.zeros_to.Goals as goal

pub loop-i-init : goal.loop-i-init
loop-i-init c = (search rules, unfold run zeros in refl)

pub returns-then-limit-found : goal.returns-then-limit-found
returns-then-limit-found c = let l = c.loop-i in limit-reached _ _ _ _ _ l.invariant.1 l.invariant.0 c.if-limit-found.true

pub overflow_add-p : goal.overflow_add-p
overflow_add-p c = omega (arith, c.loop-i.invariant.0, c.requires.fits)

pub word_zeros-more-requires : goal.word_zeros-more-requires
word_zeros-more-requires c = let k = chunk-bounds _ (omega arith) c.chunk_of-k.ensures in (omega (arith, k.0), omega (arith, k.1))

pub overflow_add-found : goal.overflow_add-found
overflow_add-found c = let l = c.loop-i in
    let k = chunk-bounds _ (omega arith) c.chunk_of-k.ensures in
    let x = run-zeros-le (bit_of c.args.page.now) c.args.at l.i in
    let y = run-zeros-le (bit_of c.args.page.now) (c.args.at + l.i) c.chunk_of-k.result in
    omega (arith, l.invariant.1, c.word_zeros-more.ensures, k.2, c.requires.fits)

pub overflow_add-i : goal.overflow_add-i
overflow_add-i c = let l = c.loop-i in
    let k = chunk-bounds _ (omega arith) c.chunk_of-k.ensures in
    omega (arith, k.2, c.requires.fits)

pub loop-i-smaller : goal.loop-i-smaller
loop-i-smaller c = let k = chunk-bounds _ (omega arith) c.chunk_of-k.ensures in
    omega (arith, k.0, k.2)

pub loop-i-preserved : goal.loop-i-preserved
loop-i-preserved c = let l = c.loop-i in
    let k = chunk-bounds _ (omega arith) c.chunk_of-k.ensures in
    (omega (arith, k.2), zeros-next _ _ _ _ l.invariant.1 refl c.word_zeros-more.ensures)

pub returns-then-found-limit : goal.returns-then-found-limit
returns-then-found-limit c = let l = c.loop-i in
    let e : l.i ≡ c.args.n = omega (arith, l.invariant.0) in
    limit-below _ _ _ _ (l.invariant.1 ∙ ap (λ j. zeros (run (bit_of c.args.page.now) c.args.at j)) e) c.if-found-limit.true

pub returns-else-found-limit : goal.returns-else-found-limit
returns-else-found-limit c = let l = c.loop-i in limit-reached _ _ _ _ _ l.invariant.1 l.invariant.0 c.if-found-limit.false
