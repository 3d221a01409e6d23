use native.Mathlib.Omega.{arith}
use Rattle.mark.specs.Mark.{stream_bit}
use Rattle.bits.proofs.Decides.{decides-false}
use Rattle.bits.proofs.Runs.{run_length}
use Rattle.block_claim.proofs.is_right.Goals as goal

pub returns-then-level-claims : goal.returns-then-level-claims
returns-then-level-claims c = decides-false (λ r. let l = r.few in omega arith)

pub returns-then-not-within : goal.returns-then-not-within
returns-then-not-within c = let a = c.args in
    let n = run_length (stream_bit a.mark a.page.now) a.position a.shape.covered in
    decides-false (λ r. c.within.ensures.fails c.if-not-within.true (λ i l. let k = r.below i l in omega arith))

pub returns-then-not-distinct : goal.returns-then-not-distinct
returns-then-not-distinct c = decides-false (λ r. c.distinct.ensures.fails c.if-not-distinct.true r.distinct)

pub leads_to_code-requires : goal.leads_to_code-requires
leads_to_code-requires c = (c.requires.0, c.requires.1, c.requires.2, c.within.ensures.holds c.if-not-within.false)

pub returns : goal.returns
returns c = let n = run_length (stream_bit c.args.mark c.args.page.now) c.args.position c.args.shape.covered in
    record {
      holds = λ y. record {
        distinct = c.distinct.ensures.holds c.if-not-distinct.false;
        below = λ i l. let k = c.within.ensures.holds c.if-not-within.false i l in omega arith;
        few = omega arith;
        code = c.leads_to_code.ensures.holds y;
      };
      fails = λ y r. c.leads_to_code.ensures.fails y r.code;
    }
