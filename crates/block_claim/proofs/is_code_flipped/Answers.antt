use mathlib.Core.Path.{refl, ◌∙◌, ap}
use native.Mathlib.Omega.{arith}
use Rattle.code.specs.Generator.{remainder}
use Rattle.block_claim.proofs.Claims.{zero-decides, copied-flipped}
use Rattle.block_claim.proofs.is_code_flipped.Goals as goal

pub flip_claims-requires : goal.flip_claims-requires
flip_claims-requires c = (c.requires.2, omega arith)

pub returns : goal.returns
returns c = let s = c.args.shape in
    let w = copied-flipped c.args.mark c.args.word.now c.args.page.now c.args.claims.now _ c.args.position _ _ refl (omega arith)
    c.copy_word.ensures c.flip_claims.ensures in
    zero-decides s.field s.level _ (omega arith) c.is_zero.ensures
    (c.remainder_of-remainder.ensures ∙ ap (remainder s.field s.level) w)
