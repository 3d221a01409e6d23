use native.Mathlib.Omega.{arith}
use Rattle.bits.proofs.Decides.{decides-true}
use Rattle.block_claim.proofs.Claims.{code-every, longest-room}
use Rattle.block_claim.proofs.leads_to_code.Goals as goal

pub returns-then-shape-eq0 : goal.returns-then-shape-eq0
returns-then-shape-eq0 c = decides-true (code-every _ _ _ c.if-shape-eq0.true)

pub is_code_flipped-requires : goal.is_code_flipped-requires
is_code_flipped-requires c = let s = c.args.shape in
    let l = longest-room s.field s.level _ c.requires.1 c.if-shape-eq0.false in
    (c.requires.0, c.requires.2, c.requires.3, record { ends = omega arith; fits = omega arith })
