use native.Mathlib.Omega.{arith}
use Rattle.bits.proofs.Runs.{run_length}
use Rattle.block_write.proofs.Encoding.{encoded-put}
use Rattle.block_write.proofs.write_covered.Goals as goal

pub copy_in-requires : goal.copy_in-requires
copy_in-requires c = (c.requires.2, c.requires.3, record { inside = omega arith; ends = omega arith; fits = omega arith })

pub returns : goal.returns
returns c = let a = c.args in
    encoded-put a.shape a.mark a.page.now a.position _ (run_length _ _ _)
    (record { inside = omega arith; ends = omega arith; fits = omega arith }) c.copy_in.ensures c.write_parity.ensures
