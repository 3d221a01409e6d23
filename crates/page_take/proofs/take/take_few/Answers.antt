use Prim.Native.Nat.{ℕ}
use native.Mathlib.Omega.{arith}
use lib.ListN.{length-replicate}
use Rattle.page_take.proofs.take.take_few.Goals as goal

pub take_placed-requires : goal.take_placed-requires
take_placed-requires c = let p = c.requires in
    record { ready = p.ready; scanned = (p.scanned.0, p.scanned.1, p.scanned.2, omega (arith, p.scanned.3, length-replicate {A = ℕ} 512 0)) }
