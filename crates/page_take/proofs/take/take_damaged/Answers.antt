use Prim.Native.Nat.{ℕ}
use native.Mathlib.Omega.{arith}
use lib.ListN.{length-replicate}
use Rattle.page_take.proofs.take.take_damaged.Goals as goal

pub take_placed-requires : goal.take_placed-requires
take_placed-requires c = let p = c.requires in
    record { ready = p.ready; scanned = (p.scanned.0, p.scanned.1, p.scanned.2, omega (arith, p.ready.0.plan.few, length-replicate {A = ℕ} 16384 0)) }
