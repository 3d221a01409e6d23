-- All-zero payloads: all messages and all parity bits are zero.
use mathlib.Core.Path.{◌≡◌, refl, ap₂}
use mathlib.Core.Bool.{Bool, false}
use mathlib.Core.List.{◌∷◌}
use Prim.Native.Nat.{ℕ, zero, suc, ◌*◌, ◌/◌}
use native.Mathlib.Nat.{zero-div}
use lib.ListN.{get_or, replicate}
use Rattle.field.specs.Field.{degree}
use Rattle.bits.specs.Bits.{bit, bit_at, bit_of, run}
use Rattle.layout_plan.specs.declared.Plan.{Plan}
use Rattle.layout_plan.specs.Plan.{bits, field, level}
use Rattle.code.specs.Generator.{parity}
use Rattle.code.proofs.Dividend.{parity-zeros}
use Rattle.page_theory.specs.Page.{message}

pub replicate-at : {A : Type 0} (n i : ℕ) (x : A) → get_or (replicate n x) i x ≡ x
replicate-at zero i x = refl
replicate-at (suc n) zero x = refl
replicate-at (suc n) (suc i) x = replicate-at n i x

bit_of-zeros : (n p : ℕ) → bit_of (replicate n 0) p ≡ false
unfolding bit_of bit_at bit
bit_of-zeros n p = rw (replicate-at {A = ℕ} n (p / 8) 0, zero-div)

run-zeros : (f : ℕ → Bool) (s n : ℕ) → ((p : ℕ) → f p ≡ false) → run f s n ≡ replicate n false
unfolding run
run-zeros f s zero h = refl
run-zeros f s (suc n) h = ap₂ ◌∷◌ (h s) (run-zeros f (suc s) n h)

message-zeros : (q : Plan) (n b : ℕ) → message q (replicate n 0) b ≡ replicate (bits q b) false
unfolding message
message-zeros q n b = run-zeros _ _ _ (bit_of-zeros n)

pub zeros-parity : (q : Plan) (n b : ℕ)
    → parity (field q b) (level q b) (message q (replicate n 0) b) ≡ replicate (degree (field q b) * level q b) false
zeros-parity q n b = rw (message-zeros q n b) (parity-zeros (field q b) (level q b) (bits q b))
