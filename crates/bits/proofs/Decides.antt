-- A Bool that says whether something holds.
use mathlib.Core.Path.{◌≡◌, sym}
use mathlib.Core.Bool.{Bool, true, false}
use Prim.Native.Nat.{ℕ}
use native.Mathlib.Omega.{arith}
use Rattle.bits.specs.Decides.{Decides}

apart : {A : Type 0} → true ≡ false → A
apart e = let z : ◌≡◌ {A = ℕ} 0 1 = cc in absurd (omega arith)

pub decides-true : {P : Type 0} → P → Decides true P
decides-true p = record { holds = λ e. p; fails = λ e. apart e }

pub decides-false : {P : Type 0} → (P → ⊥) → Decides false P
decides-false q = record { holds = λ e. apart (sym e); fails = λ e. q }

pub decides-as : {r : Bool} {P Q : Type 0} → (P → Q) → (Q → P) → Decides r P → Decides r Q
decides-as to from d = record { holds = λ e. to (d.holds e); fails = λ e q. d.fails e (from q) }
