-- The laws of editions: 1 and 2 are offered, and no level field goes beyond 0x1F.
use mathlib.Core.Path.{◌≡◌, refl}
use mathlib.Core.Bool.{Bool, true, false, cond}
use mathlib.Core.Logic.{◌⊎◌, inl, inr}
use Prim.Native.Nat.{ℕ, ◌≤◌}
use native.Mathlib.Omega.{arith}
use lib.Dec.{eqb}
use borrow.Author.Tests.{eqb-true}
use Rattle.replies.specs.Edition.{offered, highest}

-- An edition that is offered is 1 or 2.
pub offered-editions : (e : ℕ) → offered e ≡ true → (e ≡ 1) ⊎ (e ≡ 2)
unfolding offered
offered-editions e h = go (eqb e 1) refl h
  where
    go : (b : Bool) → eqb e 1 ≡ b → cond b true (eqb e 2) ≡ true → (e ≡ 1) ⊎ (e ≡ 2)
    go true k x = inl (eqb-true e 1 k)
    go false k x = inr (eqb-true e 2 x)

-- So t is at most 62.
pub highest-small : (e : ℕ) → highest e ≤ 31
unfolding highest
highest-small e = go (eqb e 1)
  where
    go : (b : Bool) → cond b 20 31 ≤ 31
    go true = omega arith
    go false = omega arith
