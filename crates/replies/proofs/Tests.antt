-- The test of a rule is the contrary of the test by which a call goes on.
use mathlib.Core.Path.{◌≡◌, refl}
use mathlib.Core.Bool.{true, false, cond}
use Prim.Native.Nat.{ℕ, zero, suc}
use native.Mathlib.Omega.{arith}
use native.Mathlib.Decide.{dec_lt}
use lib.Dec.{eqb, ltb, leb, eqb-suc-zero}
use borrow.Author.Tests.{lt-ltb, le-ltb, le-leb, lt-leb}

pub leb-not : (a b : ℕ) → leb a b ≡ cond (ltb b a) false true
leb-not a b = elim (dec_lt b a) [
  | yes h ↦ rw (lt-ltb b a h, lt-leb a b h)
  | no h ↦ rw (le-ltb b a (omega arith), le-leb a b (omega arith))
]

pub ltb-not : (a b : ℕ) → ltb a b ≡ cond (leb b a) false true
ltb-not a b = elim (dec_lt a b) [
  | yes h ↦ rw (lt-ltb a b h, lt-leb b a h)
  | no h ↦ rw (le-ltb a b (omega arith), le-leb b a (omega arith))
]

pub zero-not : (n : ℕ) → eqb n 0 ≡ cond (ltb 0 n) false true
zero-not zero = refl
zero-not (suc n) = rw (eqb-suc-zero n, lt-ltb 0 (suc n) (omega arith))
