-- Records of two words and of three.
--
-- record-long, record-three     a record has eight bytes at least, and twelve where it has not eight
-- no_byte                       a record of eight bytes has no third word
use mathlib.Core.Path.{◌≡◌, refl}
use mathlib.Core.Bool.{Bool, true, false, cond}
use mathlib.Core.List.{List}
use Prim.Native.Nat.{ℕ, ◌≤◌}
use native.Mathlib.Omega.{arith}
use lib.ListN.{length, get_or, get_or-eq_default}
use lib.Dec.{eqb}
use borrow.Author.Tests.{eqb-true, ne_eqb}
use Rattle.layout_plan.specs.Record.{record_length}

pub record-three : (n : ℕ) → record_length n ≡ true → (n ≡ 8 → ⊥) → n ≡ 12
unfolding record_length
record-three n e h = eqb-true n 12 (simp (ne_eqb n 8 h) at e)

pub record-long : (n : ℕ) → record_length n ≡ true → 8 ≤ n
unfolding record_length
record-long n e = go (eqb n 8) refl e
  where
    go : (b : Bool) → eqb n 8 ≡ b → cond b true (eqb n 12) ≡ true → 8 ≤ n
    go true k h = omega (arith, eqb-true n 8 k)
    go false k h = omega (arith, eqb-true n 12 h)

pub no_byte : (l : List ℕ) (i : ℕ) → length l ≡ 8 → 8 ≤ i → get_or l i 0 ≡ 0
no_byte l i e h = get_or-eq_default l 0 (omega arith)
