-- Numbers of zeros.
use mathlib.Core.Path.{◌≡◌, refl}
use mathlib.Core.Bool.{true, false}
use mathlib.Core.List.{[], ◌∷◌, ◌++◌}
use Prim.Native.Nat.{ℕ, zero, suc, ◌+◌, ◌≤◌, ◌<◌}
use native.Mathlib.Omega.{arith}
use native.Mathlib.Decide.{dec_lt}
use lib.ListN.{length, replicate}
use borrow.Author.Tests.{lt-ltb, le-ltb}
use Rattle.algebra.specs.Word.{flip}
use Rattle.bits.specs.Bits.{digit}
use Rattle.code.specs.Word.{Word, ones, zeros, zeros_to}

pub zeros-ones : (w : Word) → zeros w + ones w ≡ length w
unfolding zeros ones flip digit
zeros-ones [] = refl
zeros-ones (true ∷ w) = let h = zeros-ones w in omega arith
zeros-ones (false ∷ w) = let h = zeros-ones w in omega arith

pub zeros-append : (v w : Word) → zeros (v ++ w) ≡ zeros v + zeros w
unfolding zeros
zeros-append [] w = omega arith
zeros-append (b ∷ v) w = let h = zeros-append v w in omega arith

-- a word of ones has none
pub zeros-none : (n : ℕ) → zeros (replicate n true) ≡ 0
unfolding zeros flip digit
zeros-none zero = refl
zeros-none (suc n) = let h = zeros-none n in omega arith

-- ---- counted no further than t + 1

pub zeros_to-few : (t : ℕ) (w : Word) → zeros_to (suc t) w ≤ t → zeros_to (suc t) w ≡ zeros w
unfolding zeros_to
zeros_to-few t w h = elim (dec_lt (zeros w) (suc t)) [
  | yes l ↦ rw (lt-ltb (zeros w) (suc t) l)
  | no l ↦ (let e : suc t ≤ zeros w = omega arith in let k : suc t ≤ t = rw (le-ltb (zeros w) (suc t) e) at h in absurd (omega arith))
]

pub zeros_to-many : (t : ℕ) (w : Word) → t < zeros_to (suc t) w → t < zeros w
unfolding zeros_to
zeros_to-many t w h = elim (dec_lt (zeros w) (suc t)) [
  | yes l ↦ rw (lt-ltb (zeros w) (suc t) l) at h
  | no l ↦ omega arith
]
