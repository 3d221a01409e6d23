-- The zeros of a run of the stream, counted in one part or in two.
use mathlib.Core.Path.{◌≡◌, ap, ◌∙◌}
use mathlib.Core.List.{List, ◌++◌}
use Prim.Native.Nat.{ℕ, ◌+◌, ◌-◌, ◌<◌, ◌≤◌}
use native.Mathlib.Omega.{arith}
use native.Mathlib.Decide.{dec_lt}
use borrow.Author.Tests.{lt-ltb, le-ltb}
use Rattle.bits.specs.Bits.{bit_of, run}
use Rattle.code.specs.Word.{Word, zeros, zeros_to}
use Rattle.code.proofs.Zeros.{zeros-append}
use Rattle.mark.specs.declared.Mark.{Mark}
use Rattle.mark.specs.Mark.{place, stream_bit, near}
use Rattle.page_runs.proofs.Parts.{run-before, run-parts}

zeros_to-below : (limit : ℕ) (w : Word) → zeros w < limit → zeros_to limit w ≡ zeros w
unfolding zeros_to
zeros_to-below limit w h = simp (lt-ltb (zeros w) limit h)

zeros_to-above : (limit : ℕ) (w : Word) → limit ≤ zeros w → zeros_to limit w ≡ limit
unfolding zeros_to
zeros_to-above limit w h = simp (le-ltb (zeros w) limit h)

pub zeros_to-le : (limit : ℕ) (w : Word) {x : ℕ} → x ≡ zeros_to limit w → x ≤ limit
zeros_to-le limit w e = elim (dec_lt (zeros w) limit) [
  | yes h ↦ omega (arith, zeros_to-below limit w h)
  | no h ↦ omega (arith, zeros_to-above limit w (omega arith))
]

zeros_to-append : (limit : ℕ) (v w : Word) {x y : ℕ} → x ≡ zeros_to limit v → y ≡ zeros_to (limit - x) w → x + y ≡ zeros_to limit (v ++ w)
zeros_to-append limit v w {x} {y} ex ey = elim (dec_lt (zeros v) limit) [
  | yes h ↦
      let b = zeros_to-below limit v h in
      elim (dec_lt (zeros w) (limit - x)) [
        | yes l ↦ let d = zeros_to-below (limit - x) w l in omega (arith, zeros_to-below limit (v ++ w) (omega (arith, zeros-append v w)), zeros-append v w)
        | no l ↦
            let d = zeros_to-above (limit - x) w (omega arith) in
            omega (arith, zeros_to-above limit (v ++ w) (omega (arith, zeros-append v w)))
      ]
  | no h ↦
      let b = zeros_to-above limit v (omega arith) in
      let d = zeros_to-above (limit - x) w (omega arith) in
      omega (arith, zeros_to-above limit (v ++ w) (omega (arith, zeros-append v w)))
]

module _ (k : Mark) (page : List ℕ) (s n limit : ℕ) {a : ℕ} (ea : a ≡ near k s n) where
  pub zeros-before : {x : ℕ} → a ≡ n → x ≡ zeros_to limit (run (bit_of page) s n) → x ≡ zeros_to limit (run (stream_bit k page) s n)
  zeros-before e ex = ex ∙ ap (zeros_to limit) (run-before k page s n ea e)

  pub zeros-parts : (a ≡ n → ⊥) → {q x y : ℕ} → q ≡ place k (s + a) → x ≡ zeros_to limit (run (bit_of page) s a)
      → y ≡ zeros_to (limit - x) (run (bit_of page) q (n - a)) → x + y ≡ zeros_to limit (run (stream_bit k page) s n)
  zeros-parts ne {q} eq ex ey =
      zeros_to-append limit (run (bit_of page) s a) (run (bit_of page) q (n - a)) ex ey ∙ ap (zeros_to limit) (run-parts k page s n ea ne eq)
