-- Laws of the division by the generator of a level: what is moved up to whole words and divided there is the remainder by the generator.
use mathlib.Core.Path.{◌≡◌, refl, sym, ap, ap₂, ◌∙◌}
use mathlib.Core.Bool.{false}
use mathlib.Core.List.{List, ◌++◌}
use Prim.Native.Nat.{ℕ, ◌+◌, ◌-◌, ◌*◌, ◌/◌, ◌%◌, ◌^◌, ◌<◌, ◌≤◌}
use native.Mathlib.Omega.{arith}
use native.Mathlib.Decide.{ℕ_discrete}
use native.Mathlib.Nat.{le_of_eq, le_trans, lt_of_le_of_lt, mod-le, mod-eq_of_lt, zero-mul, zero-add}
use lib.ListN.{length, replicate}
use lib.Pow.{pow_mono, shl-shr, shl_lt}
use lib.Bits.{bit_xor}
use Rattle.bits.specs.Bits.{bit_of, run, number}
use Rattle.bits.proofs.Runs.{run_length, run-append}
use Rattle.bits.proofs.Pages.{number-run-lt}
use Rattle.field.specs.declared.Field.{Field}
use Rattle.field.specs.declared.Field.TheVariants.{Thirteen, Fourteen}
use Rattle.field.specs.Field.{degree}
use Rattle.code.specs.Word.{Word}
use Rattle.code.specs.Generator.{generator, remainder}
use Rattle.code.specs.Register.{low}
use Rattle.code.proofs.Remainder.{remainder-below}
use Rattle.remainder.specs.Remainder.{remainder_from}
use Rattle.remainder.specs.Parity.{parity_from}
use Rattle.remainder.proofs.Fold.{remainder-from, remainder-append, remainder_from-short}
use Rattle.remainder.proofs.Parity.{from-word, parity-message, parity-up}
use Rattle.division_table.specs.Table.{width, gap, divisor_of, Rests, Table}
use Rattle.division_table.proofs.Level.{level-words, level-room}

pub degree-some : (f : Field) (t : ℕ) → 0 < t → 0 < degree f * t
unfolding degree
degree-some Thirteen t h = omega arith
degree-some Fourteen t h = omega arith

-- at t = 0 every remainder is zero
pub remainder-none : (f : Field) (t : ℕ) (w : Word) {x : ℕ} → t ≡ 0 → x ≡ 0 → x ≡ remainder f t w
remainder-none f t w et ex =
    let e : degree f * t ≡ 0 = rw et (omega arith) in
    let l : remainder f t w < 2 ^ (degree f * t) = remainder-below f t w (omega arith) in
    let k : remainder f t w < 2 ^ 0 = rw e at l in
    ex ∙ omega arith

-- The parity r so far is moved up to u whole words, more is divided there by the generator moved up as far, and the result is moved down.
module _ (f : Field) (t : ℕ) (h : 0 < t) (most : t ≤ 62) {d u : ℕ} (ed : d ≡ degree f * t) (eu : u ≡ width d) (r : ℕ) (hr : r < 2 ^ (degree f * t)) where
  pub up-below : {b : ℕ} → b ≡ r * 2 ^ (64 * u - d) % 2 ^ 896 → b < 2 ^ (64 * u)
  up-below eb =
      let m = level-room f t most ed eu in
      let e : d + (64 * u - d) ≡ 64 * u = omega arith in
      let l : r * 2 ^ (64 * u - d) < 2 ^ (d + (64 * u - d)) = shl_lt d (64 * u - d) (rw ed hr) in
      lt_of_le_of_lt (le_trans (le_of_eq eb) (mod-le (r * 2 ^ (64 * u - d)) (2 ^ 896))) (rw e at l)

  pub up_fits : {b : ℕ} → b ≡ r * 2 ^ (64 * u - d) % 2 ^ 896 → b ≡ r * 2 ^ (64 * u - d)
  up_fits eb =
      let w = level-words f t most ed eu in
      let m = level-room f t most ed eu in
      let e : d + (64 * u - d) ≡ 64 * u = omega arith in
      let l : r * 2 ^ (64 * u - d) < 2 ^ (d + (64 * u - d)) = shl_lt d (64 * u - d) (rw ed hr) in
      eb ∙ mod-eq_of_lt (le_trans (rw e at l) (pow_mono {i = 64 * u} {j = 896} (omega arith)))

  pub up-divided : (w : Word) {G b a x : ℕ} → G ≡ generator f t * 2 ^ (64 * u - d) → b ≡ r * 2 ^ (64 * u - d) → a ≡ parity_from (64 * u) G b w → x ≡ a / 2 ^ (64 * u - d)
      → x ≡ parity_from (degree f * t) (generator f t) r w
  up-divided w e_g eb ea ex =
      let m = level-room f t most ed eu in
      let D : ℕ = degree f * t in
      let g : ℕ = generator f t in
      let k : ℕ = 64 * u - d in
      let e : 64 * u ≡ k + D = omega arith in
      ex ∙ ap (λ y. y / 2 ^ k) (ea ∙ ap₂ (λ (x y : ℕ). parity_from (64 * u) x y w) e_g eb ∙ ap (λ n. parity_from n (g * 2 ^ k) (r * 2 ^ k) w) e ∙ parity-up k D g (degree-some f t h) r w)
      ∙ shl-shr (parity_from D g r w) k

-- the divisor of the level, in words and in its table

pub divisor-is : (f : Field) (t : ℕ) {d u : ℕ} → d ≡ degree f * t → u ≡ width d → (row : List ℕ)
    → 2 ^ (64 * width (degree f * t)) + low row (width (degree f * t)) ≡ generator f t * 2 ^ gap (degree f * t) → 2 ^ (64 * u) + low row u ≡ generator f t * 2 ^ (64 * u - d)
unfolding gap
divisor-is f t ed eu row e = rw (eu, ed) e

module _ (f : Field) (t : ℕ) {bytes : List ℕ} (table : Table f t bytes) (h : 0 < t) {d u : ℕ} (ed : d ≡ degree f * t) (eu : u ≡ width d) where
  pub table-rests : Rests u bytes
  table-rests = rw (eu, ed) (table.rests h)

  pub table-divides : divisor_of u bytes ≡ generator f t * 2 ^ (64 * u - d)
  unfolding gap
  table-divides = rw (eu, ed) (table.generates h)

module _ (f : Field) (t : ℕ) where
  -- the last mt bits of a word are added to the parity of those before

  remainder-short : (w : Word) → length w ≤ degree f * t → remainder f t w ≡ number w
  remainder-short w l = remainder-from f t w ∙ remainder_from-short (degree f * t) (generator f t) 0 0 w (omega arith) (omega arith) ∙ rw (zero-mul (2 ^ length w)) (zero-add (number w))

  pub remainder-number : (page : List ℕ) (s n : ℕ) {x : ℕ} → n ≤ degree f * t → x ≡ number (run (bit_of page) s n) → x ≡ remainder f t (run (bit_of page) s n)
  remainder-number page s n h ex = let l = run_length (bit_of page) s n in ex ∙ sym (remainder-short (run (bit_of page) s n) (omega arith))

  remainder-last : 0 < t → (v w : Word) → length w ≡ degree f * t → remainder f t (v ++ w) ≡ bit_xor (remainder f t (v ++ replicate (degree f * t) false)) (number w)
  remainder-last h v w e =
      let D : ℕ = degree f * t in
      let z : remainder_from D (generator f t) (remainder f t v) (replicate (length w) false) ≡ remainder f t (v ++ replicate D false) = rw e (sym (remainder-append f t v (replicate D false))) in
      remainder-append f t v w ∙ from-word D (generator f t) (degree-some f t h) (remainder f t v) w (omega arith) ∙ ap (λ y. bit_xor y (number w)) z

  pub remainder-parts : (page : List ℕ) (s n : ℕ) {d p l x : ℕ} → d ≡ degree f * t → d ≤ n → p ≡ remainder f t (run (bit_of page) s (n - d) ++ replicate (degree f * t) false)
      → l ≡ number (run (bit_of page) (s + (n - d)) d) → x ≡ bit_xor p l → x ≡ remainder f t (run (bit_of page) s n)
  remainder-parts page s n {d} {p} {l} ed h ep el ex =
      let e : n ≡ n - d + d = omega arith in
      let r : run (bit_of page) s n ≡ run (bit_of page) s (n - d) ++ run (bit_of page) (s + (n - d)) d = ap (run (bit_of page) s) e ∙ run-append (bit_of page) s (n - d) d in
      elim (ℕ_discrete t 0) [
        | yes z ↦
            let d0 : d ≡ 0 = ed ∙ rw z (omega arith) in
            let p0 : p ≡ 0 = ep ∙ sym (remainder-none f t _ z refl) in
            let l0 : l < 2 ^ d = rw el (number-run-lt (bit_of page) (s + (n - d)) d) in
            let l1 : l ≡ 0 = (let l2 : l < 2 ^ 0 = rw d0 at l0 in omega arith) in
            remainder-none f t (run (bit_of page) s n) z (ex ∙ rw (p0, l1) refl)
        | no ne ↦ ex ∙ ap₂ bit_xor ep el ∙ sym (rw r (remainder-last (omega arith) (run (bit_of page) s (n - d)) (run (bit_of page) (s + (n - d)) d) (run_length (bit_of page) (s + (n - d)) d ∙ ed)))
      ]

  -- the parity of a message

  pub message-parity : 0 < t → (w : Word) {r x : ℕ} → r ≡ 0 → x ≡ parity_from (degree f * t) (generator f t) r w → x ≡ remainder f t (w ++ replicate (degree f * t) false)
  message-parity h w er ex =
      ex ∙ rw er (parity-message (degree f * t) (generator f t) (degree-some f t h) w ∙ sym (remainder-from f t (w ++ replicate (degree f * t) false)))
