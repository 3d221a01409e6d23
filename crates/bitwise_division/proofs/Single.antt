-- Laws of the division bit by bit, with divisor and parity moved up to whole words.
use mathlib.Core.Path.{◌≡◌, refl, sym, ap, ap₂, ◌∙◌, subst}
use mathlib.Core.List.{List, [], ◌∷◌}
use Prim.Native.Nat.{ℕ, zero, suc, ◌+◌, ◌-◌, ◌*◌, ◌/◌, ◌%◌, ◌^◌, ◌<◌}
use native.Mathlib.Omega.{arith}
use native.Mathlib.Nat.{add-zero, mod-eq_of_lt}
use lib.Dec.{eqb}
use lib.Bits.{bit_xor, xor_zero_l, xor_self}
use lib.Pow.{shr_lt}
use Rattle.bits.specs.Bits.{bit, bit_at, bit_of, run, digits}
use Rattle.bits.proofs.Numbers.{bit-zero}
use Rattle.code.specs.Word.{Word}
use Rattle.code.specs.Register.{low}
use Rattle.remainder.specs.Parity.{parity_from, rest}
use Rattle.remainder.proofs.Words.{Words, low-lt}
use Rattle.remainder.proofs.Parity.{rest-zero, rest-one, parity-digits, parity-below}
use Rattle.division_table.specs.Table.{RowWords}
use Rattle.division_table.proofs.Filling.{wide-some, divisor-monic, divisor-rest}
use Rattle.division_steps.proofs.Steps.{parity-parts}

-- two digits that differ sum up to 1
differ-one : (x y : ℕ) → x < 2 → y < 2 → (x ≡ y → ⊥) → bit_xor x y ≡ 1
differ-one zero zero hx hy ne = absurd (ne refl)
differ-one zero (suc zero) hx hy ne = refl
differ-one (suc zero) zero hx hy ne = refl
differ-one (suc zero) (suc zero) hx hy ne = absurd (ne refl)
differ-one zero (suc (suc y)) hx hy ne = absurd (omega arith)
differ-one (suc zero) (suc (suc y)) hx hy ne = absurd (omega arith)
differ-one (suc (suc x)) y hx hy ne = absurd (omega arith)

-- a divisor of degree 64 used, whose other coefficients are in the first words of a row
module _ (used : ℕ) (row : List ℕ) (wide : RowWords used) (words : Words row) where
  abbrev G : ℕ
  G = 2 ^ (64 * used) + low row used

  some : 0 < 64 * used
  some = let s = wide-some wide in omega arith

  monic : G / 2 ^ (64 * used) ≡ 1
  monic = divisor-monic used (low row used) (low-lt row words used)

  pub taken-below : (r : ℕ) (w : Word) {x : ℕ} → r < 2 ^ (64 * used) → x ≡ parity_from (64 * used) G r w → x < 2 ^ (64 * used)
  taken-below r w h e = rw e (parity-below (64 * used) G some monic r w h)

  module _ (r b : ℕ) (hr : r < 2 ^ (64 * used)) (hb : b < 2) {highest next : ℕ} (eh : highest ≡ bit r (64 * used - 1)) (en : next ≡ (r * 2 + 0) % 2 ^ (64 * used)) where
    top_small : r / 2 ^ (64 * used - 1) < 2
    top_small =
        let s = some in
        let e : 64 * used ≡ 1 + (64 * used - 1) = omega arith in
        shr_lt 1 (64 * used - 1) (subst (λ n. r < 2 ^ n) e hr)

    top-is : highest ≡ r / 2 ^ (64 * used - 1)
    unfolding bit
    top-is = let l = top_small in omega (arith, eh)

    next-is : next ≡ r * 2 ^ 1 % 2 ^ (64 * used)
    next-is = en ∙ ap (λ x. x % 2 ^ (64 * used)) (add-zero (r * 2))

    stepped : {v : ℕ} → v ≡ bit_xor (r / 2 ^ (64 * used - 1)) b → parity_from (64 * used) G r (digits b 1) ≡ bit_xor (rest (64 * used) G v) (r * 2 ^ 1 % 2 ^ (64 * used))
    stepped ev = parity-digits (64 * used) G some 1 r b (let s = some in omega arith) hr hb ev

    pub bit_kept : highest ≡ b → next ≡ parity_from (64 * used) G r (digits b 1)
    bit_kept e =
        let z : 0 ≡ bit_xor (r / 2 ^ (64 * used - 1)) b = sym (ap₂ bit_xor (sym top-is ∙ e) refl ∙ xor_self b) in
        next-is ∙ sym (stepped z ∙ rw (rest-zero (64 * used) G) (xor_zero_l _))

    pub bit_added : {x : ℕ} → (highest ≡ b → ⊥) → x ≡ bit_xor (low row used) next → x ≡ parity_from (64 * used) G r (digits b 1)
    bit_added ne ex =
        let l = top_small in
        let o : 1 ≡ bit_xor (r / 2 ^ (64 * used - 1)) b = sym (differ-one (r / 2 ^ (64 * used - 1)) b l hb (λ e. ne (top-is ∙ e))) in
        ex ∙ ap (bit_xor (low row used)) next-is
        ∙ sym (stepped o ∙ ap (λ y. bit_xor y (r * 2 ^ 1 % 2 ^ (64 * used))) (rest-one (64 * used) G some monic ∙ divisor-rest used (low row used) (low-lt row words used)))

-- one more bit of a run, as the loop takes it
digit-one : (b : ℕ) → b < 2 → digits b 1 ≡ eqb b 1 ∷ []
unfolding digits
digit-one b h = let e : bit b 0 ≡ b = bit-zero b ∙ mod-eq_of_lt h in ap (λ x. eqb x 1 ∷ []) e

pub run-start : (d g r : ℕ) (page : List ℕ) (s : ℕ) → r ≡ parity_from d g r (run (bit_of page) s 0)
unfolding run parity_from
run-start d g r page s = refl

pub run-next : (d g r : ℕ) (page : List ℕ) (s i : ℕ) {v x b : ℕ} → v ≡ parity_from d g r (run (bit_of page) s i) → b ≡ bit_at page (s + i) → b < 2
    → x ≡ parity_from d g v (digits b 1) → x ≡ parity_from d g r (run (bit_of page) s (i + 1))
unfolding bit_of run
run-next d g r page s i {v} {x} {b} ev eb hb ex =
    let one : digits b 1 ≡ run (bit_of page) (s + i) 1 = digit-one b hb ∙ ap (λ y. eqb y 1 ∷ []) eb in
    parity-parts d g r page s i 1 refl refl ev (ex ∙ ap (parity_from d g v) one)
