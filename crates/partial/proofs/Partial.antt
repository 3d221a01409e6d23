-- Laws of partial remainders: the remainder that a sum stands for, coefficients that are fed to a partial remainder, and digits that are
-- cleared by multiples of the divisor.
use mathlib.Core.Path.{◌≡◌, refl, sym, ap, ap₂, ◌∙◌}
use mathlib.Core.Bool.{false}
use Prim.Native.Nat.{ℕ, ◌+◌, ◌-◌, ◌*◌, ◌/◌, ◌%◌, ◌^◌, ◌<◌, ◌≤◌}
use native.Mathlib.Omega.{arith}
use native.Mathlib.Nat.{add-zero, zero-mul, mul-mod_left, mod-lt, mod-eq_of_lt, div-eq_of_lt}
use lib.Pow.{pow_pos, pow_mono, pow-add, split, shl-shr, shl_lt, shr-shr, shr_lt, high}
use lib.Bits.{bit_xor, xor_lt, xor_zero_l, xor_zero_r, xor_self, xor_shifted, xor_shr, xor_mod}
use lib.ListN.{length, replicate}
use Rattle.bits.specs.Bits.{digits}
use Rattle.bits.proofs.Numbers.{number_digits, digits-length}
use Rattle.field.proofs.Xor.{xor_assoc, xor-swap}
use Rattle.remainder.specs.Remainder.{remainder_from}
use Rattle.remainder.specs.Parity.{parity_from, rest}
use Rattle.remainder.proofs.Fold.{remainder_from-append, remainder_from-short}
use Rattle.remainder.proofs.Parity.{xor-up, rest-xor, rest-zero, rest_below, parity-digits, parity-zeros}
use Rattle.partial.specs.Partial.{reduced, Stands, Clears}

-- numbers moved up by k digits

moved-lt : (d j k : ℕ) {v : ℕ} → v < 2 ^ j → j + k ≤ d → v * 2 ^ k < 2 ^ d
moved-lt d j k h l =
    let a = shl_lt j k h in
    let m : 2 ^ (j + k) ≤ 2 ^ d = pow_mono l in
    omega arith

moved_twice : (v i k : ℕ) → v * 2 ^ i * 2 ^ k ≡ v * 2 ^ (i + k)
moved_twice v i k = rw (pow-add 2 i k) (omega arith)

module _ (d g : ℕ) where
  pub reduced-xor : (a b : ℕ) → reduced d g (bit_xor a b) ≡ bit_xor (reduced d g a) (reduced d g b)
  unfolding reduced
  reduced-xor a b =
      ap₂ bit_xor (ap (rest d g) (xor_shr a b d) ∙ rest-xor d g (a / 2 ^ d) (b / 2 ^ d)) (xor_mod a b d)
      ∙ xor-swap (rest d g (a / 2 ^ d)) (rest d g (b / 2 ^ d)) (a % 2 ^ d) (b % 2 ^ d)

  -- what is no longer than the divisor allows stands for itself
  pub reduced-small : (s : ℕ) → s < 2 ^ d → reduced d g s ≡ s
  unfolding reduced
  reduced-small s h = ap₂ bit_xor (ap (rest d g) (div-eq_of_lt h) ∙ rest-zero d g) (mod-eq_of_lt h) ∙ xor_zero_l s

  -- a number that is moved up to the degree
  pub reduced-up : (a : ℕ) → reduced d g (a * 2 ^ d) ≡ rest d g a
  unfolding reduced
  reduced-up a = ap₂ bit_xor (ap (rest d g) (shl-shr a d)) (mul-mod_left a (2 ^ d)) ∙ xor_zero_r (rest d g a)

  -- numbers that stand for v x^d

  pub stands-zero : Stands d g 0 0
  stands-zero = record { below = pow_pos (d + 8); same = λ k hk. rw zero-mul (reduced-small 0 (pow_pos d) ∙ sym (rest-zero d g)) }

  pub stands-sum : {a b x y : ℕ} → Stands d g a x → Stands d g b y → Stands d g (bit_xor a b) (bit_xor x y)
  stands-sum {a} {b} {x} {y} s t =
      record {
        below = xor_lt (d + 8) x y s.below t.below;
        same = λ k hk.
            ap (reduced d g) (sym (xor-up k x y)) ∙ reduced-xor (x * 2 ^ k) (y * 2 ^ k) ∙ ap₂ bit_xor (s.same k hk) (t.same k hk)
            ∙ sym (rest-xor d g (a * 2 ^ k) (b * 2 ^ k)) ∙ ap (rest d g) (xor-up k a b);
      }

  -- A multiple of the divisor is added to s, so that the digits of s from d + k on go.

  pub cleared-below : (s c k : ℕ) {x y : ℕ} → c ≡ s / 2 ^ (d + k) → Clears d g c x → y ≡ bit_xor (x * 2 ^ k) s → y < 2 ^ (d + k)
  cleared-below s c k {x} {y} ec h ey =
      let e : d + k ≡ k + d = omega arith in
      let a : x * 2 ^ k / 2 ^ (d + k) ≡ c =
      ap (λ n. x * 2 ^ k / 2 ^ n) e ∙ sym (shr-shr (x * 2 ^ k) k d) ∙ ap (λ n. n / 2 ^ d) (shl-shr x k) ∙ h.top in
      let z : y / 2 ^ (d + k) ≡ 0 = ap (λ n. n / 2 ^ (d + k)) ey ∙ xor_shr (x * 2 ^ k) s (d + k) ∙ ap₂ bit_xor a (sym ec) ∙ xor_self c in
      let p : y / 2 ^ (d + k) * 2 ^ (d + k) ≡ 0 = rw z (zero-mul (2 ^ (d + k))) in
      let q = split y (d + k) in
      let m = mod-lt y (pow_pos (d + k)) in
      omega arith

  pub cleared : (s c k : ℕ) {x y : ℕ} → k ≤ 60 → Clears d g c x → y ≡ bit_xor (x * 2 ^ k) s → reduced d g y ≡ reduced d g s
  cleared s c k {x} hk h ey =
      ap (reduced d g) ey ∙ reduced-xor (x * 2 ^ k) s ∙ ap (λ n. bit_xor n (reduced d g s)) (h.same k hk) ∙ xor_zero_l (reduced d g s)

  module _ (wide : 128 ≤ d) where
    -- a remainder moved up by k digits, with k coefficients at the degree, stands for the remainder after those coefficients
    pub reduced-pushed : (k r b : ℕ) → k ≤ 64 → r < 2 ^ d → b < 2 ^ k → reduced d g (bit_xor (r * 2 ^ k) (b * 2 ^ d)) ≡ parity_from d g r (digits b k)
    unfolding reduced
    reduced-pushed k r b hk hr hb =
        let e : d ≡ k + (d - k) = omega arith in
        let q : r * 2 ^ k / 2 ^ d ≡ r / 2 ^ (d - k) =
        ap (λ n. r * 2 ^ k / 2 ^ n) e ∙ sym (shr-shr (r * 2 ^ k) k (d - k)) ∙ ap (λ n. n / 2 ^ (d - k)) (shl-shr r k) in
        let t : bit_xor (r * 2 ^ k) (b * 2 ^ d) / 2 ^ d ≡ bit_xor (r / 2 ^ (d - k)) b = xor_shr (r * 2 ^ k) (b * 2 ^ d) d ∙ ap₂ bit_xor q (shl-shr b d) in
        let m : bit_xor (r * 2 ^ k) (b * 2 ^ d) % 2 ^ d ≡ r * 2 ^ k % 2 ^ d =
        xor_mod (r * 2 ^ k) (b * 2 ^ d) d ∙ ap (bit_xor (r * 2 ^ k % 2 ^ d)) (mul-mod_left b (2 ^ d)) ∙ xor_zero_r (r * 2 ^ k % 2 ^ d) in
        ap (bit_xor (rest d g (bit_xor (r * 2 ^ k) (b * 2 ^ d) / 2 ^ d))) m ∙ sym (parity-digits d g (omega arith) k r b (omega arith) hr hb t)

    -- zeros that are fed to a remainder, as long as the number that it is of stays below the degree

    short : (v k : ℕ) → k ≤ 64 → v * 2 ^ k < 2 ^ d → v < 2 ^ (d - k)
    short v k hk h = let e : d ≡ d - k + k = omega arith in rw (← shl-shr v k) (shr_lt (d - k) k (rw (← e) h))

    pub rest-pushed : (v k : ℕ) → k ≤ 64 → v * 2 ^ k < 2 ^ d → parity_from d g (rest d g v) (digits 0 k) ≡ rest d g (v * 2 ^ k)
    unfolding rest
    rest-pushed v k hk h =
        let o : 0 % 2 ^ k ≡ 0 = mod-eq_of_lt (pow_pos k) in
        let l : length (digits 0 k) ≡ k = digits-length 0 k in
        let z : remainder_from d g v (digits 0 k) ≡ v * 2 ^ k =
        remainder_from-short d g v (d - k) (digits 0 k) (short v k hk h) (omega arith) ∙ rw (l, number_digits 0 k, o) (add-zero (v * 2 ^ k)) in
        parity-zeros d g (omega arith) v (digits 0 k) ∙ remainder_from-append d g v (digits 0 k) (replicate d false)
        ∙ ap (λ n. remainder_from d g n (replicate d false)) z

    module _ (monic : g / 2 ^ d ≡ 1) where
      pub reduced-below : (s : ℕ) → s < 2 ^ (d + 64) → reduced d g s < 2 ^ d
      unfolding reduced
      reduced-below s h =
          let e : d + 64 ≡ 64 + d = omega arith in
          let t : s / 2 ^ d < 2 ^ 64 = shr_lt 64 d (rw (← e) h) in
          let m : 2 ^ 64 ≤ 2 ^ d = pow_mono {i = 64} {j = d} (omega arith) in
          xor_lt d (rest d g (s / 2 ^ d)) (s % 2 ^ d) (rest_below d g (omega arith) monic (s / 2 ^ d) (omega arith)) (mod-lt s (pow_pos d))

      -- a remainder moved up by k digits stands for that of the number moved up
      pub rest-moved : (v k : ℕ) → k ≤ 64 → v * 2 ^ k < 2 ^ d → reduced d g (rest d g v * 2 ^ k) ≡ rest d g (v * 2 ^ k)
      rest-moved v k hk h =
          let l = short v k hk h in
          let m : 2 ^ (d - k) ≤ 2 ^ d = pow_mono {i = d - k} {j = d} (omega arith) in
          ap (reduced d g) (sym (xor_zero_r (rest d g v * 2 ^ k)) ∙ ap (bit_xor (rest d g v * 2 ^ k)) (sym (zero-mul (2 ^ d))))
          ∙ reduced-pushed k (rest d g v) 0 hk (rest_below d g (omega arith) monic v (omega arith)) (pow_pos k) ∙ rest-pushed v k hk h

      -- 64 coefficients w that are fed to a partial remainder s: its digits from d on are divided apart from n, which has the others and w.
      pub partial-step : (s w : ℕ) → s < 2 ^ (d + 64) → w < 2 ^ 64 → {n y : ℕ} → n ≡ bit_xor (s % 2 ^ d * 2 ^ 64) (w * 2 ^ d)
          → y ≡ bit_xor (rest d g (s / 2 ^ d * 2 ^ 64)) (reduced d g n) → y ≡ parity_from d g (reduced d g s) (digits w 64)
      partial-step s w hs hw {n} {y} en ey =
          let a : ℕ = rest d g (s / 2 ^ d) in
          let b : ℕ = s % 2 ^ d in
          let es : reduced d g s ≡ bit_xor a b = unfold reduced in refl in
          let e : d + 64 ≡ 64 + d = omega arith in
          let t : s / 2 ^ d < 2 ^ 64 = shr_lt 64 d (rw (← e) hs) in
          let h : s / 2 ^ d * 2 ^ 64 < 2 ^ d = moved-lt d 64 64 t (omega arith) in
          let p : bit_xor (reduced d g s * 2 ^ 64) (w * 2 ^ d) ≡ bit_xor (a * 2 ^ 64) n =
          ap (λ x. bit_xor (x * 2 ^ 64) (w * 2 ^ d)) es ∙ ap (λ x. bit_xor x (w * 2 ^ d)) (sym (xor-up 64 a b)) ∙ xor_assoc (a * 2 ^ 64) (b * 2 ^ 64) (w * 2 ^ d)
          ∙ ap (bit_xor (a * 2 ^ 64)) (sym en) in
          ey ∙ ap (λ x. bit_xor x (reduced d g n)) (sym (rest-moved (s / 2 ^ d) 64 (omega arith) h)) ∙ sym (reduced-xor (a * 2 ^ 64) n) ∙ ap (reduced d g) (sym p)
          ∙ reduced-pushed 64 (reduced d g s) w (omega arith) (reduced-below s hs) hw

      -- a remainder moved up by less than 8 digits stands for the number moved up by as many
      pub stands-power : (v i : ℕ) → i < 8 → v ≤ 2 ^ 64 → Stands d g (v * 2 ^ i) (rest d g v * 2 ^ i)
      stands-power v i hi hv = record { below = low; same = all }
        where
          low : rest d g v * 2 ^ i < 2 ^ (d + 8)
          low =
              let m : 2 ^ 65 ≤ 2 ^ d = pow_mono {i = 65} {j = d} (omega arith) in
              moved-lt (d + 8) d i (rest_below d g (omega arith) monic v (omega arith)) (omega arith)

          all : (k : ℕ) → k ≤ 56 → reduced d g (rest d g v * 2 ^ i * 2 ^ k) ≡ rest d g (v * 2 ^ i * 2 ^ k)
          all k hk =
              ap (reduced d g) (moved_twice (rest d g v) i k) ∙ rest-moved v (i + k) (omega arith) (moved-lt d 65 (i + k) (omega arith) (omega arith))
              ∙ ap (rest d g) (sym (moved_twice v i k))

      -- the multiple of the divisor of which the digits from d on are c

      cleared-all : (c : ℕ) → c < 16 → (k : ℕ) → k ≤ 60 → reduced d g ((c * 2 ^ d + rest d g c) * 2 ^ k) ≡ 0
      cleared-all c hc k hk =
          let m : 2 ^ 64 ≤ 2 ^ d = pow_mono {i = 64} {j = d} (omega arith) in
          let hr : rest d g c < 2 ^ d = rest_below d g (omega arith) monic c (omega arith) in
          let e : c * 2 ^ d * 2 ^ k ≡ c * 2 ^ k * 2 ^ d = omega arith in
          let p : (c * 2 ^ d + rest d g c) * 2 ^ k ≡ bit_xor (c * 2 ^ k * 2 ^ d) (rest d g c * 2 ^ k) =
          ap (λ x. x * 2 ^ k) (sym (xor_shifted c d (rest d g c) hr)) ∙ sym (xor-up k (c * 2 ^ d) (rest d g c)) ∙ ap (λ x. bit_xor x (rest d g c * 2 ^ k)) e in
          ap (reduced d g) p ∙ reduced-xor (c * 2 ^ k * 2 ^ d) (rest d g c * 2 ^ k)
          ∙ ap₂ bit_xor (reduced-up (c * 2 ^ k)) (rest-moved c k (omega arith) (moved-lt d 4 k hc (omega arith))) ∙ xor_self (rest d g (c * 2 ^ k))

      pub clears-power : (c : ℕ) → c < 16 → Clears d g c (c * 2 ^ d + rest d g c)
      clears-power c hc =
          let m : 2 ^ 64 ≤ 2 ^ d = pow_mono {i = 64} {j = d} (omega arith) in
          record { top = high c d (rest_below d g (omega arith) monic c (omega arith)); same = cleared-all c hc }

      -- the same number moved up by 4 digits
      pub clears-up : (c : ℕ) → c < 16 → (k : ℕ) → k ≤ 56 → reduced d g ((c * 2 ^ d + rest d g c) * 2 ^ 4 * 2 ^ k) ≡ 0
      clears-up c hc k hk = ap (reduced d g) (moved_twice (c * 2 ^ d + rest d g c) 4 k) ∙ cleared-all c hc (4 + k) (omega arith)
