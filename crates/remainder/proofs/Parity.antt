-- Laws of division as a linear map: the remainder of a sum is the sum of the remainders. From them: what zeros after a word leave, a message
-- divided with the zeros after it from the start, k coefficients at once by the remainders of the numbers of k digits, and the same
-- division with all numbers moved up.
use mathlib.Core.Path.{◌≡◌, refl, sym, ap, ap₂, ◌∙◌}
use mathlib.Core.Bool.{Bool, true, false, cond}
use mathlib.Core.List.{[], ◌∷◌, ◌++◌}
use Prim.Native.Nat.{ℕ, zero, suc, ◌+◌, ◌-◌, ◌*◌, ◌/◌, ◌%◌, ◌^◌, ◌<◌, ◌≤◌}
use native.Mathlib.Omega.{arith}
use native.Mathlib.Nat.{pow-suc, mod-lt, mod-eq_of_lt, div-lt_iff_lt-mul, zero-mul, one-mul, zero-add, add-zero, mul-mod_left, mul-le-mul_right}
use lib.ListN.{length, replicate, length-replicate, replicate-append-replicate}
use lib.Dec.{eqb}
use lib.Pow.{pow_pos, pow-add, split, shl-shr, shr_lt, mod-pow-add}
use lib.Bits.{bit_xor, xor_block, xor_shr, xor_zero_l, xor_zero_r, xor_shifted, xor_self, xor_comm, xor_lt}
use Rattle.bits.specs.Bits.{bit, digit, number, digits}
use Rattle.bits.proofs.Numbers.{digit_lt, bit-lt, bit-shift, number_lt, number_digits, digits-length}
use Rattle.field.proofs.Xor.{xor_assoc, xor-swap, xor-double, scale-xor, digit-le}
use Rattle.code.specs.Word.{Word}
use Rattle.code.specs.Generator.{remainder_step}
use Rattle.remainder.specs.Remainder.{remainder_from}
use Rattle.remainder.specs.Parity.{parity_step, parity_from}
use Rattle.remainder.specs.Parity.{rest}
use Rattle.remainder.proofs.Fold.{remainder_step-below, remainder_step-short, remainder_from-append, remainder_from-below, remainder_from-short}

-- numbers moved up by k digits

pub xor-up : (k a b : ℕ) → bit_xor (a * 2 ^ k) (b * 2 ^ k) ≡ bit_xor a b * 2 ^ k
xor-up k a b = ap₂ bit_xor (sym (add-zero (a * 2 ^ k))) (sym (add-zero (b * 2 ^ k))) ∙ xor_block k a b 0 0 (pow_pos k) (pow_pos k) ∙ add-zero (bit_xor a b * 2 ^ k)

pub mod-up : (r e k : ℕ) → r * 2 ^ k % 2 ^ (e + k) ≡ r % 2 ^ e * 2 ^ k
mod-up r e k = mod-pow-add (r * 2 ^ k) e k ∙ rw (shl-shr r k, mul-mod_left r (2 ^ k)) (add-zero (r % 2 ^ e * 2 ^ k))

number-zeros : (n : ℕ) → number (replicate n false) ≡ 0
unfolding number digit
number-zeros zero = refl
number-zeros (suc n) = rw (zero-mul, number-zeros n)

module _ (d g : ℕ) where
  -- a step as a sum
  step_sum : (r : ℕ) (b : Bool) → remainder_step d g r b ≡ bit_xor (bit (r * 2 + digit b) d * g) (r * 2 + digit b)
  unfolding remainder_step
  step_sum r b = all (bit (r * 2 + digit b) d) (r * 2 + digit b) (bit-lt (r * 2 + digit b) d)
    where
      all : (c x : ℕ) → c < 2 → cond (eqb c 1) (bit_xor g x) x ≡ bit_xor (c * g) x
      all zero x h = sym (ap (λ n. bit_xor n x) (zero-mul g) ∙ xor_zero_l x)
      all (suc zero) x h = ap (λ n. bit_xor n x) (sym (one-mul g))
      all (suc (suc c)) x h = absurd (omega arith)

  step-zero : (r : ℕ) → remainder_step d g r false ≡ bit_xor (bit (r * 2) d * g) (r * 2)
  unfolding digit
  step-zero r = step_sum r false ∙ rw (add-zero (r * 2)) refl

  step-xor : (x y : ℕ) → remainder_step d g (bit_xor x y) false ≡ bit_xor (remainder_step d g x false) (remainder_step d g y false)
  unfolding bit
  step-xor x y =
      step-zero (bit_xor x y) ∙ rw (xor-double x y, xor_shr (x * 2) (y * 2) d, scale-xor (x * 2 / 2 ^ d) (y * 2 / 2 ^ d) g)
      (xor-swap (x * 2 / 2 ^ d % 2 * g) (y * 2 / 2 ^ d % 2 * g) (x * 2) (y * 2) ∙ sym (ap₂ bit_xor (step-zero x) (step-zero y)))

  -- zeros fed to a number

  from-xor : (x y n : ℕ) → remainder_from d g (bit_xor x y) (replicate n false) ≡ bit_xor (remainder_from d g x (replicate n false)) (remainder_from d g y (replicate n false))
  unfolding remainder_from
  from-xor x y zero = refl
  from-xor x y (suc n) = ap (λ z. remainder_from d g z (replicate n false)) (step-xor x y) ∙ from-xor (remainder_step d g x false) (remainder_step d g y false) n

  from_last : (x n : ℕ) → remainder_from d g x (replicate (suc n) false) ≡ remainder_step d g (remainder_from d g x (replicate n false)) false
  unfolding remainder_from
  from_last x zero = refl
  from_last x (suc n) = from_last (remainder_step d g x false) n

  from-zeros : (x m n : ℕ) → remainder_from d g (remainder_from d g x (replicate m false)) (replicate n false) ≡ remainder_from d g x (replicate (m + n) false)
  from-zeros x m n = sym (ap (remainder_from d g x) (sym (replicate-append-replicate m n false)) ∙ remainder_from-append d g x (replicate m false) (replicate n false))

  zeros-short : (r k n : ℕ) → r < 2 ^ k → k + n ≤ d → remainder_from d g r (replicate n false) ≡ r * 2 ^ n
  zeros-short r k n h l =
      let e = length-replicate n false in
      remainder_from-short d g r k (replicate n false) h (omega arith) ∙ rw (e, number-zeros n) (add-zero (r * 2 ^ n))

  -- the remainders of the numbers of a few digits, moved up to the degree

  pub rest-xor : (x y : ℕ) → rest d g (bit_xor x y) ≡ bit_xor (rest d g x) (rest d g y)
  unfolding rest
  rest-xor x y = from-xor x y d

  pub rest-zero : rest d g 0 ≡ 0
  unfolding rest
  rest-zero = zeros-short 0 0 d (omega arith) (omega arith) ∙ zero-mul (2 ^ d)

  -- a number of k digits that is already moved up by as many as leave k zeros
  rest_part : (v e k : ℕ) → v < 2 ^ k → d ≡ e + k → remainder_from d g (v * 2 ^ e) (replicate k false) ≡ rest d g v
  unfolding rest
  rest_part v e k h ed =
      let z : remainder_from d g v (replicate e false) ≡ v * 2 ^ e = zeros-short v k e h (omega arith) in
      ap (λ x. remainder_from d g x (replicate k false)) (sym z) ∙ from-zeros v e k ∙ ap (λ n. remainder_from d g v (replicate n false)) (sym ed)

  -- A message that is cut anywhere has the same parity, fed part by part.
  pub parity-append : (r : ℕ) (v w : Word) → parity_from d g r (v ++ w) ≡ parity_from d g (parity_from d g r v) w
  unfolding parity_from
  parity-append r [] w = refl
  parity-append r (b ∷ v) w = parity-append (parity_step d g r b) v w

  module _ (some : 0 < d) where
    step-bit : (r : ℕ) (b : Bool) → remainder_step d g r b ≡ bit_xor (remainder_step d g r false) (digit b)
    step-bit r b =
        let l = digit_lt b in
        let e : d ≡ 1 + (d - 1) = omega arith in
        let h : (r * 2 + digit b) / 2 ≡ r * 2 / 2 = omega arith in
        let c : bit (r * 2 + digit b) d ≡ bit (r * 2) d =
        ap (bit (r * 2 + digit b)) e ∙ bit-shift (r * 2 + digit b) 1 (d - 1) ∙ ap (λ x. bit x (d - 1)) h ∙ sym (bit-shift (r * 2) 1 (d - 1)) ∙ ap (bit (r * 2)) (sym e) in
        step_sum r b ∙ ap₂ bit_xor (ap (λ x. x * g) c) (sym (xor_shifted r 1 (digit b) l)) ∙ sym (xor_assoc (bit (r * 2) d * g) (r * 2) (digit b)) ∙ ap (λ x. bit_xor x (digit b)) (sym (step-zero r))

    -- A word no longer than the degree is added to what as many zeros leave.
    pub from-word : (x : ℕ) (w : Word) → length w ≤ d → remainder_from d g x w ≡ bit_xor (remainder_from d g x (replicate (length w) false)) (number w)
    unfolding remainder_from number
    from-word x [] l = sym (xor_zero_r x)
    from-word x (b ∷ w) l =
        let n : ℕ = length w in
        let A : ℕ = remainder_from d g (remainder_step d g x false) (replicate n false) in
        from-word (remainder_step d g x b) w (omega arith)
        ∙ ap (λ y. bit_xor (remainder_from d g y (replicate n false)) (number w)) (step-bit x b)
        ∙ ap (λ y. bit_xor y (number w)) (from-xor (remainder_step d g x false) (digit b) n ∙ ap (bit_xor A) (zeros-short (digit b) 1 n (digit_lt b) (omega arith)))
        ∙ xor_assoc A (digit b * 2 ^ n) (number w) ∙ ap (bit_xor A) (xor_shifted (digit b) n (number w) (number_lt w))

    -- one more coefficient of a message

    step-parts : (r : ℕ) (b : Bool) → parity_step d g r b ≡ bit_xor (remainder_step d g r false) (parity_step d g 0 b)
    unfolding parity_step
    step-parts r b = step-xor r (digit b * 2 ^ (d - 1)) ∙ rw (xor_zero_l (digit b * 2 ^ (d - 1)))

    step-enters : (b : Bool) → parity_step d g 0 b ≡ rest d g (digit b)
    unfolding parity_step rest
    step-enters b =
        let e : d ≡ suc (d - 1) = omega arith in
        ap (λ x. remainder_step d g x false) (xor_zero_l (digit b * 2 ^ (d - 1)) ∙ sym (zeros-short (digit b) 1 (d - 1) (digit_lt b) (omega arith)))
        ∙ sym (from_last (digit b) (d - 1)) ∙ ap (λ n. remainder_from d g (digit b) (replicate n false)) (sym e)

    step-parity : (x : ℕ) (b : Bool) → parity_step d g (rest d g x) b ≡ rest d g (remainder_step d g x b)
    unfolding rest remainder_from
    step-parity x b =
        step-parts (rest d g x) b ∙ ap₂ bit_xor (sym (from_last x d)) (step-enters b)
        ∙ sym (from-xor (remainder_step d g x false) (digit b) d) ∙ ap (λ y. remainder_from d g y (replicate d false)) (sym (step-bit x b))

    -- A message divided with the zeros after it from the start.
    pub parity-zeros : (x : ℕ) (w : Word) → parity_from d g (rest d g x) w ≡ remainder_from d g x (w ++ replicate d false)
    unfolding parity_from remainder_from
    parity-zeros x [] = unfold rest in refl
    parity-zeros x (b ∷ w) = ap (λ y. parity_from d g y w) (step-parity x b) ∙ parity-zeros (remainder_step d g x b) w

    pub parity-message : (w : Word) → parity_from d g 0 w ≡ remainder_from d g 0 (w ++ replicate d false)
    parity-message w = ap (λ x. parity_from d g x w) (sym rest-zero) ∙ parity-zeros 0 w

    -- Zeros fed to the parity so far, and the parity of the coefficients by themselves.
    pub parity-sum : (r : ℕ) (w : Word) → parity_from d g r w ≡ bit_xor (remainder_from d g r (replicate (length w) false)) (parity_from d g 0 w)
    unfolding parity_from remainder_from
    parity-sum r [] = sym (xor_zero_r r)
    parity-sum r (b ∷ w) =
        let n : ℕ = length w in
        let s : ℕ = parity_step d g 0 b in
        let A : ℕ = remainder_from d g (remainder_step d g r false) (replicate n false) in
        parity-sum (parity_step d g r b) w
        ∙ ap (λ y. bit_xor (remainder_from d g y (replicate n false)) (parity_from d g 0 w)) (step-parts r b)
        ∙ ap (λ y. bit_xor y (parity_from d g 0 w)) (from-xor (remainder_step d g r false) s n)
        ∙ xor_assoc A (remainder_from d g s (replicate n false)) (parity_from d g 0 w) ∙ ap (bit_xor A) (sym (parity-sum s w))

    rest-from : (v : ℕ) → remainder_from d g v (replicate d false) ≡ rest d g v
    unfolding rest
    rest-from v = refl

    -- k coefficients at once are k single steps: b has their digits, and v is the sum of b and of the k highest coefficients so far.
    pub parity-digits : (k r b : ℕ) {v : ℕ} → k ≤ d → r < 2 ^ d → b < 2 ^ k → v ≡ bit_xor (r / 2 ^ (d - k)) b
        → parity_from d g r (digits b k) ≡ bit_xor (rest d g v) (r * 2 ^ k % 2 ^ d)
    parity-digits k r b {v} l hr hb ev =
        let e : ℕ = d - k in
        let ed : d ≡ e + k = omega arith in
        let u : ℕ = r / 2 ^ e in
        let z : ℕ = r % 2 ^ e in
        let n = digits-length b k in
        let hz : z < 2 ^ e = mod-lt r (pow_pos e) in
        let kd : d ≡ k + e = omega arith in
        let hu : u < 2 ^ k = shr_lt k e (rw (← kd) hr) in
        let er : r ≡ bit_xor (u * 2 ^ e) z = sym (xor_shifted u e z hz ∙ split r e) in
        let x : remainder_from d g r (replicate k false) ≡ bit_xor (rest d g u) (z * 2 ^ k) =
        ap (λ y. remainder_from d g y (replicate k false)) er ∙ from-xor (u * 2 ^ e) z k ∙ ap₂ bit_xor (rest_part u e k hu ed) (zeros-short z e k hz (omega arith)) in
        let y : parity_from d g 0 (digits b k) ≡ rest d g b =
        parity-message (digits b k) ∙ remainder_from-append d g 0 (digits b k) (replicate d false)
        ∙ ap (λ m. remainder_from d g m (replicate d false)) (remainder_from-short d g 0 0 (digits b k) (omega arith) (omega arith) ∙ rw (number_digits b k, zero-mul, zero-add) (mod-eq_of_lt hb))
        ∙ rest-from b in
        let m : r * 2 ^ k % 2 ^ d ≡ z * 2 ^ k = ap (λ i. r * 2 ^ k % 2 ^ i) ed ∙ mod-up r e k in
        parity-sum r (digits b k) ∙ rw (n, x, y, m, ev, rest-xor u b) (xor_assoc (rest d g u) (z * 2 ^ k) (rest d g b) ∙ ap (bit_xor (rest d g u)) (xor_comm (z * 2 ^ k) (rest d g b)) ∙ sym (xor_assoc (rest d g u) (rest d g b) (z * 2 ^ k)))

    -- by a monic polynomial

    module _ (hg : g / 2 ^ d ≡ 1) where
      enters_below : (b : Bool) → digit b * 2 ^ (d - 1) < 2 ^ d
      enters_below b =
          let e : d ≡ suc (d - 1) = omega arith in
          let p : 2 ^ d ≡ 2 ^ (d - 1) * 2 = ap (λ n. 2 ^ n) e ∙ pow-suc 2 (d - 1) in
          let h : digit b * 2 ^ (d - 1) ≤ 1 * 2 ^ (d - 1) = mul-le-mul_right (2 ^ (d - 1)) (let l = digit_lt b in omega arith) in
          let q = pow_pos (d - 1) in
          omega arith

      pub parity-below : (r : ℕ) (w : Word) → r < 2 ^ d → parity_from d g r w < 2 ^ d
      unfolding parity_from parity_step
      parity-below r [] h = h
      parity-below r (b ∷ w) h =
          parity-below (parity_step d g r b) w (remainder_step-below d g (bit_xor r (digit b * 2 ^ (d - 1))) false hg (xor_lt d r (digit b * 2 ^ (d - 1)) h (enters_below b)))

      pub rest_below : (v : ℕ) → v < 2 ^ d → rest d g v < 2 ^ d
      unfolding rest
      rest_below v h = remainder_from-below d g hg v (replicate d false) h

      -- twice a number below the degree: c is the digit that leaves, and x is what stays
      step-double : (r : ℕ) {c x : ℕ} → r < 2 ^ d → c ≡ bit r (d - 1) → x ≡ r * 2 % 2 ^ d → remainder_step d g r false ≡ bit_xor (c * (g % 2 ^ d)) x
      unfolding bit
      step-double r {c} {x} hr ec ex =
          let e : d ≡ 1 + (d - 1) = omega arith in
          let half : r * 2 / 2 ≡ r = omega arith in
          let q : bit (r * 2) d ≡ c = ap (bit (r * 2)) e ∙ bit-shift (r * 2) 1 (d - 1) ∙ ap (λ y. bit y (d - 1)) half ∙ sym ec in
          let l : r * 2 / 2 ^ d < 2 = (div-lt_iff_lt-mul (pow_pos d)).1 (omega arith) in
          let a : r * 2 / 2 ^ d ≡ c = omega arith in
          let G : ℕ = g % 2 ^ d in
          let h_g : G < 2 ^ d = mod-lt g (pow_pos d) in
          let eg : g ≡ 1 * 2 ^ d + G = sym (split g d) ∙ ap (λ y. y * 2 ^ d + G) hg in
          let er : r * 2 ≡ c * 2 ^ d + x = sym (split (r * 2) d) ∙ ap₂ (λ (y z : ℕ). y * 2 ^ d + z) a (sym ex) in
          let eh : c * g ≡ c * 2 ^ d + c * G = ap (λ y. c * y) eg ∙ omega arith in
          let hc : c < 2 = rw ec (bit-lt r (d - 1)) in
          let hx : x < 2 ^ d = rw ex (mod-lt (r * 2) (pow_pos d)) in
          let k : c * G ≤ G = digit-le c G hc in
          step-zero r ∙ rw (q, eh, er) (xor_block d c c (c * G) x (omega arith) hx ∙ rw (xor_self c, zero-mul (2 ^ d)) (zero-add (bit_xor (c * G) x)))

      pub rest-one : rest d g 1 ≡ g % 2 ^ d
      unfolding parity_step digit bit
      rest-one =
          let e : d ≡ suc (d - 1) = omega arith in
          let p : 2 ^ d ≡ 2 ^ (d - 1) * 2 = ap (λ n. 2 ^ n) e ∙ pow-suc 2 (d - 1) in
          let q = pow_pos (d - 1) in
          let a : bit_xor 0 (1 * 2 ^ (d - 1)) ≡ 2 ^ (d - 1) = xor_zero_l (1 * 2 ^ (d - 1)) ∙ one-mul (2 ^ (d - 1)) in
          let c : 1 ≡ 2 ^ (d - 1) / 2 ^ (d - 1) % 2 = ap (λ y. y % 2) (sym (ap (λ y. y / 2 ^ (d - 1)) (sym (one-mul (2 ^ (d - 1)))) ∙ shl-shr 1 (d - 1))) in
          let m : 1 * 2 ^ d % 2 ^ d ≡ 0 = mul-mod_left 1 (2 ^ d) in
          let x : 0 ≡ 2 ^ (d - 1) * 2 % 2 ^ d = sym (ap (λ y. y % 2 ^ d) (sym p ∙ sym (one-mul (2 ^ d))) ∙ m) in
          sym (step-enters true) ∙ ap (λ y. remainder_step d g y false) a ∙ step-double (2 ^ (d - 1)) (omega arith) c x
          ∙ rw (one-mul (g % 2 ^ d)) (xor_zero_r (g % 2 ^ d))

      rest-digit : (a : ℕ) → a < 2 → rest d g a ≡ a * (g % 2 ^ d)
      rest-digit zero h = rest-zero ∙ sym (zero-mul (g % 2 ^ d))
      rest-digit (suc zero) h = rest-one ∙ sym (one-mul (g % 2 ^ d))
      rest-digit (suc (suc a)) h = absurd (omega arith)

      -- twice a number: c is the highest digit of its remainder, and x is what a doubling leaves
      pub rest-double : (v : ℕ) → v * 2 < 2 ^ d → {c x : ℕ} → c ≡ bit (rest d g v) (d - 1) → x ≡ rest d g v * 2 % 2 ^ d → rest d g (v * 2) ≡ bit_xor (rest d g c) x
      unfolding rest remainder_from digit
      rest-double v hv {c} {x} ec ex =
          let s : remainder_step d g v false ≡ v * 2 = remainder_step-short d g v false (omega arith) ∙ add-zero (v * 2) in
          ap (λ y. remainder_from d g y (replicate d false)) (sym s) ∙ from_last v d ∙ step-double (rest d g v) (rest_below v (omega arith)) ec ex
          ∙ ap (λ y. bit_xor y x) (sym (rest-digit c (rw ec (bit-lt (rest d g v) (d - 1)))))

-- the same division with the divisor and the remainders moved up by k digits
module _ (k d g : ℕ) where
  step-up : (r : ℕ) → remainder_step (k + d) (g * 2 ^ k) (r * 2 ^ k) false ≡ remainder_step d g r false * 2 ^ k
  step-up r =
      let e : r * 2 ^ k * 2 ≡ r * 2 * 2 ^ k = omega arith in
      let c : bit (r * 2 * 2 ^ k) (k + d) ≡ bit (r * 2) d = bit-shift (r * 2 * 2 ^ k) k d ∙ ap (λ y. bit y d) (shl-shr (r * 2) k) in
      let m : bit (r * 2) d * (g * 2 ^ k) ≡ bit (r * 2) d * g * 2 ^ k = omega arith in
      step-zero (k + d) (g * 2 ^ k) (r * 2 ^ k) ∙ rw (e, c, m) (xor-up k (bit (r * 2) d * g) (r * 2) ∙ ap (λ y. y * 2 ^ k) (sym (step-zero d g r)))

  pub parity-up : 0 < d → (r : ℕ) (w : Word) → parity_from (k + d) (g * 2 ^ k) (r * 2 ^ k) w ≡ parity_from d g r w * 2 ^ k
  unfolding parity_from parity_step
  parity-up some r [] = refl
  parity-up some r (b ∷ w) = ap (λ y. parity_from (k + d) (g * 2 ^ k) y w) (one_up b) ∙ parity-up some (parity_step d g r b) w
    where
      one_up : (b : Bool) → parity_step (k + d) (g * 2 ^ k) (r * 2 ^ k) b ≡ parity_step d g r b * 2 ^ k
      one_up b =
          let e : k + d - 1 ≡ d - 1 + k = omega arith in
          let p : 2 ^ (k + d - 1) ≡ 2 ^ (d - 1) * 2 ^ k = ap (λ n. 2 ^ n) e ∙ pow-add 2 (d - 1) k in
          let m : digit b * 2 ^ (k + d - 1) ≡ digit b * 2 ^ (d - 1) * 2 ^ k = ap (λ y. digit b * y) p ∙ omega arith in
          ap (λ y. remainder_step (k + d) (g * 2 ^ k) y false) (ap (bit_xor (r * 2 ^ k)) m ∙ xor-up k r (digit b * 2 ^ (d - 1))) ∙ step-up (bit_xor r (digit b * 2 ^ (d - 1)))
