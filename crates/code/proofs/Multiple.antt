-- The remainder is the only number of degree below mt that differs from the word by a multiple of the generator (document 01, "The code").
use mathlib.Core.Path.{◌≡◌, refl, sym, ap, ap₂, ◌∙◌}
use mathlib.Core.Logic.{◌⊎◌, inl, inr, ⊎_elim}
use mathlib.Core.Bool.{Bool, true, false, cond}
use mathlib.Core.List.{[], ◌∷◌}
use Prim.Native.Nat.{ℕ, zero, suc, ◌+◌, ◌*◌, ◌/◌, ◌%◌, ◌^◌, ◌≤◌, ◌<◌}
use native.Mathlib.Omega.{arith}
use native.Mathlib.Decide.{dec_lt}
use native.Mathlib.Nat.{zero-mul, one-mul, add-zero, add-suc, add_comm, pow-suc, lt_of_lt_of_le, lt_of_le_of_lt, le-div_iff_mul-le}
use lib.Pow.{pow_pos, pow_mono}
use lib.ListN.{length, get_or, take}
use lib.Seq.{take-suc, take-length}
use lib.Dec.{eqb}
use lib.Bits.{bit_xor, xor_zero_l, xor_zero_r, xor_comm, xor_self, xor_lt, xor_block}
use Rattle.bits.specs.Bits.{bit, digit, number}
use Rattle.bits.proofs.Numbers.{digit_lt, number_append}
use Rattle.field.specs.declared.Field.{Field}
use Rattle.field.specs.Field.{degree}
use Rattle.field.proofs.Xor.{mod2, digit-le, xor-half, xor_assoc, xor-swap, xor-cancel, xor-eq, xor-double, scale-xor}
use Rattle.code.specs.Word.{Word}
use Rattle.code.specs.Generator.{times, generator, remainder_step, remainder_of, remainder}
use Rattle.code.specs.Multiple.{Multiple, Remains}
use Rattle.code.proofs.Generator.{generator-monic, generator-below}
use Rattle.code.proofs.Remainder.{remainder-below}

xor-front : (a b c : ℕ) → bit_xor a (bit_xor b c) ≡ bit_xor b (bit_xor a c)
xor-front a b c = sym (xor_assoc a b c) ∙ ap (λ x. bit_xor x c) (xor_comm a b) ∙ xor_assoc b a c

-- a sum of two sums with one term in common
xor-between : (a b c : ℕ) → bit_xor (bit_xor a b) (bit_xor a c) ≡ bit_xor b c
xor-between a b c = xor-swap a b a c ∙ rw (xor_self a) (xor_zero_l (bit_xor b c))

-- ---- products

module _ (x : ℕ) where
  -- a longer room for the quotient
  times-suc : (k y : ℕ) → y < 2 ^ k → times (suc k) x y ≡ times k x y
  unfolding times
  times-suc zero y l = let e : y ≡ 0 = omega arith in rw (e, zero-mul x)
  times-suc (suc k) y l = rw (times-suc k (y / 2) (let p = pow-suc 2 k in omega arith))

  times-longer : (j k y : ℕ) → y < 2 ^ k → times (k + j) x y ≡ times k x y
  times-longer zero k y l = rw (add-zero k)
  times-longer (suc j) k y l =
      rw (add-suc k j) (times-suc (k + j) y (lt_of_lt_of_le l (pow_mono (omega arith))) ∙ times-longer j k y l)

  times-xor : (k y z : ℕ) → times k x (bit_xor y z) ≡ bit_xor (times k x y) (times k x z)
  unfolding times
  times-xor zero y z = refl
  times-xor (suc k) y z =
      ap₂ bit_xor (scale-xor y z x) (ap (λ n. times k x n * 2) (xor-half y z) ∙ ap (λ n. n * 2) (times-xor k (y / 2) (z / 2)) ∙ xor-double (times k x (y / 2)) (times k x (z / 2)))
      ∙ xor-swap (y % 2 * x) (z % 2 * x) (times k x (y / 2) * 2) (times k x (z / 2) * 2)

  times-even : (k y : ℕ) → times (suc k) x (y * 2) ≡ times k x y * 2
  unfolding times
  times-even k y =
      let a : y * 2 % 2 ≡ 0 = omega arith in let b : y * 2 / 2 ≡ y = omega arith in
      ap₂ (λ c n. bit_xor (c * x) (times k x n * 2)) a b ∙ rw (zero-mul x)

  times-odd : (k y : ℕ) → times (suc k) x (y * 2 + 1) ≡ bit_xor x (times k x y * 2)
  unfolding times
  times-odd k y =
      let a : (y * 2 + 1) % 2 ≡ 1 = omega arith in let b : (y * 2 + 1) / 2 ≡ y = omega arith in
      ap₂ (λ c n. bit_xor (c * x) (times k x n * 2)) a b ∙ rw (one-mul x)

-- ---- multiples

module _ {g : ℕ} where
  multiple-xor : {x y : ℕ} → Multiple g x → Multiple g y → Multiple g (bit_xor x y)
  multiple-xor p q =
      let j = p.size in let k = q.size in
      record {
        size = j + k;
        quotient = bit_xor p.quotient q.quotient;
        low = xor_lt (j + k) _ _ (lt_of_lt_of_le p.low (pow_mono (omega arith))) (lt_of_lt_of_le q.low (pow_mono (omega arith)));
        product = ap₂ bit_xor (p.product ∙ sym (times-longer g k j _ p.low))
            (q.product ∙ sym (times-longer g j k _ q.low) ∙ ap (λ n. times n g q.quotient) (add_comm k j)) ∙ sym (times-xor g (j + k) _ _);
      }

  multiple-even : {x : ℕ} → Multiple g x → Multiple g (x * 2)
  multiple-even p = let s = pow-suc 2 p.size in let l = p.low in record {
    size = suc p.size;
    quotient = p.quotient * 2;
    low = omega arith;
    product = ap (λ n. n * 2) p.product ∙ sym (times-even g p.size p.quotient);
  }

  multiple-odd : {x : ℕ} → Multiple g x → Multiple g (bit_xor g (x * 2))
  multiple-odd p = let s = pow-suc 2 p.size in let l = p.low in record {
    size = suc p.size;
    quotient = p.quotient * 2 + 1;
    low = omega arith;
    product = ap (λ n. bit_xor g (n * 2)) p.product ∙ sym (times-odd g p.size p.quotient);
  }

-- a sum with a term of higher degree
high_sum : (d a b : ℕ) → a < 2 ^ suc d → 2 ^ d ≤ b → 2 ^ d ≤ bit_xor a (b * 2)
high_sum d a b l h = elim (dec_lt (bit_xor a (b * 2)) (2 ^ suc d)) [
  | yes k ↦ (let e = xor-cancel a (b * 2) in let m = xor_lt (suc d) a (bit_xor a (b * 2)) l k in let p = pow-suc 2 d in absurd (omega arith))
  | no k ↦ (let p = pow-suc 2 d in omega arith)
]

-- A multiple of a polynomial of degree d is zero, or has no lower degree.
module _ (g d : ℕ) (monic : g / 2 ^ d ≡ 1) (below : g < 2 ^ suc d) where
  at_least : 2 ^ d ≤ g
  at_least = let h = (le-div_iff_mul-le {x = 1} {y = g} (pow_pos d)).0 (omega arith) in omega arith

  digit-below : (y : ℕ) → y % 2 * g < 2 ^ suc d
  digit-below y = lt_of_le_of_lt (digit-le (y % 2) g (mod2 y)) below

  times-high : (k y : ℕ) → (times k g y ≡ 0) ⊎ (2 ^ d ≤ times k g y)
  unfolding times
  times-high zero y = inl refl
  times-high (suc k) y = go (times k g (y / 2)) (y % 2) (mod2 y) (digit-below y) (times-high k (y / 2))
    where
      go : (n b : ℕ) → b < 2 → b * g < 2 ^ suc d → (n ≡ 0) ⊎ (2 ^ d ≤ n) → (bit_xor (b * g) (n * 2) ≡ 0) ⊎ (2 ^ d ≤ bit_xor (b * g) (n * 2))
      go n zero h l (inl e) = inl (rw (e, zero-mul g))
      go n (suc zero) h l (inl e) = inr (rw (e, one-mul g, xor_zero_r g) at_least)
      go n (suc (suc b)) h l (inl e) = absurd (omega arith)
      go n b h l (inr e) = inr (high_sum d (b * g) n l e)

  multiple-zero : {x : ℕ} → Multiple g x → x < 2 ^ d → x ≡ 0
  multiple-zero p l = ⊎_elim (λ (e : times p.size g p.quotient ≡ 0). p.product ∙ e)
      (λ (h : 2 ^ d ≤ times p.size g p.quotient). let e = p.product in absurd (omega arith)) (times-high p.size p.quotient)

-- ---- division

module _ (d g : ℕ) (w : Word) where
  number-next : (n : ℕ) → n < length w → number (take (suc n) w) ≡ number (take n w) * 2 + digit (get_or w n false)
  unfolding number
  number-next n l = rw (take-suc w n false l) (number_append (take n w) (get_or w n false ∷ []) ∙ omega arith)

  -- one more bit of both
  next-xor : (a r : ℕ) (b : Bool) → bit_xor (a * 2 + digit b) (r * 2 + digit b) ≡ bit_xor a r * 2
  next-xor a r b = xor_block 1 a r (digit b) (digit b) (digit_lt b) (digit_lt b) ∙ rw (xor_self (digit b)) (omega arith)

  divided-next : (a r : ℕ) (b : Bool) → Multiple g (bit_xor a r) → Multiple g (bit_xor (a * 2 + digit b) (remainder_step d g r b))
  unfolding remainder_step
  divided-next a r b p = go (eqb (bit (r * 2 + digit b) d) 1)
    where
      go : (c : Bool) → Multiple g (bit_xor (a * 2 + digit b) (cond c (bit_xor g (r * 2 + digit b)) (r * 2 + digit b)))
      go false = rw (next-xor a r b) (multiple-even p)
      go true = rw (xor-front (a * 2 + digit b) g (r * 2 + digit b), next-xor a r b) (multiple-odd p)

  divided : (n : ℕ) → n ≤ length w → Multiple g (bit_xor (number (take n w)) (remainder_of d g w n))
  unfolding remainder_of number times
  divided zero l = record { size = 0; quotient = 0; low = omega arith; product = refl }
  divided (suc n) l = rw (number-next n l) (divided-next (number (take n w)) (remainder_of d g w n) (get_or w n false) (divided n (omega arith)))

  divided-whole : Multiple g (bit_xor (number w) (remainder_of d g w (length w)))
  divided-whole = rw (take-length w) at (divided (length w) (omega arith))

-- ---- the remainder

module _ (f : Field) (t : ℕ) (w : Word) (level : t ≤ 62) where
  pub remainder-remains : Remains f t w (remainder f t w)
  unfolding remainder
  remainder-remains = record { below = remainder-below f t w level; multiple = divided-whole (degree f * t) (generator f t) w }

  pub remains-only : (r : ℕ) → Remains f t w r → r ≡ remainder f t w
  remains-only r h =
      let s = remainder-remains in
      xor-eq r (remainder f t w)
      (multiple-zero (generator f t) (degree f * t) (generator-monic f t level) (generator-below f t level)
      (rw (xor-between (number w) r (remainder f t w)) at (multiple-xor h.multiple s.multiple))
      (xor_lt (degree f * t) r (remainder f t w) h.below s.below))
