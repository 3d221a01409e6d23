-- The product of the first t minimal polynomials is the generator of the level t, of degree m t.
use mathlib.Core.Path.{◌≡◌, refl, sym, ap, ap₂, ◌∙◌}
use mathlib.Core.Bool.{Bool, true, false}
use Prim.Native.Nat.{ℕ, zero, suc, ◌+◌, ◌*◌, ◌/◌, ◌%◌, ◌^◌, ◌≤◌, ◌<◌}
use native.Mathlib.Omega.{arith}
use native.Mathlib.Decide.{dec_lt}
use native.Mathlib.Nat.{div-eq_of_lt, one-mul, mul-zero, mul-suc, mul_comm, add-zero, pow-suc as two-suc, lt_of_lt_of_le, lt_of_le_of_lt, div-one, div-lt_iff_lt-mul, mod-lt, div-add-mod'}
use lib.Pow.{shr-shr, pow_pos, pow_mono}
use lib.ListN.{length, get_or, get_or-eq_default}
use lib.Bits.{bit_xor, xor_shr, xor_zero_r}
use Rattle.bits.specs.Bits.{bit, digits}
use Rattle.bits.proofs.Numbers.{digits-length}
use Rattle.field.specs.declared.Field.{Field}
use Rattle.field.specs.declared.Field.TheVariants.{Thirteen, Fourteen}
use Rattle.field.specs.Field.{degree, longest}
use Rattle.field.proofs.Xor.{mod2, digit-le}
use Rattle.field.proofs.Primitive.{primitive, usable}
use Rattle.field.proofs.Instance.{gf, a, el-same, el-one, el-pow, order}
use Rattle.algebra.specs.Polynomial.{pow, horner, Distinct}
use Rattle.algebra.specs.Word as word
use Rattle.algebra.proofs.Field.{nil-mul, mul-nil, one-mul as one-mul-of}
use Rattle.algebra.proofs.Polynomial.{pow-add, pow-one, pow-pow, horner-squares, roots-all, distinct-eq}
use Rattle.code.specs.Word.{Word}
use Rattle.code.specs.Code.{Codeword, Generator}
use Rattle.code.specs.Generator.{times, minimals, generator}
use Rattle.code.proofs.Codeword.{elements, elements-square, value-element, codeword-odd}
use Rattle.code.proofs.Polynomial.{value_at, value_at-times, value_at-longer, digits_value}
use Rattle.code.proofs.MinimalTest.{minimals-minimal}
use Rattle.code.proofs.Conjugates.{exponent}
use Rattle.code.proofs.ConjugatesTest.{exponents-differ}

-- ---- degrees: x / 2^n is 1 where x is monic of degree n

monic-lt : (n x : ℕ) → x / 2 ^ n ≡ 1 → x < 2 ^ suc n
monic-lt n x h = let l : x < 2 * 2 ^ n = (div-lt_iff_lt-mul (pow_pos n)).0 (omega arith) in rw (two-suc 2 n) (omega arith)

pub times-monic : (n k x z : ℕ) → x / 2 ^ n ≡ 1 → z / 2 ^ k ≡ 1 → times (suc k) x z / 2 ^ (n + k) ≡ 1
unfolding times
times-monic n zero x z h l = let e : z ≡ 1 = sym (div-one z) ∙ l in rw (e, add-zero n, one-mul x) (rw (xor_zero_r x) h)
times-monic n (suc k) x z h l =
    xor_shr (z % 2 * x) (times (suc k) x (z / 2) * 2) (n + suc k)
    ∙ ap₂ bit_xor second (first (times-monic n k x (z / 2) h (shr-shr z 1 k ∙ (let e : 1 + k ≡ suc k = omega arith in rw e l))))
  where
    first : times (suc k) x (z / 2) / 2 ^ (n + k) ≡ 1 → times (suc k) x (z / 2) * 2 / 2 ^ (n + suc k) ≡ 1
    first r =
        let e : n + suc k ≡ 1 + (n + k) = omega arith in
        let d : times (suc k) x (z / 2) * 2 / 2 ^ 1 ≡ times (suc k) x (z / 2) = omega arith in
        rw (e, ← shr-shr (times (suc k) x (z / 2) * 2) 1 (n + k), d) r

    second : z % 2 * x / 2 ^ (n + suc k) ≡ 0
    second = div-eq_of_lt (lt_of_le_of_lt (digit-le (z % 2) x (mod2 z)) (lt_of_lt_of_le (monic-lt n x h) (pow_mono (omega arith))))

level-wide : (f : Field) (t : ℕ) → t ≤ 62 → degree f * t ≤ degree f * 62
unfolding degree
level-wide Thirteen t h = omega arith
level-wide Fourteen t h = omega arith

longest-positive : (f : Field) → 0 < longest f
unfolding longest
longest-positive Thirteen = omega arith
longest-positive Fourteen = omega arith

module _ (f : Field) where
  pub generator-monic : (t : ℕ) → t ≤ 62 → generator f t / 2 ^ (degree f * t) ≡ 1
  unfolding generator
  generator-monic zero h = rw (mul-zero (degree f))
  generator-monic (suc t) h =
      rw (mul-suc (degree f) t) (times-monic (degree f * t) (degree f) (generator f t) _ (generator-monic t (omega arith)) (minimals-minimal f t h).monic)

  pub generator-below : (t : ℕ) → t ≤ 62 → generator f t < 2 ^ suc (degree f * t)
  generator-below t h = monic-lt (degree f * t) (generator f t) (generator-monic t h)

  -- ---- zeros

  value_at-digits : (n x : ℕ) (y : (gf f).carrier) → value_at (gf f) n x y ≡ horner (gf f) (elements f (digits x n)) y n
  unfolding elements
  value_at-digits n x y = sym (digits_value (gf f) n x y)

  pub generator-zero : (t i : ℕ) → t ≤ 62 → i < t → value_at (gf f) (suc (degree f * t)) (generator f t) (pow (gf f) (a f) (suc (i + i))) ≡ (gf f).nil
  unfolding generator
  generator-zero zero i h l = absurd (omega arith)
  generator-zero (suc t) i h l =
      shorter
      ∙ value_at-times (gf f) (suc (degree f * t)) (suc (degree f)) (generator f t) M y (generator-below t (omega arith)) (monic-lt (degree f) M (minimals-minimal f t h).monic)
      ∙ go (dec_lt i t) (generator-zero t i (omega arith))
    where
      y : (gf f).carrier
      y = pow (gf f) (a f) (suc (i + i))

      M : ℕ
      M = get_or (minimals f) t 0

      shorter : value_at (gf f) (suc (degree f * suc t)) (generator f (suc t)) y ≡ value_at (gf f) (suc (degree f * t) + suc (degree f)) (times (suc (degree f)) (generator f t) M) y
      shorter = sym (value_at-longer (gf f) (suc (degree f * suc t)) _ (generator f (suc t)) y (omega (arith, mul-suc (degree f) t)) (generator-below (suc t) h))

      go : Dec (i < t) → (i < t → value_at (gf f) (suc (degree f * t)) (generator f t) y ≡ (gf f).nil)
          → (gf f).mul (value_at (gf f) (suc (degree f * t)) (generator f t) y) (value_at (gf f) (suc (degree f)) M y) ≡ (gf f).nil
      go (yes p) r = rw (r p) (nil-mul (gf f) _)
      go (no p) r = let e : i ≡ t = omega arith in let z : value_at (gf f) (suc (degree f)) M y ≡ (gf f).nil = rw e (minimals-minimal f t h).zero in rw z (mul-nil (gf f) _)

  pub generator-codeword : (t : ℕ) → t ≤ 62 → Codeword f t (digits (generator f t) (suc (degree f * t)))
  generator-codeword t h = codeword-odd f t _ (λ i l. rw (digits-length (generator f t) (suc (degree f * t))) (sym (value_at-digits _ _ _) ∙ generator-zero t i h l))

  -- ---- conjugates: the powers of a come back to 1 after 2^m - 1 steps, and a zero of a codeword brings its squares

  a-round : pow (gf f) (a f) (longest f) ≡ (gf f).one
  a-round = el-same f _ _ (el-pow f (longest f) ∙ (primitive f).end ∙ sym (el-one f))

  pow-mod : (e : ℕ) → pow (gf f) (a f) (e % longest f) ≡ pow (gf f) (a f) e
  pow-mod e = sym (ap (pow (gf f) (a f)) split ∙ pow-add (gf f) (a f) (longest f * (e / longest f)) (e % longest f)
      ∙ rw (← pow-pow (gf f) (a f) (longest f) (e / longest f), a-round, pow-one (gf f) (e / longest f)) (one-mul-of (gf f) _))
    where
      split : e ≡ longest f * (e / longest f) + e % longest f
      split = sym (div-add-mod' e (longest f)) ∙ ap (λ x. x + e % longest f) (mul_comm (e / longest f) (longest f))

  degree-positive : 0 < degree f
  degree-positive = omega (arith, (usable f).two)

  pub conjugate-zero : (t : ℕ) (w : Word) → Codeword f t w → (i : ℕ) → i < degree f * t
      → horner (gf f) (elements f w) (pow (gf f) (a f) (exponent f i)) (length w) ≡ (gf f).nil
  unfolding exponent
  conjugate-zero t w c i l =
      let q : i / degree f < t = (div-lt_iff_lt-mul degree-positive).1 (rw (mul_comm (degree f) t) at l) in
      rw (pow-mod ((2 * (i / degree f) + 1) * 2 ^ (i % degree f)), ← pow-pow (gf f) (a f) (2 * (i / degree f) + 1) (2 ^ (i % degree f)))
      (horner-squares (gf f) (elements f w) (elements-square f w) _ (length w) (i % degree f) (value-element f w (2 * (i / degree f) + 1) (c.zeros _ (omega arith) (omega arith))))

  pub conjugates-distinct : (t : ℕ) → t ≤ 62 → Distinct (gf f) (degree f * t) (λ i. pow (gf f) (a f) (exponent f i))
  conjugates-distinct t h i j l m e =
      exponents-differ f i j l (omega (arith, level-wide f t h))
      (distinct-eq (gf f) (longest f) (pow (gf f) (a f)) (order f) (exponent f i) (exponent f j) (small i) (small j) e)
    where
      small : (i : ℕ) → exponent f i < longest f
      small i = unfold exponent in mod-lt _ (longest-positive f)

  -- ---- least degree

  pub bit-off : (b : Bool) → word.bit (gf f) b ≡ (gf f).nil → b ≡ false
  bit-off true e = absurd ((gf f).one-not-nil (unfold word.bit in e))
  bit-off false e = refl

  -- A codeword of at most m t bits is 0.
  pub codeword-short : (t : ℕ) (w : Word) → t ≤ 62 → Codeword f t w → length w ≤ degree f * t → (i : ℕ) → get_or w i false ≡ false
  unfolding elements
  codeword-short t w h c l i = go (dec_lt i (length w))
    where
      go : Dec (i < length w) → get_or w i false ≡ false
      go (no k) = get_or-eq_default w false (omega arith)
      go (yes k) = bit-off _ (roots-all (gf f) (length w) (elements f w) (λ i. pow (gf f) (a f) (exponent f i))
          (λ i j p q. conjugates-distinct t h i j p (omega arith)) (λ i p. conjugate-zero t w c i (omega arith)) i k)

  pub generator-generates : (t : ℕ) → t ≤ 62 → Generator f t (digits (generator f t) (suc (degree f * t)))
  unfolding digits bit
  generator-generates t h = record {
    monic = rw (generator-monic t h);
    code = generator-codeword t h;
    least = λ w c l. codeword-short t w h c (omega (arith, digits-length (generator f t) (suc (degree f * t))));
  }
