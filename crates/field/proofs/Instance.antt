-- Both fields are fields of characteristic 2 in the sense of crate `algebra`, and the crossing from contracts on numbers to elements and back.
--
-- gf f     the field f
-- a f      the element a
-- el f x   the number of the element x
-- num f    the numbers below 2^m as elements
use mathlib.Core.Path.{◌≡◌, refl, sym, ap, ◌∙◌}
use Prim.Native.Nat.{ℕ, zero, suc, ◌^◌, ◌<◌}
use native.Mathlib.Nat.{pos_of_ne-zero}
use native.Mathlib.Omega.{arith}
use lib.Bits.{bit_xor, xor_comm, xor_zero_r, xor_self, xor_lt}
use Rattle.algebra.specs.Field.{BinaryField}
use Rattle.algebra.specs.Number.{Below, Numbers, elem-same, field, el-is, numbers}
use Rattle.algebra.specs.Polynomial as Polynomial
use Rattle.algebra.specs.Polynomial.{Distinct}
use Rattle.algebra.proofs.Number as number-laws
use Rattle.field.specs.declared.Field.{Field}
use Rattle.field.specs.Field.{degree, modulus, longest, mul, pow, product, a^, Elem}
use Rattle.field.proofs.Xor.{xor_assoc}
use Rattle.field.proofs.Multiply.{one_below, two-below, mul-below, mul_assoc, mul_comm, mul-one-right, mul-add-right}
use Rattle.field.proofs.Order.{no-divisors, a^-below, a^-differ}
use Rattle.field.proofs.Primitive.{primitive, usable}

module _ (f : Field) where
  pub below : Below (2 ^ degree f) bit_xor (mul (degree f) (modulus f))
  below = let u = usable f in record {
    more = one_below u;
    add-less = λ a b l m. xor_lt (degree f) a b l m;
    mul-less = λ a b l m. mul-below u a b l;
    add_assoc = λ a b c l m n. xor_assoc a b c;
    add_comm = λ a b l m. xor_comm a b;
    add-nil = λ a l. xor_zero_r a;
    add-self = λ a l. xor_self a;
    mul_assoc = mul_assoc u;
    mul_comm = mul_comm u;
    mul-one = mul-one-right u;
    mul-add = λ a b c l m n. mul-add-right u a b c;
    no-divisors = λ a b l m e n. no-divisors (primitive f) a b l m e (pos_of_ne-zero n);
  }

  unfoldable pub gf : BinaryField
  gf = field below

  unfoldable pub a : gf.carrier
  unfolding gf field
  a = (2, two-below (usable f))

  unfoldable pub el : gf.carrier → ℕ
  unfolding gf field
  el x = x.0

  unfoldable pub num : Numbers gf
  unfolding gf
  num = numbers below

  -- ---- elements and their numbers

  pub el-same : (x y : gf.carrier) → el x ≡ el y → x ≡ y
  unfolding el gf field
  el-same x y e = elem-same e

  pub el-nil : el gf.nil ≡ 0
  unfolding el gf field
  el-nil = refl

  pub el-one : el gf.one ≡ 1
  unfolding el gf field
  el-one = refl

  pub el-add : (x y : gf.carrier) → el (gf.add x y) ≡ bit_xor (el x) (el y)
  unfolding el gf field
  el-add x y = refl

  pub el-mul : (x y : gf.carrier) → el (gf.mul x y) ≡ mul (degree f) (modulus f) (el x) (el y)
  unfolding el gf field
  el-mul x y = refl

  pub el-power : (x : gf.carrier) (n : ℕ) → el (Polynomial.pow gf x n) ≡ pow (degree f) (modulus f) (el x) n
  unfolding el gf field pow Polynomial.pow
  el-power x zero = refl
  el-power x (suc n) = ap (mul (degree f) (modulus f) (el x)) (el-power x n)

  pub el-pow : (n : ℕ) → el (Polynomial.pow gf a n) ≡ a^ f n
  unfolding el gf field a
  el-pow n = el-power a n

  -- ---- the powers of a

  pub order : Distinct gf (longest f) (Polynomial.pow gf a)
  order i j l m e = a^-differ (primitive f) i j l m (sym (el-pow i) ∙ ap el e ∙ el-pow j)

  pub unit : a ≡ gf.nil → ⊥
  unfolding a gf field el
  unit e = let z : ◌≡◌ {A = ℕ} 2 0 = ap el e in omega arith

  -- ---- numbers below 2^m and their elements

  pub num-below : {x : ℕ} → x < 2 ^ degree f → x < num.size
  unfolding num numbers gf
  num-below l = l

  pub below-num : {x : ℕ} → x < num.size → x < 2 ^ degree f
  unfolding num numbers gf
  below-num l = l

  pub el-num : (x : ℕ) → x < 2 ^ degree f → el (num.el x) ≡ x
  unfolding el num numbers gf field
  el-num x l = el-is below x l

  pub num-add : (x y : ℕ) → x < 2 ^ degree f → y < 2 ^ degree f → num.el (bit_xor x y) ≡ gf.add (num.el x) (num.el y)
  unfolding num gf
  num-add x y l m = number-laws.el-add below x y l m

  pub num-mul : (x y : ℕ) → x < 2 ^ degree f → y < 2 ^ degree f → num.el (mul (degree f) (modulus f) x y) ≡ gf.mul (num.el x) (num.el y)
  unfolding num gf
  num-mul x y l m = number-laws.el-mul below x y l m

  pub num-pow : (n : ℕ) → num.el (a^ f n) ≡ Polynomial.pow gf a n
  num-pow n = el-same _ _ (el-num _ (a^-below (primitive f) n) ∙ sym (el-pow n))

  -- ---- what a call that multiplies ensures, said of elements and back

  pub num-product : (x y r : ℕ) → x < 2 ^ degree f → y < 2 ^ degree f → Elem (degree f) (product f x y) r → num.el r ≡ gf.mul (num.el x) (num.el y)
  num-product x y r l m e = ap num.el e.value ∙ num-mul x y l m
