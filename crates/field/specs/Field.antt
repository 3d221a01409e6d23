-- The two fields, and the arithmetic of a field of 2^m elements, once over m and the reduction polynomial P (document 01, "The code").
-- A polynomial over GF(2) is a number: bit i is the coefficient of x^i. An element is a number below 2^m. The sum of two elements is `bit_xor`.
--
-- degree f, modulus f, longest f   m, the reduction polynomial and 2^m - 1 of the field f
-- chosen number                    the field that a choice by number names
-- mul_x m P u                       the element u times the class of x
-- mul_bits m P k u v                u times the k lowest terms of v
-- mul m P u v, pow m P u n         product and power
-- product f u v, power f u n       the same in the field f
-- a^ f n                           the power n of a, the class of x
-- Elem m v r                       r is the element v
-- Usable m P                       what the code asks of m and P
use Rattle.std.specs.Prelude.{◌≡◌, ℕ, zero, suc, ◌*◌, ◌/◌, ◌%◌, ◌^◌, ◌<◌, Option, Some, None}
use Rattle.std.specs.Int.Bits.{bit_xor}
use Rattle.field.specs.declared.Field.{Field}
use Rattle.field.specs.declared.Field.TheVariants.{Thirteen, Fourteen}

-- m: the field has 2^m elements
unfoldable pub degree : Field → ℕ
degree Thirteen = 13
degree Fourteen = 14

-- x^13 + x^4 + x^3 + x + 1 and x^14 + x^5 + x^3 + x + 1
unfoldable pub modulus : Field → ℕ
modulus Thirteen = 0x201b
modulus Fourteen = 0x402b

-- 2^m - 1: the length of the longest word of a code over the field, and the number of powers of a
unfoldable pub longest : Field → ℕ
longest Thirteen = 8191
longest Fourteen = 16383

-- A choice by number: 0 is m = 13, 1 is m = 14, no other is offered (document 01, "Layout words" and "Remainder").
unfoldable pub chosen : ℕ → Option Field
chosen zero = Some Thirteen
chosen (suc zero) = Some Fourteen
chosen (suc (suc number)) = None

module _ (m P : ℕ) where
  -- the element u times the class of x: twice u, less P where the term x^m came up
  unfoldable pub mul_x : ℕ → ℕ
  mul_x u = bit_xor (u * 2) (u * 2 / 2 ^ m % 2 * P)

  -- u times the k lowest terms of v
  unfoldable pub mul_bits : ℕ → ℕ → ℕ → ℕ
  mul_bits zero u v = zero
  mul_bits (suc k) u v = bit_xor (mul_x (mul_bits k u (v / 2))) (v % 2 * u)

  -- u times v
  unfoldable pub mul : ℕ → ℕ → ℕ
  mul u v = mul_bits m u v

  -- u^n
  unfoldable pub pow : ℕ → ℕ → ℕ
  pow u zero = 1
  pow u (suc n) = mul u (pow u n)

-- u times v in the field f
abbrev pub product : Field → ℕ → ℕ → ℕ
product f u v = mul (degree f) (modulus f) u v

-- u^n in the field f
abbrev pub power : Field → ℕ → ℕ → ℕ
power f u n = pow (degree f) (modulus f) u n

-- a^n in the field f, where a, the class of x, is the number 2
abbrev pub a^ : Field → ℕ → ℕ
a^ f n = power f 2 n

-- r is the element v of a field of 2^m elements
pub record Elem (m v r : ℕ) : Type 0 where
  pub value : r ≡ v
  pub low : r < 2 ^ m

-- P is of degree m, and m is at least 2 and below 16, so that an element fits 16 bits
pub record Usable (m P : ℕ) : Type 0 where
  pub two : 1 < m
  pub small : m < 16
  pub top : P / 2 ^ m ≡ 1
