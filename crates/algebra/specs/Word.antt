-- Words of bits as functions from place to bit, and their power sums. The statements use `flip` alone; the rest serves proofs.
--   flip, differ     not; exclusive or
--   both r c         the places where two words differ
--   count b n        the number of ones among the first n bits
--   Lists P n w E    E 0, .., E (w - 1) are the places below n that have the property P, in ascending order
--   among E w p      whether p is one of E 0, .., E (w - 1)
--   Listing b n w    the places of the ones among the first n bits, and that a sum over the ones is a sum over them
--   bit              a bit as an element of the field
--   power-sum b n j  the sum of the (j + 1)-st powers of a^p over the ones p of b below n: a syndrome
--   Codeword m n c   the first m power sums of c are zero
--   Few m n b        b has at most half as many ones as there are power sums: no more errors than the code corrects
use Rattle.std.specs.Prelude.{◌≡◌, Bool, true, false, cond, ℕ, zero, suc, ◌+◌, ◌≤◌, ◌<◌, eqb}
use Rattle.algebra.specs.Field.{BinaryField}
use Rattle.algebra.specs.Sum.{sum}
use Rattle.algebra.specs.Polynomial.{pow}

-- the other bit
unfoldable pub flip : Bool → Bool
flip true = false
flip false = true

-- one where two bits differ
unfoldable pub differ : Bool → Bool → Bool
differ true y = flip y
differ false y = y

-- the word of the places in which r and c differ: an error pattern
abbrev pub both : (ℕ → Bool) → (ℕ → Bool) → ℕ → Bool
both r c = λ p. differ (r p) (c p)

-- one more, if the bit is one
unfoldable pub bump : Bool → ℕ → ℕ
bump true w = suc w
bump false w = w

-- the weight of the first n bits
unfoldable pub count : (ℕ → Bool) → ℕ → ℕ
count b zero = 0
count b (suc n) = bump (b n) (count b n)

-- m power sums correct as many as m / 2 errors: t errors where m = 2t.
abbrev pub Few : ℕ → ℕ → (ℕ → Bool) → Type 0
Few m n b = count b n + count b n ≤ m

-- Each listed place is below n and has the property, the next is always larger, and each place with the property is listed.
pub record Lists (P : ℕ → Type 0) (n w : ℕ) (E : ℕ → ℕ) : Type 0 where
  pub below : (e : ℕ) → e < w → E e < n
  pub rising : (i j : ℕ) → i < j → j < w → E i < E j
  pub set : (e : ℕ) → e < w → P (E e)
  pub all : (p : ℕ) → p < n → P p → (e : ℕ) × (e < w) × (E e ≡ p)

-- E 0, .., E (w - 1) as a word
unfoldable pub among : (ℕ → ℕ) → ℕ → ℕ → Bool
among E zero p = false
among E (suc w) p = cond (eqb (E w) p) true (among E w p)

module _ (K : BinaryField) where
  open K use {carrier as F, mul as ◌⊗◌, nil as 𝟘, one as 𝟙}

  infixl 70 ◌⊗◌
  -- zero and one of the field
  unfoldable pub bit : Bool → F
  bit true = 𝟙
  bit false = 𝟘

  -- `place` lists the ones of b, and sums over the ones are sums over the list.
  pub record Listing (b : ℕ → Bool) (n w : ℕ) : Type 0 where
    pub place : ℕ → ℕ
    pub lists : Lists (λ p. b p ≡ true) n w place
    pub sums : (g : ℕ → F) → sum K n (λ p. bit (b p) ⊗ g p) ≡ sum K w (λ e. g (place e))

  module _ (a : F) where
    -- b 0 + b 1 a^(j + 1) + b 2 a^(2 (j + 1)) + ..: the word, its bit at p the coefficient of x^p, at a^(j + 1)
    unfoldable pub power-sum : (ℕ → Bool) → ℕ → ℕ → F
    power-sum b n j = sum K n (λ p. bit (b p) ⊗ pow K (pow K a (suc j)) p)

    -- Document 01, "The code": a word of n bits that is zero at a, a^2, .., a^m, where m = 2t.
    abbrev pub Codeword : ℕ → ℕ → (ℕ → Bool) → Type 0
    Codeword m n c = (j : ℕ) → j < m → power-sum c n j ≡ 𝟘
