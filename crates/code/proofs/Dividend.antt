-- How a remainder depends on the dividend: it is additive, works bit by bit from any cut on, does not see zeros in front,
-- and leaves a dividend of low degree as it is.
--
-- remainder_from d g r w n    the remainder r, and then n bits of a word
use mathlib.Core.Path.{◌≡◌, refl, sym, ap, ◌∙◌}
use mathlib.Core.Bool.{Bool, true, false, cond}
use mathlib.Core.List.{◌++◌}
use Prim.Native.Nat.{ℕ, zero, suc, ◌+◌, ◌-◌, ◌*◌, ◌/◌, ◌^◌, ◌≤◌, ◌<◌}
use native.Mathlib.Omega.{arith}
use native.Mathlib.Nat.{add-zero, add-suc, div-eq_of_lt, div-one, sub_self, sub-zero, lt_of_le_of_lt, div-le_self}
use lib.Pow.{pow_pos, shr-shr}
use lib.ListN.{length, get_or, replicate, replicate-append-replicate, length-replicate, get_or-replicate, get_or-append}
use lib.Seq.{get_or-append-add}
use lib.Dec.{eqb}
use lib.Bits.{bit_xor, xor_self, xor_zero_l, xor_comm, xor_block}
use Rattle.bits.specs.Bits.{bit, digit, digits}
use Rattle.bits.proofs.Numbers.{digit_lt, bit-digit, bit-lt, digits-length, digits-at}
use Rattle.field.specs.declared.Field.{Field}
use Rattle.field.specs.Field.{degree}
use Rattle.field.proofs.Xor.{xor_assoc, xor-swap}
use Rattle.algebra.specs.Word.{flip, differ}
use Rattle.code.specs.Word.{Word}
use Rattle.code.specs.Generator.{generator, remainder_step, remainder_of, remainder, parity}
use Rattle.code.proofs.Polynomial.{one_at, one_at-xor, one_at-high}

-- ---- additive

xor-digit : (b c : Bool) → bit_xor (digit b) (digit c) ≡ digit (differ b c)
unfolding digit differ flip
xor-digit true true = refl
xor-digit true false = refl
xor-digit false true = refl
xor-digit false false = refl

next-xor : (r s : ℕ) (b c : Bool) → bit_xor r s * 2 + digit (differ b c) ≡ bit_xor (r * 2 + digit b) (s * 2 + digit c)
next-xor r s b c = sym (xor_block 1 r s (digit b) (digit c) (digit_lt b) (digit_lt c) ∙ ap (λ x. bit_xor r s * 2 + x) (xor-digit b c))

step-xor : (d g r s : ℕ) (b c : Bool) → remainder_step d g (bit_xor r s) (differ b c) ≡ bit_xor (remainder_step d g r b) (remainder_step d g s c)
unfolding remainder_step
step-xor d g r s b c =
    rw (next-xor r s b c, one_at-xor (r * 2 + digit b) (s * 2 + digit c) d) (go (r * 2 + digit b) (s * 2 + digit c) (one_at (r * 2 + digit b) d) (one_at (s * 2 + digit c) d))
  where
    go : (x y : ℕ) (u v : Bool) → cond (differ u v) (bit_xor g (bit_xor x y)) (bit_xor x y) ≡ bit_xor (cond u (bit_xor g x) x) (cond v (bit_xor g y) y)
    go x y true true = unfold differ flip in (sym (xor-swap g x g y ∙ rw (xor_self g, xor_zero_l (bit_xor x y))))
    go x y true false = unfold differ flip in sym (xor_assoc g x y)
    go x y false true = unfold differ flip in (sym (sym (xor_assoc x g y) ∙ rw (xor_comm x g) (xor_assoc g x y)))
    go x y false false = unfold differ flip in refl

pub remainder_of-xor : (d g : ℕ) (u v w : Word) (n : ℕ) → ((i : ℕ) → i < n → get_or w i false ≡ differ (get_or u i false) (get_or v i false))
    → remainder_of d g w n ≡ bit_xor (remainder_of d g u n) (remainder_of d g v n)
unfolding remainder_of
remainder_of-xor d g u v w zero h = refl
remainder_of-xor d g u v w (suc n) h =
    rw (h n (omega arith), remainder_of-xor d g u v w n (λ i l. h i (omega arith))) (step-xor d g (remainder_of d g u n) (remainder_of d g v n) (get_or u n false) (get_or v n false))

-- Where w is the sum of u and v, place by place.
pub remainder-xor : (f : Field) (t : ℕ) (u v w : Word) → length u ≡ length w → length v ≡ length w
    → ((i : ℕ) → i < length w → get_or w i false ≡ differ (get_or u i false) (get_or v i false)) → remainder f t w ≡ bit_xor (remainder f t u) (remainder f t v)
unfolding remainder
remainder-xor f t u v w k l h = rw (k, l) (remainder_of-xor (degree f * t) (generator f t) u v w (length w) h)

-- ---- cuts

unfoldable pub remainder_from : ℕ → ℕ → ℕ → Word → ℕ → ℕ
remainder_from d g r w zero = r
remainder_from d g r w (suc n) = remainder_step d g (remainder_from d g r w n) (get_or w n false)

remainder_of-suc : (d g : ℕ) (w : Word) (n : ℕ) → remainder_of d g w (suc n) ≡ remainder_step d g (remainder_of d g w n) (get_or w n false)
unfolding remainder_of
remainder_of-suc d g w n = refl

pub remainder_of-from : (d g : ℕ) (w : Word) (n : ℕ) → remainder_of d g w n ≡ remainder_from d g 0 w n
unfolding remainder_of remainder_from
remainder_of-from d g w zero = refl
remainder_of-from d g w (suc n) = rw (remainder_of-from d g w n)

pub remainder_of-cong : (d g : ℕ) (v w : Word) (n : ℕ) → ((i : ℕ) → i < n → get_or v i false ≡ get_or w i false) → remainder_of d g v n ≡ remainder_of d g w n
unfolding remainder_of
remainder_of-cong d g v w zero h = refl
remainder_of-cong d g v w (suc n) h = rw (remainder_of-cong d g v w n (λ i l. h i (omega arith)), h n (omega arith))

pub remainder_of-append : (d g : ℕ) (v w : Word) (n : ℕ) → remainder_of d g (v ++ w) (length v + n) ≡ remainder_from d g (remainder_of d g v (length v)) w n
unfolding remainder_from
remainder_of-append d g v w zero = rw (add-zero (length v)) (remainder_of-cong d g (v ++ w) v (length v) (λ i l. get_or-append v w false i l))
remainder_of-append d g v w (suc n) = rw (add-suc (length v) n, remainder_of-suc d g (v ++ w) (length v + n), remainder_of-append d g v w n, get_or-append-add v w n false)

step-zero : (d g : ℕ) → remainder_step d g 0 false ≡ 0
unfolding remainder_step digit
step-zero d g = rw (one_at-high 0 d (pow_pos d))

remainder_of-zeros : (d g k n : ℕ) → n ≤ k → remainder_of d g (replicate k false) n ≡ 0
unfolding remainder_of
remainder_of-zeros d g k zero l = refl
remainder_of-zeros d g k (suc n) l = rw (remainder_of-zeros d g k n (omega arith), get_or-replicate k n false false l) (step-zero d g)

-- ---- a dividend of degree below that of the divisor

-- The first i digits of a number below 2^d.
digits-run : (d g r n i : ℕ) → r < 2 ^ d → r < 2 ^ n → i ≤ n → remainder_of d g (digits r n) i ≡ r / 2 ^ (n - i)
unfolding remainder_of
digits-run d g r n zero h k l = rw (sub-zero n) (sym (div-eq_of_lt k))
digits-run d g r n (suc i) h k l =
    rw (digits-run d g r n i h k (omega arith), digits-at r n i false l, up) (unfold remainder_step in rw (next, one_at-high (r / 2 ^ (n - suc i)) d (lt_of_le_of_lt (div-le_self r _) h)))
  where
    up : n - i ≡ n - suc i + 1
    up = omega arith

    next : r / 2 ^ (n - suc i + 1) * 2 + digit (eqb (bit r (n - suc i)) 1) ≡ r / 2 ^ (n - suc i)
    next = rw (bit-digit (bit r (n - suc i)) (bit-lt r (n - suc i)), ← shr-shr r (n - suc i) 1) (unfold bit in omega arith)

-- Zeros followed by the digits of r leave r.
pub remainder-digits : (f : Field) (t n r : ℕ) → r < 2 ^ (degree f * t) → r < 2 ^ n → remainder f t (digits r n) ≡ r
unfolding remainder
remainder-digits f t n r h k = rw (digits-length r n) (digits-run (degree f * t) (generator f t) r n n h k (omega arith) ∙ rw (sub_self n) (div-one r))

digits-zero : (n : ℕ) → digits 0 n ≡ replicate n false
unfolding digits
digits-zero zero = refl
digits-zero (suc n) = rw (one_at-high 0 n (pow_pos n), digits-zero n)

-- ---- a message and a stored parity

-- The parity of zeros is zeros.
pub parity-zeros : (f : Field) (t k : ℕ) → parity f t (replicate k false) ≡ replicate (degree f * t) false
unfolding parity
parity-zeros f t k = rw (replicate-append-replicate k (degree f * t) false, none) (digits-zero (degree f * t))
  where
    none : remainder f t (replicate (k + degree f * t) false) ≡ 0
    none = unfold remainder in rw (length-replicate (k + degree f * t) false) (remainder_of-zeros (degree f * t) (generator f t) (k + degree f * t) (k + degree f * t) (omega arith))
