-- The order of a, once over m: where the powers of a = 2 come back to 1 after 2^m - 1 steps and not before, they are all elements but 0.
-- `primitive` makes this of a walk over the powers that the checker computes.
use mathlib.Core.Path.{◌≡◌, sym, ap, ◌∙◌, subst}
use mathlib.Core.Bool.{Bool, not}
use mathlib.Core.Logic.{◌≢◌}
use Prim.Native.Nat.{ℕ, zero, suc, pred, ◌+◌, ◌-◌, ◌*◌, ◌/◌, ◌^◌, ◌<◌}
use native.Mathlib.Nat.{add_comm, suc-mul, pos_of_ne-zero, suc-pred-eq_of_pos, one-mul}
use native.Mathlib.Decide.{dec_lt}
use native.Mathlib.Omega.{arith}
use lib.Arith.{digits_div}
use lib.Dec.{T, T_not, eqb, eqb→eq, eqb_refl}
use Rattle.field.specs.Field.{mul_x, mul, pow, Usable}
use Rattle.field.proofs.Test.{both, both_left, both_right}
use Rattle.field.proofs.Multiply.{shifted, shifted-inside, mul_x-small, mul_x-below, two-below, mul-one-left, mul-zero-left, mul-zero-right, mul_comm, mul_assoc}
use Rattle.field.proofs.Exponents.{pow_below, pow-add, pow-of-one, pow-of-power, pow-shifted}
use Rattle.field.proofs.Fast.{fast_x, fast_x-mul_x}
use Rattle.field.proofs.Pigeon.{pigeonhole}

-- a is primitive: its powers come back to 1 after N = 2^m - 1 steps, and not before
pub record Primitive (m P N : ℕ) : Type 0 where
  pub usable : Usable m P
  pub size : suc N ≡ 2 ^ m
  pub end : pow m P 2 N ≡ 1
  pub fresh : (k : ℕ) → zero < k → k < N → pow m P 2 k ≡ 1 → ⊥

-- ---- the walk

-- x and what comes of it by the step s, k numbers in all, are not 1, and the next is
unfoldable pub walk : (ℕ → ℕ) → ℕ → ℕ → Bool
walk s zero x = eqb x 1
walk s (suc k) x = both (not (eqb x 1)) (walk s k (s x))

-- what a walk shows, where the step is mul_x below 2^m
module _ {m P : ℕ} (u : Usable m P) (s : ℕ → ℕ) (is : (x : ℕ) → x < 2 ^ m → s x ≡ mul_x m P x) where
  step-below : (x : ℕ) → x < 2 ^ m → s x < 2 ^ m
  step-below x h = subst (λ (n : ℕ). n < 2 ^ m) (sym (is x h)) (mul_x-below u x h)

  step-shifted : (k x : ℕ) → x < 2 ^ m → shifted m P k (s x) ≡ shifted m P (suc k) x
  step-shifted k x h = ap (shifted m P k) (is x h) ∙ shifted-inside m P k x

  walk_end : (k x : ℕ) → x < 2 ^ m → T (walk s k x) → shifted m P k x ≡ 1
  unfolding walk shifted
  walk_end zero x h t = eqb→eq x 1 t
  walk_end (suc k) x h t =
      sym (step-shifted k x h) ∙ walk_end k (s x) (step-below x h) (both_right (not (eqb x 1)) (walk s k (s x)) t)

  walk-fresh : (k x : ℕ) → x < 2 ^ m → T (walk s k x) → (j : ℕ) → j < k → shifted m P j x ≡ 1 → ⊥
  unfolding walk shifted
  walk-fresh zero x l t j h e = absurd (omega arith)
  walk-fresh (suc k) x l t zero h e =
      T_not (eqb x 1) (both_left (not (eqb x 1)) (walk s k (s x)) t) (subst (λ (n : ℕ). T (eqb n 1)) (sym e) (eqb_refl 1))
  walk-fresh (suc k) x l t (suc j) h e =
      walk-fresh k (s x) (step-below x l) (both_right (not (eqb x 1)) (walk s k (s x)) t) j (omega arith) (step-shifted j x l ∙ e)

-- from the walk by the fast step; the reduction polynomial is 2^m + low, and 2^m - 1 is suc n
pub primitive-walk : (m low n : ℕ) → 1 < m → m < 16 → low < 2 ^ m → suc (suc n) ≡ 2 ^ m
    → T (walk (fast_x low (2 ^ m)) n 2) → Primitive m (2 ^ m + low) (suc n)
primitive-walk m low n two small below size t =
    record {
      usable = u;
      size = size;
      end = pow-shifted u (suc n) ∙ from-two n ∙ walk_end u (fast_x low (2 ^ m)) (fast_x-mul_x m low below) n 2 (two-below u) t;
      fresh = not_yet;
    }
  where
    P : ℕ
    P = 2 ^ m + low

    u : Usable m P
    u = record {
      two = two;
      small = small;
      top = ap (λ (x : ℕ). (x + low) / 2 ^ m) (sym (one-mul (2 ^ m))) ∙ digits_div 1 below;
    }

    from-two : (k : ℕ) → shifted m P (suc k) 1 ≡ shifted m P k 2
    from-two k = sym (shifted-inside m P k 1) ∙ ap (shifted m P k) (mul_x-small m P 1 (two-below u))

    not_yet : (k : ℕ) → zero < k → k < suc n → pow m P 2 k ≡ 1 → ⊥
    not_yet zero h h' e = absurd (omega arith)
    not_yet (suc k) h h' e =
        walk-fresh u (fast_x low (2 ^ m)) (fast_x-mul_x m low below) n 2 (two-below u) t k (omega arith)
        (sym (from-two k) ∙ sym (pow-shifted u (suc k)) ∙ e)

-- ---- the powers of a

module _ {m P N : ℕ} (F : Primitive m P N) where
  pub a^-below : (k : ℕ) → pow m P 2 k < 2 ^ m
  a^-below k = pow_below F.usable 2 k (two-below F.usable)

  pub a^-add : (i j : ℕ) → pow m P 2 (i + j) ≡ mul m P (pow m P 2 i) (pow m P 2 j)
  a^-add i j = pow-add F.usable 2 i j (two-below F.usable)

  pub order-positive : zero < N
  order-positive = omega (arith, F.size, two-below F.usable)

  -- each N steps give 1
  pub a^-round : (k : ℕ) → pow m P 2 (N * k) ≡ 1
  a^-round k = pow-of-power F.usable 2 N k (two-below F.usable) ∙ ap (λ (x : ℕ). pow m P x k) F.end ∙ pow-of-one F.usable k

  pub a^-period : (k : ℕ) → pow m P 2 (N + k) ≡ pow m P 2 k
  a^-period k = a^-add N k ∙ ap (λ (x : ℕ). mul m P x (pow m P 2 k)) F.end ∙ mul-one-left F.usable (pow m P 2 k) (a^-below k)

  -- powers below N are distinct
  pub a^-differ : (i j : ℕ) → i < j → j < N → pow m P 2 i ≡ pow m P 2 j → ⊥
  a^-differ i j h hj e =
      F.fresh (j - i) (omega arith) (omega arith)
      (sym (a^-period (j - i))
      ∙ ap (pow m P 2) (omega arith)
      ∙ a^-add j (N - i)
      ∙ ap (λ (x : ℕ). mul m P x (pow m P 2 (N - i))) (sym e)
      ∙ sym (a^-add i (N - i))
      ∙ ap (pow m P 2) (omega arith)
      ∙ F.end)

  pub a^-distinct : (i j : ℕ) → i < N → j < N → pow m P 2 i ≡ pow m P 2 j → i ≡ j
  a^-distinct i j hi hj e = at (dec_lt i j) (dec_lt j i)
    where
      at : Dec (i < j) → Dec (j < i) → i ≡ j
      at (yes h) d = absurd (a^-differ i j h hj e)
      at (no h) (yes h') = absurd (a^-differ j i h' hi (sym e))
      at (no h) (no h') = omega arith

  pub a^-positive : (k : ℕ) → zero < pow m P 2 k
  a^-positive k = pos_of_ne-zero not-zero
    where
      not-zero : pow m P 2 k ≢ zero
      not-zero e =
          let z : ◌≡◌ {A = ℕ} zero 1 =
          sym (mul-zero-left F.usable (pow m P 2 (pred N * k)))
          ∙ ap (λ (x : ℕ). mul m P x (pow m P 2 (pred N * k))) (sym e)
          ∙ sym (a^-add k (pred N * k))
          ∙ ap (pow m P 2) (add_comm k (pred N * k) ∙ sym (suc-mul (pred N) k) ∙ ap (λ (x : ℕ). x * k) (suc-pred-eq_of_pos order-positive))
          ∙ a^-round k in
          omega arith

  -- each element but 0 is a power of a
  pub logarithm : (x : ℕ) → zero < x → x < 2 ^ m → (k : ℕ) × (k < N) × (pow m P 2 k ≡ x)
  logarithm x h0 h =
      let r : (k : ℕ) × (k < N) × (pred (pow m P 2 k) ≡ pred x) =
      pigeonhole N (λ k. pred (pow m P 2 k))
      (λ k hk. omega (arith, a^-positive k, a^-below k, F.size))
      (λ i j hi hj e. a^-distinct i j hi hj (omega (arith, a^-positive i, a^-positive j)))
      (pred x) (omega (arith, F.size)) in
      (r.0, r.1, omega (arith, r.2, a^-positive r.0))

  -- ---- so there are inverses, and no zero divisors

  pub inverse : (x : ℕ) → zero < x → x < 2 ^ m → (y : ℕ) × (y < 2 ^ m) × (mul m P x y ≡ 1)
  inverse x h0 h =
      let r : (k : ℕ) × (k < N) × (pow m P 2 k ≡ x) = logarithm x h0 h in
      let lt : r.0 < N = r.1 in (
        pow m P 2 (N - r.0),
        a^-below (N - r.0),
        ap (λ (z : ℕ). mul m P z (pow m P 2 (N - r.0))) (sym r.2) ∙ sym (a^-add r.0 (N - r.0))
            ∙ ap (pow m P 2) (omega arith) ∙ F.end,
      )

  pub no-divisors : (x y : ℕ) → x < 2 ^ m → y < 2 ^ m → mul m P x y ≡ zero → zero < x → y ≡ zero
  no-divisors x y hx hy e h0 =
      let r : (z : ℕ) × (z < 2 ^ m) × (mul m P x z ≡ 1) = inverse x h0 hx in
      sym (mul-one-left F.usable y hy)
      ∙ ap (λ (n : ℕ). mul m P n y) (sym (mul_comm F.usable r.0 x r.1 hx ∙ r.2))
      ∙ mul_assoc F.usable r.0 x y r.1 hx hy
      ∙ ap (mul m P r.0) e
      ∙ mul-zero-right F.usable r.0
