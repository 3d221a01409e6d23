-- The laws of products and quotients by tables.
use mathlib.Core.Path.{◌≡◌, sym, ap, ap₂, ◌∙◌, subst}
use mathlib.Core.List.{List}
use Prim.Native.Nat.{ℕ, zero, ◌+◌, ◌-◌, ◌^◌, ◌≤◌, ◌<◌}
use native.Mathlib.Omega.{arith}
use lib.ListN.{get_or}
use Rattle.field.specs.declared.Field.{Field}
use Rattle.field.specs.Field.{degree, modulus, longest, mul, a^, Elem}
use Rattle.field.specs.Tables.{Tables}
use Rattle.field.proofs.Multiply.{mul-zero-left, mul-zero-right}
use Rattle.field.proofs.Order.{a^-below, a^-add, a^-period}
use Rattle.field.proofs.Primitive.{primitive, usable}
use lib.Pow.{pow_pos}

module _ (f : Field) where
  -- an exponent of 2^m - 1 or more, less 2^m - 1
  pub a^-wrap : (s : ℕ) → longest f ≤ s → a^ f (s - longest f) ≡ a^ f s
  a^-wrap s h = sym (a^-period (primitive f) (s - longest f)) ∙ ap (a^ f) (omega arith)

  pub product-zero-left : (y : ℕ) {x : ℕ} → x ≡ zero → Elem (degree f) (mul (degree f) (modulus f) x y) zero
  product-zero-left y e =
      record { value = sym (ap (λ z. mul (degree f) (modulus f) z y) e ∙ mul-zero-left (usable f) y); low = pow_pos (degree f) }

  pub product-zero-right : (x : ℕ) {y : ℕ} → y ≡ zero → Elem (degree f) (mul (degree f) (modulus f) x y) zero
  product-zero-right x e =
      record { value = sym (ap (mul (degree f) (modulus f) x) e ∙ mul-zero-right (usable f) x); low = pow_pos (degree f) }

  -- the power at the sum of the logarithms is the product
  pub product-lookup : {powers logs : List ℕ} → Tables f powers logs → (x y k : ℕ) → zero < x → zero < y → x < 2 ^ degree f → y < 2 ^ degree f
      → k < longest f → a^ f k ≡ a^ f (get_or logs x 0 + get_or logs y 0) → Elem (degree f) (mul (degree f) (modulus f) x y) (get_or powers k 0)
  product-lookup {powers} {logs} t x y k x0 y0 hx hy hk e =
      record {
        value =
            t.powers-at k hk ∙ e ∙ a^-add (primitive f) (get_or logs x 0) (get_or logs y 0)
            ∙ ap₂ (mul (degree f) (modulus f)) (t.logs_at x x0 hx) (t.logs_at y y0 hy);
        low = subst (λ n. n < 2 ^ degree f) (sym (t.powers-at k hk)) (a^-below (primitive f) k);
      }

  -- the power at the sum of a logarithm and an exponent is the product
  pub scaled-lookup : {powers logs : List ℕ} → Tables f powers logs → (x e k : ℕ) → zero < x → x < 2 ^ degree f → k < longest f
      → a^ f k ≡ a^ f (get_or logs x 0 + e) → Elem (degree f) (mul (degree f) (modulus f) x (a^ f e)) (get_or powers k 0)
  scaled-lookup {powers} {logs} t x e k positive below less same = record {
    value = t.powers-at k less ∙ same ∙ a^-add (primitive f) (get_or logs x 0) e ∙ ap (λ z. mul (degree f) (modulus f) z (a^ f e)) (t.logs_at x positive below);
    low = subst (λ n. n < 2 ^ degree f) (sym (t.powers-at k less)) (a^-below (primitive f) k);
  }

  -- The power at the difference of two logarithms is the quotient.
  pub quotient-lookup : {powers logs : List ℕ} → Tables f powers logs → (d b e : ℕ) → zero < d → d < 2 ^ degree f → zero < b → b < 2 ^ degree f
      → a^ f e ≡ a^ f (get_or logs d 0 + (longest f - get_or logs b 0)) → mul (degree f) (modulus f) b (a^ f e) ≡ d
  quotient-lookup {powers} {logs} t d b e d-positive d-below b-positive b-below same =
      ap₂ (mul (degree f) (modulus f)) (sym (t.logs_at b b-positive b-below)) same
      ∙ sym (a^-add (primitive f) (get_or logs b 0) (get_or logs d 0 + (longest f - get_or logs b 0)))
      ∙ ap (a^ f) round
      ∙ a^-period (primitive f) (get_or logs d 0)
      ∙ t.logs_at d d-positive d-below
    where
      round : get_or logs b 0 + (get_or logs d 0 + (longest f - get_or logs b 0)) ≡ longest f + get_or logs d 0
      round = omega (arith, t.logs-below b b-below)
