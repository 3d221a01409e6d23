-- Laws of remainders: their value at the zeros of the polynomial, when they are zero, and that an encoded word has these zeros.
use mathlib.Core.Path.{◌≡◌, refl, sym, ap, ◌∙◌}
use Prim.Native.Nat.{ℕ, zero, suc, ◌-◌, ◌≤◌, ◌<◌}
use native.Mathlib.Omega.{arith}
use Rattle.algebra.specs.Field.{BinaryField}
use Rattle.algebra.specs.Series.{cons}
use Rattle.algebra.specs.Polynomial.{pow, horner, low, Distinct}
use Rattle.algebra.specs.Remainder.{Zero, next, run, ahead, check}
use Rattle.algebra.proofs.Field.{ring}
use Rattle.algebra.proofs.Polynomial.{
  pow-suc,
  horner-zero,
  horner-suc,
  low-suc,
  low-add,
  low-scale,
  low-cons,
  low-nil,
  low-horner,
  roots-all,
}

module _ (K : BinaryField) (e : ℕ) (g : ℕ → K.carrier) where
  open K use {carrier as F, add as ◌⊕◌, mul as ◌⊗◌, nil as 𝟘}

  infixl 60 ◌⊕◌
  infixl 70 ◌⊗◌
  pub next-value : (b : F) (r : ℕ → F) (y : F) → Zero K e g y → low K (suc e) (next K e g b r) y ≡ y ⊗ low K (suc e) r y ⊕ b
  unfolding next
  next-value b r y z =
      low-add K (suc e) (cons K b r) (λ p. r e ⊗ g p) y
      ∙ rw (low-cons K e b r y, low-scale K (suc e) (r e) g y, ← z, low-suc K e r y, pow-suc K y e) (simp ring)

  -- At a zero of the polynomial the remainder has the word's value.
  pub run_value : (f : ℕ → F) (n : ℕ) (y : F) → Zero K e g y → low K (suc e) (run K e g f n) y ≡ horner K f y n
  unfolding run
  run_value f zero y z = low-nil K (suc e) (λ p. 𝟘) y (λ p l. refl) ∙ sym (horner-zero K f y)
  run_value f (suc n) y z = next-value (f n) (run K e g f n) y z ∙ ap (λ v. y ⊗ v ⊕ f n) (run_value f n y z) ∙ sym (horner-suc K f y n)

  -- And back, where the polynomial has e + 1 distinct zeros.
  pub zeros-run-nil : (f : ℕ → F) (n : ℕ) (Y : ℕ → F) → Distinct K (suc e) Y → ((i : ℕ) → i ≤ e → Zero K e g (Y i))
      → ((i : ℕ) → i ≤ e → horner K f (Y i) n ≡ 𝟘) → (p : ℕ) → p ≤ e → run K e g f n p ≡ 𝟘
  zeros-run-nil f n Y d z h p l = ap (run K e g f n) back ∙ roots-all K (suc e) (λ i. run K e g f n (suc e - suc i)) Y d each (e - p) (omega arith)
    where
      back : p ≡ suc e - suc (e - p)
      back = omega arith

      each : (i : ℕ) → i < suc e → horner K (λ i. run K e g f n (suc e - suc i)) (Y i) (suc e) ≡ 𝟘
      each i m = sym (low-horner K (suc e) (run K e g f n) (Y i)) ∙ run_value f n (Y i) (z i (omega arith)) ∙ h i (omega arith)

  ahead-value : (b : F) (r : ℕ → F) (y : F) → Zero K e g y → low K (suc e) (ahead K e g b r) y ≡ y ⊗ low K (suc e) r y ⊕ pow K y (suc e) ⊗ b
  unfolding ahead
  ahead-value b r y z =
      low-add K (suc e) (cons K 𝟘 r) (λ p. (r e ⊕ b) ⊗ g p) y
      ∙ rw (low-cons K e 𝟘 r y, low-scale K (suc e) (r e ⊕ b) g y, ← z, low-suc K e r y, pow-suc K y e) (simp ring)

  pub check-value : (f : ℕ → F) (n : ℕ) (y : F) → Zero K e g y → low K (suc e) (check K e g f n) y ≡ pow K y (suc e) ⊗ horner K f y n
  unfolding check
  check-value f zero y z = low-nil K (suc e) (λ p. 𝟘) y (λ p l. refl) ∙ sym (rw (horner-zero K f y) (simp ring))
  check-value f (suc n) y z = ahead-value (f n) (check K e g f n) y z ∙ rw (check-value f n y z, horner-suc K f y n) (simp ring)
