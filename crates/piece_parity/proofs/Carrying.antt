-- Laws of what is carried: taken over any cut of a word, it is the same, and it is what the kernel works out.
use mathlib.Core.Path.{◌≡◌, refl, sym, ap, ◌∙◌}
use mathlib.Core.Bool.{false}
use mathlib.Core.List.{◌++◌}
use Prim.Native.Nat.{ℕ, zero, suc, ◌*◌, ◌^◌, ◌≤◌, ◌<◌}
use native.Mathlib.Omega.{arith}
use native.Mathlib.Decide.{dec_lt}
use native.Mathlib.Nat.{mul-zero}
use lib.ListN.{length, replicate}
use lib.Bits.{bit_xor, xor_zero_l, xor_lt}
use lib.Pow.{pow_pos}
use Rattle.bits.specs.Bits.{digit}
use Rattle.field.specs.declared.Field.{Field}
use Rattle.field.specs.Field.{degree}
use Rattle.code.specs.Word.{Word}
use Rattle.code.specs.Generator.{generator, remainder_step, remainder}
use Rattle.code.proofs.Generator.{generator-monic}
use Rattle.code.proofs.Polynomial.{one_at-high}
use Rattle.code.proofs.Remainder.{remainder-below}
use Rattle.remainder.specs.Remainder.{remainder_from}
use Rattle.remainder.specs.Parity.{parity_from}
use Rattle.remainder.proofs.Fold.{remainder_from-below, remainder-from}
use Rattle.remainder.proofs.Parity.{parity-sum, parity-append}
use Rattle.division_steps.proofs.Level.{degree-some, message-parity}
use Rattle.piece_parity.specs.Carried.{carried}

-- ---- zeros leave nothing

module _ (d g : ℕ) where
  step-zero : remainder_step d g 0 false ≡ 0
  unfolding remainder_step digit
  step-zero = rw (one_at-high 0 d (pow_pos d))

  zeros-zero : (k : ℕ) → remainder_from d g 0 (replicate k false) ≡ 0
  unfolding remainder_from
  zeros-zero zero = refl
  zeros-zero (suc k) = ap (λ r. remainder_from d g r (replicate k false)) step-zero ∙ zeros-zero k

module _ (f : Field) (t : ℕ) where
  -- Nothing has the parity 0.
  pub parity-none : remainder f t (replicate (degree f * t) false) ≡ 0
  parity-none = remainder-from f t (replicate (degree f * t) false) ∙ zeros-zero (degree f * t) (generator f t) (degree f * t)

  -- ---- what is carried

  -- From nothing on it is the parity.
  pub carried-start : (w : Word) → carried f t 0 w ≡ remainder f t (w ++ replicate (degree f * t) false)
  unfolding carried
  carried-start w = rw (zeros-zero (degree f * t) (generator f t) (length w)) (xor_zero_l _)

  pub carried-below : t ≤ 62 → (r : ℕ) (w : Word) → r < 2 ^ (degree f * t) → carried f t r w < 2 ^ (degree f * t)
  unfolding carried
  carried-below h r w l =
      xor_lt (degree f * t) _ _
      (remainder_from-below (degree f * t) (generator f t) (generator-monic f t h) r (replicate (length w) false) l)
      (remainder-below f t (w ++ replicate (degree f * t) false) h)

  -- It is the fold that the kernel works out.
  carried-fold : 0 < t → (r : ℕ) (w : Word) → parity_from (degree f * t) (generator f t) r w ≡ carried f t r w
  unfolding carried
  carried-fold h r w =
      parity-sum (degree f * t) (generator f t) (degree-some f t h) r w
      ∙ ap (bit_xor (remainder_from (degree f * t) (generator f t) r (replicate (length w) false))) (message-parity f t h w refl refl)

  pub carried-more : 0 < t → (r : ℕ) (w : Word) {x : ℕ} → x ≡ parity_from (degree f * t) (generator f t) r w → x ≡ carried f t r w
  carried-more h r w e = e ∙ carried-fold h r w

  -- Where t = 0 there is nothing to carry.
  pub carried_none : (r : ℕ) (w : Word) → t ≡ 0 → r < 2 ^ (degree f * t) → r ≡ carried f t r w
  carried_none r w e l =
      let one : 2 ^ (degree f * t) ≡ 1 = rw (e, mul-zero (degree f)) in
      let b = carried-below (omega arith) r w l in
      omega arith

  -- A word that is cut anywhere is carried as the whole.
  pub carried-append : (r : ℕ) (v w : Word) → r < 2 ^ (degree f * t) → carried f t (carried f t r v) w ≡ carried f t r (v ++ w)
  carried-append r v w l = elim (dec_lt 0 t) [
    | yes h ↦ (rw (← carried-fold h r v, ← carried-fold h r (v ++ w))
        (sym (carried-fold h (parity_from (degree f * t) (generator f t) r v) w) ∙ sym (parity-append (degree f * t) (generator f t) r v w)))
    | no h ↦
        let e : t ≡ 0 = omega arith in
        let first : r ≡ carried f t r v = carried_none r v e l in
        rw (← first) (sym (carried_none r w e l) ∙ carried_none r (v ++ w) e l)
  ]
