-- Laws of runs.
use mathlib.Core.Path.{◌≡◌, refl, sym, ap, ap₂, ◌∙◌}
use mathlib.Core.List.{List, ◌∷◌, ◌++◌}
use Prim.Native.Nat.{ℕ, zero, suc, ◌+◌, ◌<◌}
use native.Mathlib.Omega.{arith}
use native.Mathlib.Nat.{add-zero, zero-add, suc-add, add-suc}
use lib.ListN.{length, get_or}
use lib.Seq.{ext_get_or}
use Rattle.bits.specs.Bits.{run}

module _ {A : Type 0} where
  pub run_length : (f : ℕ → A) (s n : ℕ) → length (run f s n) ≡ n
  unfolding run
  run_length f s zero = refl
  run_length f s (suc n) = ap suc (run_length f (suc s) n)

  pub run_at : (f : ℕ → A) (s n j : ℕ) (d : A) → j < n → get_or (run f s n) j d ≡ f (s + j)
  unfolding run
  run_at f s zero j d l = absurd (omega arith)
  run_at f s (suc n) zero d l = rw (add-zero s)
  run_at f s (suc n) (suc j) d l = run_at f (suc s) n j d (omega arith) ∙ rw (suc-add s j, add-suc s j)

  -- a run is the list that has its values
  pub run-ext : (f : ℕ → A) (s : ℕ) (w : List A) (n : ℕ) (d : A) → length w ≡ n → ((j : ℕ) → j < n → f (s + j) ≡ get_or w j d) → run f s n ≡ w
  run-ext f s w n d l h = ext_get_or d (run f s n) w (run_length f s n ∙ sym l)
      (λ j k. let k' : j < n = omega (arith, run_length f s n) in run_at f s n j d k' ∙ h j k')

  pub run-cong : (f g : ℕ → A) (s r n : ℕ) → ((j : ℕ) → j < n → f (s + j) ≡ g (r + j)) → run f s n ≡ run g r n
  unfolding run
  run-cong f g s r zero h = refl
  run-cong f g s r (suc n) h =
      let z : f s ≡ g r = ap f (sym (add-zero s)) ∙ h 0 (omega arith) ∙ ap g (add-zero r) in
      ap₂ ◌∷◌ z (run-cong f g (suc s) (suc r) n (λ j l. rw (suc-add s j, suc-add r j, ← add-suc s j, ← add-suc r j) (h (suc j) (omega arith))))

  pub run-append : (f : ℕ → A) (s n k : ℕ) → run f s (n + k) ≡ run f s n ++ run f (s + n) k
  unfolding run
  run-append f s zero k = rw (zero-add k, add-zero s)
  run-append f s (suc n) k = rw (suc-add n k, run-append f (suc s) n k, suc-add s n, add-suc s n)
