-- The runs of page bits that code finds for a run of the stream: a is how many of the n bits lie before the mark, q where the others start.
use mathlib.Core.Path.{◌≡◌, sym, ap, ◌∙◌}
use mathlib.Core.List.{List, ◌++◌}
use Prim.Native.Nat.{ℕ, ◌+◌, ◌-◌, ◌*◌}
use native.Mathlib.Omega.{arith}
use Rattle.bits.specs.Bits.{bit_of, run}
use Rattle.mark.specs.declared.Mark.{Mark}
use Rattle.mark.specs.Mark.{place, stream_bit, near}
use Rattle.mark.proofs.Runs.{near-place, run-split, run-first, run-second}

module _ (k : Mark) (page : List ℕ) (s n : ℕ) {a : ℕ} (ea : a ≡ near k s n) where
  -- one run, before the mark
  pub run-before : a ≡ n → run (bit_of page) s n ≡ run (stream_bit k page) s n
  run-before e = sym (run-first k s n page (sym ea ∙ e))

  module _ (ne : a ≡ n → ⊥) {q : ℕ} (eq : q ≡ place k (s + a)) where
    -- one run, after it
    pub run-after : a ≡ 0 → run (bit_of page) q n ≡ run (stream_bit k page) s n
    run-after e =
        let i = near-place k s n ea ne eq in
        let j : q ≡ s + 8 * k.length = omega arith in
        ap (λ p. run (bit_of page) p n) j ∙ sym (run-second k s n page (sym ea ∙ e))

    -- two runs
    pub run-parts : run (bit_of page) s a ++ run (bit_of page) q (n - a) ≡ run (stream_bit k page) s n
    run-parts = ap (λ p. run (bit_of page) s a ++ run (bit_of page) p (n - a)) (near-place k s n ea ne eq) ∙ sym (run-split k s n page ea)
