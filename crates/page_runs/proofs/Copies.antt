-- A run of the stream copied in one part or in two.
use mathlib.Core.Path.{◌≡◌, sym, ap, ◌∙◌}
use mathlib.Core.Bool.{Bool}
use mathlib.Core.List.{List, ◌++◌}
use Prim.Native.Nat.{ℕ, ◌+◌, ◌-◌, ◌*◌, ◌≤◌}
use native.Mathlib.Omega.{arith}
use native.Mathlib.Nat.{zero-add}
use lib.ListN.{length}
use Rattle.bits.specs.Bits.{bit_of, run, number, placed}
use Rattle.bits.proofs.Runs.{run_length}
use Rattle.bits.proofs.Placed.{placed-run, placed-append}
use Rattle.mark.specs.declared.Mark.{Mark}
use Rattle.mark.specs.Mark.{place, stream_bit, near}
use Rattle.payload.specs.Payload.{Joined}
use Rattle.page_runs.proofs.Parts.{run-before, run-parts}

module _ (k : Mark) (page : List ℕ) (s n : ℕ) {a : ℕ} (ea : a ≡ near k s n) (word : List ℕ) where
  pub word-before : {x : List ℕ} → a ≡ n → x ≡ placed word 0 (run (bit_of page) s n) → x ≡ placed word 0 (run (stream_bit k page) s n)
  word-before e ex = ex ∙ ap (placed word 0) (run-before k page s n ea e)

  pub word-parts : (a ≡ n → ⊥) → {q : ℕ} {x y : List ℕ} → q ≡ place k (s + a) → x ≡ placed word 0 (run (bit_of page) s a)
      → y ≡ placed x a (run (bit_of page) q (n - a)) → y ≡ placed word 0 (run (stream_bit k page) s n)
  word-parts ne {q} eq ex ey =
      ey ∙ ap (λ l. placed l a (run (bit_of page) q (n - a))) ex
      ∙ placed-append word 0 a (run (bit_of page) s a) (run (bit_of page) q (n - a)) (sym (zero-add _ ∙ run_length (bit_of page) s a))
      ∙ ap (placed word 0) (run-parts k page s n ea ne eq)

-- the same into the payload, which is lent as metadata and data apart
module _ (k : Mark) (page : List ℕ) (s n : ℕ) {a : ℕ} (ea : a ≡ near k s n) (m d : List ℕ) (p : ℕ) where
  pub payload-before : {m' d' : List ℕ} → a ≡ n → Joined m d m' d' (placed (m ++ d) p (run (bit_of page) s n))
      → Joined m d m' d' (placed (m ++ d) p (run (stream_bit k page) s n))
  payload-before {m'} {d'} e j = rw (← run-before k page s n ea e) j

  pub payload-parts : (a ≡ n → ⊥) → {q : ℕ} {m' d' m'' d'' : List ℕ} → q ≡ place k (s + a) → Joined m d m' d' (placed (m ++ d) p (run (bit_of page) s a))
      → Joined m' d' m'' d'' (placed (m' ++ d') (p + a) (run (bit_of page) q (n - a))) → Joined m d m'' d'' (placed (m ++ d) p (run (stream_bit k page) s n))
  payload-parts ne {q} eq first second = record {
    metadata = second.metadata ∙ first.metadata;
    «data» = second.«data» ∙ first.«data»;
    both = second.both ∙ ap (λ l. placed l (p + a) (run (bit_of page) q (n - a))) first.both
        ∙ placed-append (m ++ d) p (p + a) (run (bit_of page) s a) (run (bit_of page) q (n - a)) (ap (λ i. p + i) (sym (run_length (bit_of page) s a)))
        ∙ ap (placed (m ++ d) p) (run-parts k page s n ea ne eq);
  }

-- The number in a run of the stream, read where it stands or from a word that it was copied into.
module _ (k : Mark) (page : List ℕ) (s n : ℕ) where
  pub number-before : {a x : ℕ} → a ≡ near k s n → a ≡ n → x ≡ number (run (bit_of page) s n) → x ≡ number (run (stream_bit k page) s n)
  number-before ea e ex = ex ∙ ap number (run-before k page s n ea e)

  pub number-copied : (word : List ℕ) {copy : List ℕ} {x : ℕ} → n ≤ 8 * length word → copy ≡ placed word 0 (run (stream_bit k page) s n)
      → x ≡ number (run (bit_of copy) 0 n) → x ≡ number (run (stream_bit k page) s n)
  number-copied word h ec ex =
      let w : List Bool = run (stream_bit k page) s n in
      let l = run_length (stream_bit k page) s n in
      ex ∙ ap (λ c. number (run (bit_of c) 0 n)) ec ∙ ap (λ m. number (run (bit_of (placed word 0 w)) 0 m)) (sym l) ∙ ap number (placed-run word 0 w (omega arith))
