-- The parity of a message in the stream, and the remainder of a run, divided in one part or in two.
use mathlib.Core.Path.{◌≡◌, refl, sym, ap, ◌∙◌}
use mathlib.Core.Bool.{false}
use mathlib.Core.List.{List, ◌++◌}
use Prim.Native.Nat.{ℕ, ◌+◌, ◌-◌, ◌*◌, ◌^◌, ◌<◌, ◌≤◌}
use native.Mathlib.Omega.{arith}
use lib.ListN.{length, replicate}
use lib.Bits.{bit_xor}
use Rattle.bits.specs.Bits.{bit_of, run, number, bytes}
use Rattle.bits.proofs.Pages.{bytes_run}
use Rattle.field.specs.declared.Field.{Field}
use Rattle.field.specs.Field.{degree}
use Rattle.code.specs.Word.{Word}
use Rattle.code.specs.Generator.{generator, remainder}
use Rattle.code.proofs.Remainder.{remainder-below}
use Rattle.remainder.specs.Parity.{parity_from}
use Rattle.remainder.proofs.Parity.{parity-append}
use Rattle.division_steps.proofs.Level.{message-parity, remainder-none, remainder-number, remainder-parts}
use Rattle.mark.specs.declared.Mark.{Mark}
use Rattle.mark.specs.Mark.{place, stream_bit, near, InStream}
use Rattle.page_runs.proofs.Parts.{run-before, run-after, run-parts}

-- the remainder of a word with the zeros of its parity after it
abbrev padded : Field → ℕ → Word → ℕ
padded f t w = remainder f t (w ++ replicate (degree f * t) false)

module _ (f : Field) (t : ℕ) where
  padded-append : 0 < t → (v w : Word) {r x : ℕ} → r ≡ padded f t v → x ≡ parity_from (degree f * t) (generator f t) r w → x ≡ padded f t (v ++ w)
  padded-append h v w er ex =
      let d : ℕ = degree f * t in
      let g : ℕ = generator f t in
      message-parity f t h (v ++ w) refl
      (ex ∙ ap (λ y. parity_from d g y w) (er ∙ sym (message-parity f t h v refl refl)) ∙ sym (parity-append d g 0 v w))

  module _ (k : Mark) (page : List ℕ) (s n : ℕ) {a : ℕ} (ea : a ≡ near k s n) where
    pub parity-before : {x : ℕ} → a ≡ n → x ≡ padded f t (run (bit_of page) s n) → x ≡ padded f t (run (stream_bit k page) s n)
    parity-before e ex = ex ∙ ap (padded f t) (run-before k page s n ea e)

    -- at t = 0 all remainders are the same
    pub parity-none : {x : ℕ} → t ≡ 0 → x ≡ padded f t (run (bit_of page) s a) → x ≡ padded f t (run (stream_bit k page) s n)
    parity-none z ex = ex ∙ sym (remainder-none f t _ z refl) ∙ remainder-none f t _ z refl

    pub parity-below : {x : ℕ} → t ≤ 62 → x ≡ padded f t (run (bit_of page) s a) → x < 2 ^ (degree f * t)
    parity-below h ex = rw ex (remainder-below f t _ h)

    module _ (ne : a ≡ n → ⊥) {q : ℕ} (eq : q ≡ place k (s + a)) where
      pub parity-after : {x : ℕ} → a ≡ 0 → x ≡ padded f t (run (bit_of page) q n) → x ≡ padded f t (run (stream_bit k page) s n)
      parity-after e ex = ex ∙ ap (padded f t) (run-after k page s n ea ne eq e)

      pub parity-parts : {r x : ℕ} → 0 < t → r ≡ padded f t (run (bit_of page) s a)
          → x ≡ parity_from (degree f * t) (generator f t) r (run (bit_of page) q (n - a)) → x ≡ padded f t (run (stream_bit k page) s n)
      parity-parts h er ex = padded-append h (run (bit_of page) s a) (run (bit_of page) q (n - a)) er ex ∙ ap (padded f t) (run-parts k page s n ea ne eq)

-- The remainder of a run of the stream.
module _ (f : Field) (t : ℕ) (k : Mark) (page : List ℕ) (s n : ℕ) where
  module _ {a : ℕ} (ea : a ≡ near k s n) where
    pub remainder-before : {x : ℕ} → a ≡ n → x ≡ remainder f t (run (bit_of page) s n) → x ≡ remainder f t (run (stream_bit k page) s n)
    remainder-before e ex = ex ∙ ap (remainder f t) (run-before k page s n ea e)

    pub remainder-after : (a ≡ n → ⊥) → {q x : ℕ} → q ≡ place k (s + a) → a ≡ 0 → x ≡ remainder f t (run (bit_of page) q n)
        → x ≡ remainder f t (run (stream_bit k page) s n)
    remainder-after ne eq e ex = ex ∙ ap (remainder f t) (run-after k page s n ea ne eq e)

  -- the laws of division speak of pages: here of one whose bits are the stream
  module _ (i : InStream k page s n) where
    abbrev stream : List ℕ
    stream = bytes (stream_bit k page) (length page)

    stream-run : (p m : ℕ) → p + m ≤ s + n → run (bit_of stream) p m ≡ run (stream_bit k page) p m
    stream-run p m l = let e = i.ends in bytes_run (stream_bit k page) (length page) p m (omega arith)

    pub remainder-few : {d x : ℕ} → d ≡ degree f * t → n < d → x ≡ number (run (stream_bit k page) s n) → x ≡ remainder f t (run (stream_bit k page) s n)
    remainder-few ed h ex =
        let r = stream-run s n (omega arith) in
        remainder-number f t stream s n (omega arith) (ex ∙ ap number (sym r)) ∙ ap (remainder f t) r

    pub remainder-added : {d p l x : ℕ} → d ≡ degree f * t → d ≤ n → p ≡ padded f t (run (stream_bit k page) s (n - d))
        → l ≡ number (run (stream_bit k page) (s + (n - d)) d) → x ≡ bit_xor p l → x ≡ remainder f t (run (stream_bit k page) s n)
    remainder-added {d} ed h ep el ex =
        remainder-parts f t stream s n ed h (ep ∙ ap (padded f t) (sym (stream-run s (n - d) (omega arith))))
        (el ∙ ap number (sym (stream-run (s + (n - d)) d (omega arith)))) ex ∙ ap (remainder f t) (stream-run s n (omega arith))
