-- A run of stream bits is at most two runs of page bits: those before the mark, and those after it (document 02, E7).
use mathlib.Core.Path.{◌≡◌, ap, ap₂, ◌∙◌}
use mathlib.Core.List.{List, ◌++◌}
use Prim.Native.Nat.{ℕ, ◌+◌, ◌-◌, ◌*◌, ◌<◌, ◌≤◌}
use native.Mathlib.Omega.{arith}
use native.Mathlib.Decide.{ℕ_discrete, dec_lt}
use borrow.Author.Tests.{le-leb, lt-leb, eq-eqb, ne_eqb}
use Rattle.bits.specs.Bits.{bit_of, run}
use Rattle.bits.proofs.Runs.{run-cong, run-append}
use Rattle.mark.specs.declared.Mark.{Mark}
use Rattle.mark.specs.Mark.{place, stream_bit, near}
use Rattle.mark.proofs.Places.{place-before, place_after, place_none}

module _ (k : Mark) (s n : ℕ) where
  pub near_none : k.length ≡ 0 → near k s n ≡ n
  unfolding near
  near_none e = simp (eq-eqb k.length 0 e)

  pub near_before : (k.length ≡ 0 → ⊥) → s + n ≤ 8 * k.offset → near k s n ≡ n
  unfolding near
  near_before ne h = simp (ne_eqb k.length 0 ne, le-leb (s + n) (8 * k.offset) h)

  pub near-across : (k.length ≡ 0 → ⊥) → 8 * k.offset < s + n → near k s n ≡ 8 * k.offset - s
  unfolding near
  near-across ne h = simp (ne_eqb k.length 0 ne, lt-leb (s + n) (8 * k.offset) h)

  -- there is no mark, or the run lies before it, or some of the run does not
  data Side : Type 0 where
    unmarked : k.length ≡ 0 → near k s n ≡ n → Side
    before : s + n ≤ 8 * k.offset → near k s n ≡ n → Side
    across : 8 * k.offset < s + n → near k s n ≡ 8 * k.offset - s → Side

  side : Side
  side = elim (ℕ_discrete k.length 0) [
    | yes e ↦ unmarked e (near_none e)
    | no ne ↦ elim (dec_lt (8 * k.offset) (s + n)) [
      | yes h ↦ across h (near-across ne h)
      | no h ↦ before (omega arith) (near_before ne (omega arith))
    ]
  ]

  pub near_le : near k s n ≤ n
  near_le = elim side [ unmarked z e ↦ omega arith | before h e ↦ omega arith | across h e ↦ omega arith ]

  -- the bits before the mark stand where they are counted
  pub near_first : (j : ℕ) → j < near k s n → place k (s + j) ≡ s + j
  near_first j l = elim side [
    | unmarked z e ↦ place_none k (s + j) z
    | before h e ↦ place-before k (s + j) (omega arith)
    | across h e ↦ place-before k (s + j) (omega arith)
  ]

  -- the others stand further on by the mark's bits
  pub near-second : (j : ℕ) → near k s n ≤ j → j < n → place k (s + j) ≡ s + j + 8 * k.length
  near-second j m l = elim side [
    | unmarked z e ↦ absurd (omega arith)
    | before h e ↦ absurd (omega arith)
    | across h e ↦ place_after k (s + j) (omega arith)
  ]

  -- where the second run starts, as code finds it
  pub near-less : {a : ℕ} → a ≡ near k s n → (a ≡ n → ⊥) → a < n
  near-less e ne = let l = near_le in omega arith

  pub near-place : {a q : ℕ} → a ≡ near k s n → (a ≡ n → ⊥) → q ≡ place k (s + a) → q ≡ s + a + 8 * k.length
  near-place {a} e ne eq = eq ∙ near-second a (omega arith) (near-less e ne)

  module _ (page : List ℕ) where
    -- two runs of page bits
    pub run-split : {a : ℕ} → a ≡ near k s n
        → run (stream_bit k page) s n ≡ run (bit_of page) s a ++ run (bit_of page) (s + a + 8 * k.length) (n - a)
    unfolding stream_bit
    run-split {a} ea =
        let l = near_le in
        let e : n ≡ a + (n - a) = omega arith in
        ap (run (stream_bit k page) s) e ∙ run-append (stream_bit k page) s a (n - a)
        ∙ ap₂ ◌++◌
        (run-cong _ (bit_of page) s s a (λ j h. ap (bit_of page) (near_first j (omega arith))))
        (run-cong _ (bit_of page) (s + a) (s + a + 8 * k.length) (n - a) (λ j h.
        let e : s + a + j ≡ s + (a + j) = omega arith in
        ap (bit_of page) (ap (place k) e ∙ near-second (a + j) (omega arith) (omega arith) ∙ omega arith)))

    -- one run, before the mark or after it
    pub run-first : near k s n ≡ n → run (stream_bit k page) s n ≡ run (bit_of page) s n
    unfolding stream_bit
    run-first e = run-cong _ (bit_of page) s s n (λ j h. ap (bit_of page) (near_first j (omega arith)))

    pub run-second : near k s n ≡ 0 → run (stream_bit k page) s n ≡ run (bit_of page) (s + 8 * k.length) n
    unfolding stream_bit
    run-second e = run-cong _ (bit_of page) s (s + 8 * k.length) n
        (λ j h. ap (bit_of page) (near-second j (omega arith) h ∙ omega arith))
