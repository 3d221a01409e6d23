-- Stream positions and page positions: one to one, and exactly the mark is missed (document 02, E7).
use mathlib.Core.Path.{◌≡◌, sym, ap, ◌∙◌}
use mathlib.Core.Bool.{true, false, true≢false}
use mathlib.Core.Logic.{◌⊎◌, inl, inr}
use Prim.Native.Nat.{ℕ, ◌+◌, ◌-◌, ◌*◌, ◌<◌, ◌≤◌}
use native.Mathlib.Omega.{arith}
use native.Mathlib.Decide.{dec_lt}
use borrow.Author.Tests.{lt-ltb, le-ltb, le-leb, lt-leb}
use Rattle.mark.specs.declared.Mark.{Mark}
use Rattle.mark.specs.Mark.{place, marked, streamed}

module _ (k : Mark) where
  pub place-before : (p : ℕ) → p < 8 * k.offset → place k p ≡ p
  unfolding place
  place-before p h = simp (lt-ltb p (8 * k.offset) h)

  pub place_after : (p : ℕ) → 8 * k.offset ≤ p → place k p ≡ p + 8 * k.length
  unfolding place
  place_after p h = simp (le-ltb p (8 * k.offset) h)

  pub streamed-before : (p : ℕ) → p < 8 * k.offset → streamed k p ≡ p
  unfolding streamed
  streamed-before p h = simp (lt-ltb p (8 * k.offset) h)

  pub streamed-after : (p : ℕ) → 8 * k.offset ≤ p → streamed k p ≡ p - 8 * k.length
  unfolding streamed
  streamed-after p h = simp (le-ltb p (8 * k.offset) h)

  pub marked-before : (p : ℕ) → p < 8 * k.offset → marked k p ≡ false
  unfolding marked
  marked-before p h = simp (lt-leb (8 * k.offset) p h)

  pub marked-after : (p : ℕ) → 8 * (k.offset + k.length) ≤ p → marked k p ≡ false
  unfolding marked
  marked-after p h = simp (le-leb (8 * k.offset) p (omega arith), le-ltb p (8 * (k.offset + k.length)) h)

  pub marked-within : (p : ℕ) → 8 * k.offset ≤ p → p < 8 * (k.offset + k.length) → marked k p ≡ true
  unfolding marked
  marked-within p h l = simp (le-leb (8 * k.offset) p h, lt-ltb p (8 * (k.offset + k.length)) l)

  -- outside the mark is before it or after it
  pub marked-beside : (p : ℕ) → marked k p ≡ false → (p < 8 * k.offset) ⊎ (8 * (k.offset + k.length) ≤ p)
  marked-beside p e = elim (dec_lt p (8 * k.offset)) [
    | yes h ↦ inl h
    | no h ↦ elim (dec_lt p (8 * (k.offset + k.length))) [
      | yes l ↦ absurd (true≢false (sym (marked-within p (omega arith) l) ∙ e))
      | no l ↦ inr (omega arith)
    ]
  ]

  -- one to one, there and back
  pub streamed-place : (p : ℕ) → streamed k (place k p) ≡ p
  streamed-place p = elim (dec_lt p (8 * k.offset)) [
    | yes h ↦ rw (place-before p h) (streamed-before p h)
    | no h ↦ rw (place_after p (omega arith)) (streamed-after (p + 8 * k.length) (omega arith) ∙ omega arith)
  ]

  pub place-once : (p q : ℕ) → place k p ≡ place k q → p ≡ q
  place-once p q e = sym (streamed-place p) ∙ ap (streamed k) e ∙ streamed-place q

  -- no stream position stands in the mark
  pub place-free : (p : ℕ) → marked k (place k p) ≡ false
  place-free p = elim (dec_lt p (8 * k.offset)) [
    | yes h ↦ rw (place-before p h) (marked-before p h)
    | no h ↦ rw (place_after p (omega arith)) (marked-after (p + 8 * k.length) (omega arith))
  ]

  -- every page position outside the mark has a stream position
  pub place-streamed : (p : ℕ) → marked k p ≡ false → place k (streamed k p) ≡ p
  place-streamed p e = elim (marked-beside p e) [
    | inl h ↦ rw (streamed-before p h) (place-before p h)
    | inr h ↦ rw (streamed-after p (omega arith)) (place_after (p - 8 * k.length) (omega arith) ∙ omega arith)
  ]

  -- the stream of a page is as long as the page without the mark
  module _ (size : ℕ) (fits : k.offset + k.length ≤ size) where
    pub place-below : (p : ℕ) → p < 8 * (size - k.length) → place k p < 8 * size
    place-below p l = elim (dec_lt p (8 * k.offset)) [
      | yes h ↦ rw (place-before p h) (omega arith)
      | no h ↦ rw (place_after p (omega arith)) (omega arith)
    ]

    pub streamed-below : (p : ℕ) → p < 8 * size → marked k p ≡ false → streamed k p < 8 * (size - k.length)
    streamed-below p l e = elim (marked-beside p e) [
      | inl h ↦ rw (streamed-before p h) (omega arith)
      | inr h ↦ rw (streamed-after p (omega arith)) (omega arith)
    ]

  -- with no mark nothing moves
  pub place_none : (p : ℕ) → k.length ≡ 0 → place k p ≡ p
  place_none p e = elim (dec_lt p (8 * k.offset)) [
    | yes h ↦ place-before p h
    | no h ↦ place_after p (omega arith) ∙ omega arith
  ]
