-- Laws of a word put at a position of a page.
use mathlib.Core.Path.{◌≡◌, refl, sym, ap, ◌∙◌}
use mathlib.Core.Bool.{Bool, false}
use mathlib.Core.List.{List, [], ◌∷◌, ◌++◌}
use Prim.Native.Nat.{ℕ, zero, suc, ◌+◌, ◌-◌, ◌*◌, ◌<◌, ◌≤◌}
use native.Mathlib.Omega.{arith}
use native.Mathlib.Decide.{dec_lt}
use native.Mathlib.Nat.{zero-add}
use lib.ListN.{length, get_or, length-append, get_or-append, get_or-eq_default}
use lib.Seq.{get_or-append-add}
use borrow.Author.Tests.{le-leb, lt-leb}
use Rattle.bits.specs.Bits.{bit_of, run, bytes, Bytes, placed_bit, placed}
use Rattle.bits.proofs.Runs.{run_length, run-ext, run-append}
use Rattle.bits.proofs.Pages.{bit_of-past, bytes-length, bytes-bytes, bytes-bit, bytes-ext, bytes-cong}

-- a position lies in the word, or outside it
data Place (s n p : ℕ) : Type 0 where
  within : (j : ℕ) → j < n → p ≡ s + j → Place s n p
  beside : (s ≤ p → p < s + n → ⊥) → Place s n p

place : (s n p : ℕ) → Place s n p
place s n p = elim (dec_lt p s) [
  | yes h ↦ beside (λ a b. omega arith)
  | no h ↦ elim (dec_lt p (s + n)) [
    | yes k ↦ within (p - s) (omega arith) (omega arith)
    | no k ↦ beside (λ a b. omega arith)
  ]
]

-- an element that is there does not depend on the default
get_d_default : {A : Type 0} (l : List A) (d e : A) (i : ℕ) → i < length l → get_or l i d ≡ get_or l i e
get_d_default [] d e i h = absurd (omega arith)
get_d_default (x ∷ l) d e zero h = refl
get_d_default (x ∷ l) d e (suc i) h = get_d_default l d e i (omega arith)

module _ (page : List ℕ) (s : ℕ) (w : List Bool) where
  pub placed_bit-inside : (j : ℕ) (d : Bool) → j < length w → placed_bit page s w (s + j) ≡ get_or w j d
  unfolding placed_bit
  placed_bit-inside j d h =
      let e : s + j - s ≡ j = omega arith in
      rw (le-leb s (s + j) (omega arith), e) (get_d_default w (bit_of page (s + j)) d j h)

  pub placed_bit-outside : (p : ℕ) → (s ≤ p → p < s + length w → ⊥) → placed_bit page s w p ≡ bit_of page p
  unfolding placed_bit
  placed_bit-outside p o = elim (dec_lt p s) [
    | yes h ↦ rw (lt-leb s p h)
    | no h ↦
        let g : s ≤ p = omega arith in
        let k : length w ≤ p - s = elim (dec_lt (p - s) (length w)) [ yes l ↦ absurd (o g (omega arith)) | no l ↦ omega arith ] in
        rw (le-leb s p g) (get_or-eq_default w (bit_of page p) k)
  ]

  pub placed-length : length (placed page s w) ≡ length page
  unfolding placed
  placed-length = bytes-length _ (length page)

  pub placed-bytes : Bytes (length page) (placed page s w)
  unfolding placed
  placed-bytes = bytes-bytes _ (length page)

  pub placed-bit : (p : ℕ) → p < 8 * length page → bit_of (placed page s w) p ≡ placed_bit page s w p
  unfolding placed
  placed-bit p h = bytes-bit _ (length page) p h

  -- the word stands at its position
  pub placed-inside : (j : ℕ) (d : Bool) → j < length w → s + j < 8 * length page → bit_of (placed page s w) (s + j) ≡ get_or w j d
  placed-inside j d h l = placed-bit (s + j) l ∙ placed_bit-inside j d h

  -- every other bit is as before
  pub placed-outside : (p : ℕ) → (s ≤ p → p < s + length w → ⊥) → bit_of (placed page s w) p ≡ bit_of page p
  placed-outside p o = elim (dec_lt p (8 * length page)) [
    | yes h ↦ placed-bit p h ∙ placed_bit-outside p o
    | no h ↦ bit_of-past (placed page s w) p (omega (arith, placed-length)) ∙ sym (bit_of-past page p (omega arith))
  ]

  -- the word reads back
  pub placed-run : s + length w ≤ 8 * length page → run (bit_of (placed page s w)) s (length w) ≡ w
  placed-run h = run-ext _ s w (length w) false refl (λ j l. placed-inside j false l (omega arith))

  -- a page with the word at its position and every other bit as before
  pub placed-ext : (after : List ℕ) → Bytes (length page) after → ((j : ℕ) → j < length w → s + j < 8 * length page → bit_of after (s + j) ≡ get_or w j false)
      → ((p : ℕ) → (s ≤ p → p < s + length w → ⊥) → bit_of after p ≡ bit_of page p) → placed page s w ≡ after
  unfolding placed
  placed-ext after b inside outside = bytes-ext _ (length page) after b (λ p h. by p h (place s (length w) p))
    where
      by : (p : ℕ) → p < 8 * length page → Place s (length w) p → bit_of after p ≡ placed_bit page s w p
      by p h (within j l e) = rw e (inside j l (omega arith) ∙ sym (placed_bit-inside j false l))
      by p h (beside o) = outside p o ∙ sym (placed_bit-outside p o)

-- nothing is put
pub placed-empty : (page : List ℕ) (s : ℕ) → Bytes (length page) page → placed page s [] ≡ page
placed-empty page s b = placed-ext page s [] page b (λ j h k. absurd (omega arith)) (λ p o. refl)

pub placed-none : (f : ℕ → Bool) (page : List ℕ) (s r n : ℕ) → Bytes (length page) page → n ≡ 0 → page ≡ placed page s (run f r n)
unfolding run
placed-none f page s r n b e = rw e (sym (placed-empty page s b))

-- what lies past the end is lost
pub placed_past : (page : List ℕ) (s : ℕ) (w : List Bool) → Bytes (length page) page → 8 * length page ≤ s → placed page s w ≡ page
placed_past page s w b h = placed-ext page s w page b (λ j l k. absurd (omega arith)) (λ p o. refl)

-- two words, one after the other
pub placed-append : (page : List ℕ) (s t : ℕ) (v w : List Bool) → t ≡ s + length v → placed (placed page s v) t w ≡ placed page s (v ++ w)
placed-append page s t v w e =
    let l = length-append v w in
    let k = placed-length page s v in
    sym (placed-ext page s (v ++ w) _ (rw (← k) (placed-bytes (placed page s v) t w))
    (λ j h m. elim (dec_lt j (length v)) [
      | yes y ↦ placed-outside (placed page s v) t w (s + j) (λ a b. omega arith) ∙ placed-inside page s v j false y m ∙ sym (get_or-append v w false j y)
      | no y ↦
          let i : ℕ = j - length v in
          let f : s + j ≡ t + i = omega arith in
          let g : length v + i ≡ j = omega arith in
          ap (bit_of (placed (placed page s v) t w)) f ∙ placed-inside (placed page s v) t w i false (omega arith) (omega arith)
          ∙ sym (get_or-append-add v w i false) ∙ ap (λ (n : ℕ). get_or (v ++ w) n false) g
    ])
    (λ p o. placed-outside (placed page s v) t w p (λ a b. o (omega arith) (omega arith)) ∙ placed-outside page s v p (λ a b. o a (omega arith))))

pub placed-run-append : (f : ℕ → Bool) (page : List ℕ) (s r n k : ℕ) {t q : ℕ} → t ≡ s + n → q ≡ r + n
    → placed (placed page s (run f r n)) t (run f q k) ≡ placed page s (run f r (n + k))
placed-run-append f page s r n k {t} {q} et eq =
    placed-append page s t (run f r n) (run f q k) (et ∙ ap (λ (i : ℕ). s + i) (sym (run_length f r n)))
    ∙ rw (eq, ← run-append f r n k)

-- a run put in three parts
pub placed-three : (f : ℕ → Bool) (page : List ℕ) (s r a b c : ℕ) {n : ℕ} {p q t : List ℕ} → a + b + c ≡ n → p ≡ placed page s (run f r a)
    → q ≡ placed p (s + a) (run f (r + a) b) → t ≡ placed q (s + (a + b)) (run f (r + (a + b)) c) → t ≡ placed page s (run f r n)
placed-three f page s r a b c en ep eq et =
    et ∙ ap (λ l. placed l (s + (a + b)) (run f (r + (a + b)) c)) (eq ∙ ap (λ l. placed l (s + a) (run f (r + a) b)) ep ∙ placed-run-append f page s r a b refl refl)
    ∙ placed-run-append f page s r (a + b) c refl refl ∙ ap (λ (i : ℕ). placed page s (run f r i)) en

-- a page all of whose bits are put
pub placed-whole : (page : List ℕ) (w : List Bool) → length w ≡ 8 * length page → placed page 0 w ≡ bytes (λ p. get_or w p false) (length page)
unfolding placed
placed-whole page w l = bytes-cong _ _ (length page)
    (λ p h. ap (placed_bit page 0 w) (sym (zero-add p)) ∙ placed_bit-inside page 0 w p false (omega arith))
