-- Laws of a word put at a position of the stream (document 02, E7).
use mathlib.Core.Path.{◌≡◌, refl, sym, ap, ap₂, ◌∙◌}
use mathlib.Core.Bool.{Bool, true, false, true≢false}
use mathlib.Core.List.{List, [], ◌++◌, append-nil}
use Prim.Native.Nat.{ℕ, ◌+◌, ◌-◌, ◌*◌, ◌<◌, ◌≤◌}
use native.Mathlib.Omega.{arith}
use native.Mathlib.Decide.{dec_lt}
use lib.ListN.{length, get_or, length-append, get_or-append, get_or-eq_default}
use lib.Seq.{get_or-append-add}
use borrow.Author.Tests.{le-leb, lt-leb}
use Rattle.bits.specs.Bits.{bit_of, run, Bytes, placed}
use Rattle.bits.proofs.Runs.{run_length, run-ext, run-append}
use Rattle.bits.proofs.Pages.{bit_of-past, bytes-length, bytes-bytes, bytes-bit, bytes-ext}
use Rattle.bits.proofs.Placed.{placed_bit-inside, placed-length, placed-bytes, placed-inside, placed-outside, placed-empty}
use Rattle.mark.specs.declared.Mark.{Mark}
use Rattle.mark.specs.Mark.{place, marked, streamed, stream_bit, near, put_bit, put, InStream}
use Rattle.mark.proofs.Places.{place-free, place-once, place-streamed, streamed-place, place-below}
use Rattle.mark.proofs.Runs.{near_le, near_first, near-second}

-- a page position lies in the mark, in the word, or outside both
data Where (k : Mark) (s n p : ℕ) : Type 0 where
  in-mark : marked k p ≡ true → Where k s n p
  within : (j : ℕ) → j < n → p ≡ place k (s + j) → Where k s n p
  beside : (q : ℕ) → (s ≤ q → q < s + n → ⊥) → p ≡ place k q → Where k s n p

where-is : (k : Mark) (s n p : ℕ) → Where k s n p
where-is k s n p = go (marked k p) refl
  where
    go : (b : Bool) → marked k p ≡ b → Where k s n p
    go true e = in-mark e
    go false e =
        let q : ℕ = streamed k p in
        let f : p ≡ place k q = sym (place-streamed k p e) in
        elim (dec_lt q s) [
          | yes h ↦ beside q (λ a b. omega arith) f
          | no h ↦ elim (dec_lt q (s + n)) [
            | yes l ↦ let i : q ≡ s + (q - s) = omega arith in within (q - s) (omega arith) (f ∙ ap (place k) i)
            | no l ↦ beside q (λ a b. omega arith) f
          ]
        ]

module _ (k : Mark) (page : List ℕ) (s : ℕ) (w : List Bool) where
  pub put_bit-mark : (p : ℕ) → marked k p ≡ true → put_bit k page s w p ≡ bit_of page p
  unfolding put_bit
  put_bit-mark p m = rw m

  pub put_bit-inside : (j : ℕ) (d : Bool) → j < length w → put_bit k page s w (place k (s + j)) ≡ get_or w j d
  unfolding put_bit
  put_bit-inside j d h =
      let e : s + j - s ≡ j = omega arith in
      let b : Bool = bit_of page (place k (s + j)) in
      rw (place-free k (s + j), streamed-place k (s + j), le-leb s (s + j) (omega arith), e)
      (sym (placed_bit-inside [] 0 w j b h) ∙ placed_bit-inside [] 0 w j d h)

  pub put_bit-outside : (q : ℕ) → (s ≤ q → q < s + length w → ⊥) → put_bit k page s w (place k q) ≡ stream_bit k page q
  unfolding put_bit stream_bit
  put_bit-outside q o = rw (place-free k q, streamed-place k q) (elim (dec_lt q s) [
    | yes h ↦ rw (lt-leb s q h)
    | no h ↦
        let g : s ≤ q = omega arith in
        let l : length w ≤ q - s = elim (dec_lt (q - s) (length w)) [ yes l ↦ absurd (o g (omega arith)) | no l ↦ omega arith ] in
        rw (le-leb s q g) (get_or-eq_default w (bit_of page (place k q)) l)
  ])

  pub put-length : length (put k page s w) ≡ length page
  unfolding put
  put-length = bytes-length _ (length page)

  pub put-bytes : Bytes (length page) (put k page s w)
  unfolding put
  put-bytes = bytes-bytes _ (length page)

  pub put-bit : (p : ℕ) → p < 8 * length page → bit_of (put k page s w) p ≡ put_bit k page s w p
  unfolding put
  put-bit p h = bytes-bit _ (length page) p h

  put_same : (p : ℕ) → put_bit k page s w p ≡ bit_of page p → bit_of (put k page s w) p ≡ bit_of page p
  put_same p e = elim (dec_lt p (8 * length page)) [
    | yes h ↦ put-bit p h ∙ e
    | no h ↦ bit_of-past (put k page s w) p (omega (arith, put-length)) ∙ sym (bit_of-past page p (omega arith))
  ]

  -- the mark's bits are as before
  pub put-mark : (p : ℕ) → marked k p ≡ true → bit_of (put k page s w) p ≡ bit_of page p
  put-mark p m = put_same p (put_bit-mark p m)

  -- the word stands at its position of the stream
  pub put-inside : (j : ℕ) (d : Bool) → j < length w → place k (s + j) < 8 * length page → stream_bit k (put k page s w) (s + j) ≡ get_or w j d
  unfolding stream_bit
  put-inside j d h l = put-bit (place k (s + j)) l ∙ put_bit-inside j d h

  -- every other bit of the stream is as before
  pub put-outside : (q : ℕ) → (s ≤ q → q < s + length w → ⊥) → stream_bit k (put k page s w) q ≡ stream_bit k page q
  unfolding stream_bit
  put-outside q o = put_same (place k q) (put_bit-outside q o)

  -- the word reads back
  pub put-run : InStream k page s (length w) → run (stream_bit k (put k page s w)) s (length w) ≡ w
  put-run i = run-ext _ s w (length w) false refl
      (λ j l. let e = i.ends in put-inside j false l (place-below k (length page) i.inside (s + j) (omega arith)))

  -- a page with the word at its position of the stream and every other bit as before
  pub put-ext : (after : List ℕ) → Bytes (length page) after → ((p : ℕ) → marked k p ≡ true → bit_of after p ≡ bit_of page p)
      → ((j : ℕ) → j < length w → place k (s + j) < 8 * length page → stream_bit k after (s + j) ≡ get_or w j false)
      → ((q : ℕ) → (s ≤ q → q < s + length w → ⊥) → stream_bit k after q ≡ stream_bit k page q) → put k page s w ≡ after
  unfolding put stream_bit
  put-ext after b mark inside outside = bytes-ext _ (length page) after b (λ p h. by p h (where-is k s (length w) p))
    where
      by : (p : ℕ) → p < 8 * length page → Where k s (length w) p → bit_of after p ≡ put_bit k page s w p
      by p h (in-mark m) = mark p m ∙ sym (put_bit-mark p m)
      by p h (within j l e) = rw e (inside j l (rw e at h) ∙ sym (put_bit-inside j false l))
      by p h (beside q o e) = rw e (outside q o ∙ sym (put_bit-outside q o))

-- nothing is put
pub put-empty : (k : Mark) (page : List ℕ) (s : ℕ) → Bytes (length page) page → put k page s [] ≡ page
put-empty k page s b = put-ext k page s [] page b (λ p m. refl) (λ j h l. absurd (omega arith)) (λ q o. refl)

-- two words, one after the other
pub put-append : (k : Mark) (page : List ℕ) (s t : ℕ) (v w : List Bool) → t ≡ s + length v → put k (put k page s v) t w ≡ put k page s (v ++ w)
put-append k page s t v w e =
    let l = length-append v w in
    let c = put-length k page s v in
    sym (put-ext k page s (v ++ w) _ (rw (← c) (put-bytes k (put k page s v) t w))
    (λ p m. put-mark k (put k page s v) t w p m ∙ put-mark k page s v p m)
    (λ j h m. elim (dec_lt j (length v)) [
      | yes y ↦ put-outside k (put k page s v) t w (s + j) (λ a b. omega arith) ∙ put-inside k page s v j false y m ∙ sym (get_or-append v w false j y)
      | no y ↦
          let i : ℕ = j - length v in
          let f : s + j ≡ t + i = omega arith in
          let g : length v + i ≡ j = omega arith in
          let m' : place k (t + i) < 8 * length (put k page s v) = rw (← f, c) m in
          ap (stream_bit k (put k (put k page s v) t w)) f ∙ put-inside k (put k page s v) t w i false (omega arith) m'
          ∙ sym (get_or-append-add v w i false) ∙ ap (λ (n : ℕ). get_or (v ++ w) n false) g
    ])
    (λ q o. put-outside k (put k page s v) t w q (λ a b. o (omega arith) (omega arith)) ∙ put-outside k page s v q (λ a b. o a (omega arith))))

-- a word whose first bits lie before the mark and whose others lie after it: two words put at positions of the page
pub put-split : (k : Mark) (page : List ℕ) (s : ℕ) (v w : List Bool) → length v ≡ near k s (length (v ++ w))
    → placed (placed page s v) (s + length v + 8 * k.length) w ≡ put k page s (v ++ w)
unfolding stream_bit
put-split k page s v w e =
    let l = length-append v w in
    let c = placed-length page s v in
    let t : ℕ = s + length v + 8 * k.length in
    let before : (j : ℕ) → j < length v → place k (s + j) ≡ s + j = λ j h. near_first k s (length (v ++ w)) j (omega arith) in
    let after : (i : ℕ) → i < length w → place k (s + (length v + i)) ≡ t + i =
    λ i h. near-second k s (length (v ++ w)) (length v + i) (omega arith) (omega arith) ∙ omega arith in
    -- no other position is written
    let off : (p : ℕ) → ((j : ℕ) → j < length (v ++ w) → p ≡ place k (s + j) → ⊥) → bit_of (placed (placed page s v) t w) p ≡ bit_of page p =
    λ p o. placed-outside (placed page s v) t w p
    (λ a b. let f : p ≡ t + (p - t) = omega arith in o (length v + (p - t)) (omega arith) (f ∙ sym (after (p - t) (omega arith))))
    ∙ placed-outside page s v p
    (λ a b. let f : p ≡ s + (p - s) = omega arith in o (p - s) (omega arith) (f ∙ sym (before (p - s) (omega arith)))) in
    sym (put-ext k page s (v ++ w) _ (rw (← c) (placed-bytes (placed page s v) t w))
    (λ p m. off p (λ j h f. true≢false (sym m ∙ ap (marked k) f ∙ place-free k (s + j))))
    (λ j h m. elim (dec_lt j (length v)) [
      | yes y ↦
          let f = before j y in
          ap (bit_of (placed (placed page s v) t w)) f ∙ placed-outside (placed page s v) t w (s + j) (λ a b. omega arith)
          ∙ placed-inside page s v j false y (rw f at m) ∙ sym (get_or-append v w false j y)
      | no y ↦
          let i : ℕ = j - length v in
          let g : length v + i ≡ j = omega arith in
          let f : place k (s + j) ≡ t + i = ap (λ (n : ℕ). place k (s + n)) (sym g) ∙ after i (omega arith) in
          ap (bit_of (placed (placed page s v) t w)) f ∙ placed-inside (placed page s v) t w i false (omega arith) (omega arith)
          ∙ sym (get_or-append-add v w i false) ∙ ap (λ (n : ℕ). get_or (v ++ w) n false) g
    ])
    (λ q o. off (place k q) (λ j h f. let g = place-once k q (s + j) f in o (omega arith) (omega arith))))

module _ (k : Mark) (page : List ℕ) (s : ℕ) (w : List Bool) where
  -- a word before the mark
  pub put_first : near k s (length w) ≡ length w → placed page s w ≡ put k page s w
  put_first e =
      let n : w ++ [] ≡ w = append-nil w in
      let c = placed-length page s w in
      let b : Bytes (length (placed page s w)) (placed page s w) = rw c (placed-bytes page s w) in
      sym (placed-empty (placed page s w) (s + length w + 8 * k.length) b)
      ∙ put-split k page s w [] (sym (ap (λ u. near k s (length u)) n ∙ e)) ∙ ap (put k page s) n

-- a run put in two parts
pub put-run-split : (k : Mark) (page : List ℕ) (s : ℕ) (f : ℕ → Bool) (r n : ℕ) {a : ℕ} {p q : List ℕ} → a ≡ near k s n → p ≡ placed page s (run f r a)
    → q ≡ placed p (s + a + 8 * k.length) (run f (r + a) (n - a)) → q ≡ put k page s (run f r n)
put-run-split k page s f r n {a} ea ep eq =
    let l = near_le k s n in
    let e : a + (n - a) ≡ n = omega arith in
    let u : List Bool = run f r a in
    let v : List Bool = run f (r + a) (n - a) in
    let j : u ++ v ≡ run f r n = sym (run-append f r a (n - a)) ∙ ap (run f r) e in
    let c = run_length f r a in
    let h : length u ≡ near k s (length (u ++ v)) = c ∙ ea ∙ ap (near k s) (sym (ap length j ∙ run_length f r n)) in
    eq ∙ ap₂ (λ x m. placed x (s + m + 8 * k.length) v) ep (sym c) ∙ put-split k page s u v h ∙ ap (put k page s) j
