-- A payload that is lent as metadata and data apart: runs of bits copied from it, words put into it, bits of it flipped.
use mathlib.Core.Path.{◌≡◌, refl, sym, ap, ap₂, ◌∙◌}
use mathlib.Core.Bool.{Bool, true, not}
use mathlib.Core.List.{List, [], ◌∷◌, ◌++◌}
use Prim.Native.Nat.{ℕ, ◌+◌, ◌-◌, ◌*◌, ◌≤◌, ◌<◌}
use native.Mathlib.Decide.{dec_lt}
use native.Mathlib.Omega.{arith}
use lib.ListN.{length, length-append}
use Rattle.bits.specs.Bits.{bit_of, run, ones, placed, Bytes}
use Rattle.bits.proofs.Numbers.{ones-run}
use Rattle.bits.proofs.Runs.{run_length, run-cong, run-append}
use Rattle.bits.proofs.Placed.{placed-length, placed-bytes, placed-inside, placed-outside, placed-ext, placed-append}
use Rattle.page_theory.proofs.Calls.{bit_of-first, bit_of-second, bytes-append}
use Rattle.payload.specs.Payload.{Joined}

-- ---- a run of the payload, which is metadata followed by data

module _ (m d : List ℕ) (at n : ℕ) where
  run-data : 8 * length m ≤ at → run (bit_of d) (at - 8 * length m) n ≡ run (bit_of (m ++ d)) at n
  run-data h = run-cong _ _ _ _ n (λ j l.
      let e : at + j ≡ 8 * length m + (at - 8 * length m + j) = omega arith in
      sym (ap (bit_of (m ++ d)) e ∙ bit_of-second m d _))

  run-metadata : at + n ≤ 8 * length m → run (bit_of m) at n ≡ run (bit_of (m ++ d)) at n
  run-metadata h = run-cong _ _ _ _ n (λ j l. sym (bit_of-first m d (at + j) (omega arith)))

run-both : (m d : List ℕ) (at n : ℕ) → at ≤ 8 * length m → 8 * length m ≤ at + n
    → run (bit_of m) at (8 * length m - at) ++ run (bit_of d) 0 (n - (8 * length m - at)) ≡ run (bit_of (m ++ d)) at n
run-both m d at n h k =
    let head : ℕ = 8 * length m - at in
    let e : head + (n - head) ≡ n = omega arith in
    let z : 0 ≡ at + head - 8 * length m = omega arith in
    rw (z, run-metadata m d at head (omega arith), run-data m d (at + head) (n - head) (omega arith))
    (sym (run-append (bit_of (m ++ d)) at head (n - head)) ∙ ap (run (bit_of (m ++ d)) at) e)

-- put from the data, from the metadata, or from both, one after the other
module _ (m d page : List ℕ) (at position n : ℕ) where
  pub payload-data : 8 * length m ≤ at → {after : List ℕ} → after ≡ placed page position (run (bit_of d) (at - 8 * length m) n)
      → after ≡ placed page position (run (bit_of (m ++ d)) at n)
  payload-data h e = e ∙ rw (run-data m d at n h)

  pub payload-metadata : at + n ≤ 8 * length m → {after : List ℕ} → after ≡ placed page position (run (bit_of m) at n)
      → after ≡ placed page position (run (bit_of (m ++ d)) at n)
  payload-metadata h e = e ∙ rw (run-metadata m d at n h)

  pub payload-both : at ≤ 8 * length m → 8 * length m ≤ at + n → {one two : List ℕ}
      → one ≡ placed page position (run (bit_of m) at (8 * length m - at))
      → two ≡ placed one (position + (8 * length m - at)) (run (bit_of d) 0 (n - (8 * length m - at)))
      → two ≡ placed page position (run (bit_of (m ++ d)) at n)
  payload-both h k e f =
      f ∙ rw e (placed-append page position _ _ _ (ap (λ i. position + i) (sym (run_length (bit_of m) at _)))
      ∙ ap (placed page position) (run-both m d at n h k))

-- ---- a word put into the payload

module _ (m d : List ℕ) where
  -- the bits of m' and d' together are those of m and d together, where the parts' are
  joined-bit : (m' d' : List ℕ) → length m' ≡ length m → (p : ℕ)
      → (p < 8 * length m → bit_of m' p ≡ bit_of m p) → (8 * length m ≤ p → bit_of d' (p - 8 * length m) ≡ bit_of d (p - 8 * length m))
      → bit_of (m' ++ d') p ≡ bit_of (m ++ d) p
  joined-bit m' d' l p first second = elim (dec_lt p (8 * length m)) [
    | yes h ↦ bit_of-first m' d' p (omega arith) ∙ first h ∙ sym (bit_of-first m d p h)
    | no h ↦
        let e : p ≡ 8 * length m' + (p - 8 * length m) = omega arith in
        let f : 8 * length m + (p - 8 * length m) ≡ p = omega arith in
        ap (bit_of (m' ++ d')) e ∙ bit_of-second m' d' (p - 8 * length m) ∙ second (omega arith)
        ∙ sym (bit_of-second m d (p - 8 * length m)) ∙ ap (bit_of (m ++ d)) f
  ]

  joined_bytes : (m' d' : List ℕ) → Bytes (length m) m' → Bytes (length d) d' → Bytes (length (m ++ d)) (m' ++ d')
  joined_bytes m' d' a b = rw (length-append m d) (bytes-append a b)

  -- in the metadata
  pub placed_first : (s : ℕ) (w : List Bool) → Bytes (length d) d → s + length w ≤ 8 * length m → placed (m ++ d) s w ≡ placed m s w ++ d
  placed_first s w b h = let l = placed-length m s w in
      placed-ext (m ++ d) s w (placed m s w ++ d) (joined_bytes (placed m s w) d (placed-bytes m s w) b)
      (λ j k i. bit_of-first (placed m s w) d (s + j) (omega arith) ∙ placed-inside m s w j _ k (omega arith))
      (λ p o. joined-bit (placed m s w) d l p (λ x. placed-outside m s w p o) (λ x. refl))

  -- in the data
  pub placed-second : (s : ℕ) (w : List Bool) → Bytes (length m) m → placed (m ++ d) (8 * length m + s) w ≡ m ++ placed d s w
  placed-second s w b =
      placed-ext (m ++ d) (8 * length m + s) w (m ++ placed d s w) (joined_bytes m (placed d s w) b (placed-bytes d s w))
      (λ j k i. let e : 8 * length m + s + j ≡ 8 * length m + (s + j) = omega arith in let n = length-append m d in
      ap (bit_of (m ++ placed d s w)) e ∙ bit_of-second m (placed d s w) (s + j) ∙ placed-inside d s w j _ k (omega arith))
      (λ p o. joined-bit m (placed d s w) refl p (λ x. refl) (λ x. placed-outside d s w (p - 8 * length m) (λ y z. o (omega arith) (omega arith))))

-- the end of the metadata and the start of the data
pub placed-across : (m d : List ℕ) (s : ℕ) (v w : List Bool) → Bytes (length d) d → s + length v ≡ 8 * length m
    → placed (m ++ d) s (v ++ w) ≡ placed m s v ++ placed d 0 w
placed-across m d s v w b h =
    let l = placed-length m s v in
    let e : 8 * length m ≡ 8 * length (placed m s v) + 0 = omega arith in
    sym (placed-append (m ++ d) s (8 * length m) v w (sym h))
    ∙ ap₂ (λ x k. placed x k w) (placed_first m d s v b (omega arith)) e
    ∙ placed-second (placed m s v) d 0 w (rw (placed-length m s v) (placed-bytes m s v))

module _ (m d : List ℕ) (s : ℕ) (w : List Bool) where
  pub joined-first : {m' : List ℕ} → Bytes (length d) d → s + length w ≤ 8 * length m → m' ≡ placed m s w → Joined m d m' d (placed (m ++ d) s w)
  joined-first b h e = record {
    metadata = ap length e ∙ placed-length m s w;
    «data» = refl;
    both = ap (λ x. x ++ d) e ∙ sym (placed_first m d s w b h);
  }

  pub joined-second : {d' : List ℕ} (k : ℕ) → Bytes (length m) m → 8 * length m + k ≡ s → d' ≡ placed d k w → Joined m d m d' (placed (m ++ d) s w)
  joined-second k b h e = record {
    metadata = refl;
    «data» = ap length e ∙ placed-length d k w;
    both = ap (λ x. m ++ x) e ∙ sym (placed-second m d k w b) ∙ ap (λ i. placed (m ++ d) i w) h;
  }

pub joined-across : (m d : List ℕ) (f : ℕ → Bool) (s r a n : ℕ) {m' d' : List ℕ} → Bytes (length d) d → s + a ≡ 8 * length m → a ≤ n
    → m' ≡ placed m s (run f r a) → d' ≡ placed d 0 (run f (r + a) (n - a)) → Joined m d m' d' (placed (m ++ d) s (run f r n))
joined-across m d f s r a n b h k em ed =
    let e : a + (n - a) ≡ n = omega arith in
    let l = run_length f r a in
    record {
      metadata = ap length em ∙ placed-length m s _;
      «data» = ap length ed ∙ placed-length d 0 _;
      both = ap₂ ◌++◌ em ed ∙ sym (placed-across m d s (run f r a) (run f (r + a) (n - a)) b (omega arith))
          ∙ ap (placed (m ++ d) s) (sym (run-append f r a (n - a)) ∙ ap (run f r) e);
    }

pub joined-ones : (m d : List ℕ) (s a n : ℕ) {m' d' : List ℕ} → Bytes (length d) d → s + a ≡ 8 * length m → a ≤ n
    → m' ≡ placed m s (ones a) → d' ≡ placed d 0 (ones (n - a)) → Joined m d m' d' (placed (m ++ d) s (ones n))
joined-ones m d s a n b h k em ed =
    rw (ones-run 0 n) at
    (joined-across m d (λ p. true) s 0 a n b h k (em ∙ ap (placed m s) (sym (ones-run 0 a))) (ed ∙ ap (placed d 0) (sym (ones-run (0 + a) (n - a)))))

-- ---- a bit flipped

pub joined-flip-first : (m d : List ℕ) (p : ℕ) {m' : List ℕ} → Bytes (length d) d → p < 8 * length m → m' ≡ placed m p (not (bit_of m p) ∷ [])
    → Joined m d m' d (placed (m ++ d) p (not (bit_of (m ++ d) p) ∷ []))
joined-flip-first m d p b h e = rw (bit_of-first m d p h) (joined-first m d p (not (bit_of m p) ∷ []) b (omega arith) e)

pub joined-flip-second : (m d : List ℕ) (p k : ℕ) {d' : List ℕ} → Bytes (length m) m → 8 * length m + k ≡ p → d' ≡ placed d k (not (bit_of d k) ∷ [])
    → Joined m d m d' (placed (m ++ d) p (not (bit_of (m ++ d) p) ∷ []))
joined-flip-second m d p k b h e =
    let f : bit_of (m ++ d) p ≡ bit_of d k = ap (bit_of (m ++ d)) (sym h) ∙ bit_of-second m d k in
    rw f (joined-second m d p (not (bit_of d k) ∷ []) k b h e)
