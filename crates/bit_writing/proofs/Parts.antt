-- Laws of a word put inside one byte, and of bytes put one after the other.
use mathlib.Core.Path.{◌≡◌, refl, sym, ap, ◌∙◌, subst}
use mathlib.Core.Bool.{Bool, true, false, not}
use mathlib.Core.List.{List, [], ◌∷◌}
use Prim.Native.Nat.{ℕ, zero, suc, ◌+◌, ◌-◌, ◌*◌, ◌/◌, ◌%◌, ◌^◌, ◌<◌, ◌≤◌}
use native.Mathlib.Omega.{arith}
use native.Mathlib.Decide.{dec_lt, ℕ_discrete}
use native.Mathlib.Nat.{mod-lt, mod-eq_of_lt, one-mul}
use lib.ListN.{length, get_or, set, length-set}
use lib.Seq.{get_or-set_same, get_or-set_other}
use lib.Arith.{digits_lt}
use lib.Pow.{pow_pos, pow-add, pow-lt, shr_lt}
use lib.Dec.{eqb}
use Rattle.bits.specs.Bits.{bit, bit_at, bit_of, run, ones, number, digits, Bytes, placed}
use Rattle.bits.proofs.Numbers.{bit-low, bit_high, bit-shift, bit-mod, digits-length, digits-at, digits_number, number_lt, ones-run, number-ones}
use Rattle.bits.proofs.Runs.{run_length}
use Rattle.bits.proofs.Pages.{bit_at_lt}
use Rattle.bits.proofs.Placed.{placed-length, placed-bytes, placed-ext, placed-run-append, placed-three}

-- the number x with the n bits above its k lowest replaced by v
abbrev pub part : ℕ → ℕ → ℕ → ℕ → ℕ
part x k n v = x / 2 ^ (k + n) * 2 ^ (k + n) + (v * 2 ^ k + x % 2 ^ k)

module _ (x k n v : ℕ) (hv : v < 2 ^ n) where
  lower-lt : v * 2 ^ k + x % 2 ^ k < 2 ^ (k + n)
  lower-lt = let e : k + n ≡ n + k = omega arith in rw (e, pow-add 2 n k) (digits_lt hv (mod-lt x (pow_pos k)))

  pub part-lt : k + n ≤ 8 → x < 256 → part x k n v < 256
  part-lt h hx =
      let e : 8 ≡ 8 - (k + n) + (k + n) = omega arith in
      let u : x / 2 ^ (k + n) < 2 ^ (8 - (k + n)) = shr_lt (8 - (k + n)) (k + n) (subst (λ (i : ℕ). x < 2 ^ i) e hx) in
      let y : part x k n v < 2 ^ (8 - (k + n)) * 2 ^ (k + n) = digits_lt u lower-lt in
      rw (← pow-add 2 (8 - (k + n)) (k + n), ← e) at y

  -- the bits above and below are those of x, and those between are those of v
  part-above : (j : ℕ) → k + n ≤ j → bit (part x k n v) j ≡ bit x j
  part-above j h =
      let e : j ≡ k + n + (j - (k + n)) = omega arith in
      ap (bit _) e ∙ bit_high (x / 2 ^ (k + n)) (k + n) (j - (k + n)) lower-lt ∙ sym (bit-shift x (k + n) (j - (k + n))) ∙ ap (bit x) (sym e)

  part-below : (j : ℕ) → j < k → bit (part x k n v) j ≡ bit x j
  part-below j h = bit-low _ (k + n) j _ (omega arith) ∙ bit-low v k j (x % 2 ^ k) h ∙ bit-mod x k j h

  part-within : (j : ℕ) → j < n → bit (part x k n v) (k + j) ≡ bit v j
  part-within j h = bit-low _ (k + n) (k + j) _ (omega arith) ∙ bit_high v k j (mod-lt x (pow_pos k))

-- the bits of a page one of whose bytes was replaced

bit_of-set : (page : List ℕ) (i x p : ℕ) → i < length page → i ≡ p / 8 → bit_of (set page i x) p ≡ eqb (bit x (7 - p % 8)) 1
unfolding bit_of bit_at
bit_of-set page i x p h e = rw (← e, get_or-set_same page i x 0 h)

bit_of-set-other : (page : List ℕ) (i x p : ℕ) → (p / 8 ≡ i → ⊥) → bit_of (set page i x) p ≡ bit_of page p
unfolding bit_of bit_at
bit_of-set-other page i x p ne = rw (get_or-set_other page i (p / 8) x 0 ne)

bytes-set : (page : List ℕ) (i x : ℕ) → Bytes (length page) page → i < length page → x < 256 → Bytes (length page) (set page i x)
bytes-set page i x b l h = record {
  count = length-set page i x;
  small = λ j. elim (ℕ_discrete j i) [
    | yes e ↦ rw (e, get_or-set_same page i x 0 l) h
    | no ne ↦ rw (get_or-set_other page i j x 0 ne) (b.small j)
  ];
}

-- a word put inside one byte
module _ (page : List ℕ) (s k n v i : ℕ) (b : Bytes (length page) page) (ei : i ≡ s / 8) (ek : s % 8 + n + k ≡ 8) (hv : v < 2 ^ n) (hi : i < length page) where
  part-inside : (j : ℕ) → j < n → bit_of (set page i (part (get_or page i 0) k n v)) (s + j) ≡ get_or (digits v n) j false
  part-inside j h =
      let e : 7 - (s + j) % 8 ≡ k + (n - suc j) = omega arith in
      bit_of-set page i _ (s + j) hi (omega arith)
      ∙ ap (λ (x : ℕ). eqb x 1) (ap (bit _) e ∙ part-within (get_or page i 0) k n v hv (n - suc j) (omega arith)) ∙ sym (digits-at v n j false h)

  part-beside : (m : ℕ) → (k ≤ m → m < k + n → ⊥) → bit (part (get_or page i 0) k n v) m ≡ bit (get_or page i 0) m
  part-beside m o = elim (dec_lt m k) [
    | yes h ↦ part-below (get_or page i 0) k n v hv m h
    | no h ↦ elim (dec_lt m (k + n)) [
      | yes l ↦ absurd (o (omega arith) l)
      | no l ↦ part-above (get_or page i 0) k n v hv m (omega arith)
    ]
  ]

  part-outside : (p : ℕ) → (s ≤ p → p < s + n → ⊥) → bit_of (set page i (part (get_or page i 0) k n v)) p ≡ bit_of page p
  unfolding bit_of bit_at
  part-outside p o = elim (ℕ_discrete (p / 8) i) [
    | no ne ↦ bit_of-set-other page i _ p ne
    | yes e ↦ bit_of-set page i _ p hi (sym e)
        ∙ rw e (ap (λ (x : ℕ). eqb x 1) (part-beside (7 - p % 8) (λ u w. o (omega arith) (omega arith))))
  ]

  pub part_placed : {x : ℕ} → x ≡ part (get_or page i 0) k n v → set page i x ≡ placed page s (digits v n)
  part_placed e =
      let l = digits-length v n in
      rw e (sym (placed-ext page s (digits v n) _ (bytes-set page i _ b hi (part-lt _ k n v hv (omega arith) (b.small i)))
      (λ j h m. part-inside j (omega arith)) (λ p o. part-outside p (λ u w. o u (omega arith)))))

-- a whole byte
pub byte-placed : (page : List ℕ) (i : ℕ) (w : List Bool) → Bytes (length page) page → i < length page → length w ≡ 8
    → set page i (number w) ≡ placed page (8 * i) w
byte-placed page i w b hi l =
    let h : number w < 256 = rw l at (number_lt w) in
    let e : part (get_or page i 0) 0 8 (number w) ≡ number w = omega (arith, b.small i) in
    part_placed page (8 * i) 0 8 (number w) i b (omega arith) (omega arith) h hi (sym e)
    ∙ ap (placed page (8 * i)) (ap (digits (number w)) (sym l) ∙ digits_number w)

-- one byte more of a run of bytes
pub byte_next : (f : ℕ → Bool) (page : List ℕ) (s r start i : ℕ) {now : List ℕ} {x : ℕ} → now ≡ placed page s (run f r (8 * i))
    → x ≡ number (run f (r + 8 * i) 8) → s ≡ 8 * start → start + i < length page → set now (start + i) x ≡ placed page s (run f r (8 * (i + 1)))
byte_next f page s r start i {now} {x} en ex es h =
    let l = placed-length page s (run f r (8 * i)) in
    let e : 8 * i + 8 ≡ 8 * (i + 1) = omega arith in
    rw (en, ex) (byte-placed _ (start + i) (run f (r + 8 * i) 8) (rw l (placed-bytes page s (run f r (8 * i)))) (omega arith) (run_length f (r + 8 * i) 8)
    ∙ placed-run-append f page s r (8 * i) 8 (omega arith) refl ∙ ap (λ (n : ℕ). placed page s (run f r n)) e)

-- ones put one byte after the other, and in three parts
pub ones-byte : (s : ℕ) → 255 ≡ number (run (λ p. true) s 8)
ones-byte s = sym (ap number (ones-run s 8) ∙ number-ones 8)

pub ones-three : (page : List ℕ) (s a b c : ℕ) {n : ℕ} {p q t : List ℕ} → a + b + c ≡ n → p ≡ placed page s (ones a)
    → q ≡ placed p (s + a) (ones b) → t ≡ placed q (s + (a + b)) (ones c) → t ≡ placed page s (ones n)
ones-three page s a b c {n} en ep eq et =
    placed-three (λ p. true) page s s a b c en (ep ∙ ap (placed _ _) (sym (ones-run s a))) (eq ∙ ap (placed _ _) (sym (ones-run (s + a) b)))
    (et ∙ ap (placed _ _) (sym (ones-run (s + (a + b)) c))) ∙ ap (placed page s) (ones-run s n)

-- what the code's shifts give
pub shift_one : (w k : ℕ) → k < w → 1 * 2 ^ k % 2 ^ w ≡ 2 ^ k
shift_one w k h = ap (λ (x : ℕ). x % 2 ^ w) (one-mul (2 ^ k)) ∙ mod-eq_of_lt (pow-lt h)

pub part-shifts : (x k n v : ℕ) → x < 256 → k + n ≤ 8 → v < 2 ^ n
    → x / 2 ^ (k + n) * 2 ^ (k + n) % 4294967296 + (v * 2 ^ k % 4294967296 + x % (1 * 2 ^ k % 4294967296)) ≡ part x k n v
part-shifts x k n v hx h hv =
    let l = part-lt x k n v hv h hx in
    let a : x / 2 ^ (k + n) * 2 ^ (k + n) < 4294967296 = omega arith in
    let b : v * 2 ^ k < 4294967296 = omega arith in
    rw (mod-eq_of_lt a, mod-eq_of_lt b, shift_one 32 k (omega arith))

-- a single bit
not-digits : (x : ℕ) → x < 2 → digits (1 - x) 1 ≡ not (eqb x 1) ∷ []
unfolding digits bit
not-digits zero h = refl
not-digits (suc zero) h = refl
not-digits (suc (suc x)) h = absurd (omega arith)

pub digits-not : (l : List ℕ) (p : ℕ) {b : ℕ} → b ≡ bit_at l p → digits (1 - b) 1 ≡ not (bit_of l p) ∷ []
unfolding bit_of
digits-not l p e = rw e (not-digits (bit_at l p) (bit_at_lt l p))
