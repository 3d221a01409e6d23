-- Laws of numbers in words of 64 bits, the lowest word first, and of what loops over them do.
use mathlib.Core.Path.{◌≡◌, refl, sym, ap, ap₂, ◌∙◌}
use mathlib.Core.List.{List}
use Prim.Native.Nat.{ℕ, zero, suc, ◌+◌, ◌-◌, ◌*◌, ◌/◌, ◌%◌, ◌^◌, ◌<◌, ◌≤◌}
use native.Mathlib.Omega.{arith}
use native.Mathlib.Numerals.{add-one}
use native.Mathlib.Decide.{dec_lt}
use native.Mathlib.Nat.{add-zero, add_comm, le_refl, mul-le-mul_right, div-eq_of_lt, div-lt_iff_lt-mul, zero-mul, zero-add, mul-one}
use mir.Syntax.{w64}
use mir.Val.{Fits}
use lib.ListN.{length, get_or, set, drop, replicate, length-set}
use lib.Seq.{get_or-set_same, get_or-set_other, get_or-drop}
use lib.Pow as Pow
use lib.Pow.{high, shr-shr, pow_pos, pow-add, pow_mono}
use lib.Arith.{digits_lt}
use lib.Bits.{bit_xor, xor_block}
use Rattle.bits.specs.Bits.{bit}
use Rattle.bits.proofs.Numbers.{bit-low, bit_high}
use Rattle.code.specs.Register.{low, register}

-- each element is a word
abbrev pub Words : List ℕ → Type 0
Words ws = (i : ℕ) → Fits w64 (get_or ws i 0)

pub next_power : (n : ℕ) → 2 ^ (64 * (n + 1)) ≡ 18446744073709551616 * 2 ^ (64 * n)
next_power n =
    let e : 64 * (n + 1) ≡ 64 + 64 * n = omega arith in
    ap (λ (k : ℕ). 2 ^ k) e ∙ pow-add 2 64 (64 * n)

pub low-next : (ws : List ℕ) (n : ℕ) → low ws (n + 1) ≡ get_or ws n 0 * 2 ^ (64 * n) + low ws n
unfolding low
low-next ws n = rw add-one refl

low-more : (ws : List ℕ) (n j : ℕ) → low ws (n + suc j) ≡ get_or ws (n + j) 0 * 2 ^ (64 * (n + j)) + low ws (n + j)
low-more ws n j = let e : n + suc j ≡ n + j + 1 = omega arith in ap (low ws) e ∙ low-next ws (n + j)

pub low-lt : (ws : List ℕ) → Words ws → (n : ℕ) → low ws n < 2 ^ (64 * n)
unfolding low
low-lt ws h zero = omega arith
low-lt ws h (suc n) =
    let p : 2 ^ (64 * suc n) ≡ 18446744073709551616 * 2 ^ (64 * n) = ap (λ (k : ℕ). 2 ^ (64 * k)) (sym (add-one n)) ∙ next_power n in
    rw p (digits_lt (h n).fits (low-lt ws h n))

pub register-lt : (ws : List ℕ) → Words ws → register ws < 2 ^ (64 * length ws)
unfolding register
register-lt ws h = low-lt ws h (length ws)

-- the first words decide the number in them
pub low-agree : (ws vs : List ℕ) (n : ℕ) → ((k : ℕ) → k < n → get_or ws k 0 ≡ get_or vs k 0) → low ws n ≡ low vs n
unfolding low
low-agree ws vs zero e = refl
low-agree ws vs (suc n) e = ap₂ (λ (a b : ℕ). a * 2 ^ (64 * n) + b) (e n (omega arith)) (low-agree ws vs n (λ k h. e k (omega arith)))

-- two numbers with the same words from the word n on differ as the numbers in their first n words do
pub low-above : (ws vs : List ℕ) (n : ℕ) → ((k : ℕ) → n ≤ k → get_or ws k 0 ≡ get_or vs k 0) → (j : ℕ) → low ws (n + j) + low vs n ≡ low vs (n + j) + low ws n
unfolding low
low-above ws vs n e zero = rw add-zero (add_comm (low ws n) (low vs n))
low-above ws vs n e (suc j) =
    let i = low-above ws vs n e j in
    let p = low-more ws n j in
    let q = low-more vs n j in
    let w : get_or ws (n + j) 0 * 2 ^ (64 * (n + j)) ≡ get_or vs (n + j) 0 * 2 ^ (64 * (n + j)) = ap (λ (x : ℕ). x * 2 ^ (64 * (n + j))) (e (n + j) (omega arith)) in
    omega arith

pub no-carry : (c P x : ℕ) → x + c * P < P → c ≡ 0
no-carry zero P x h = refl
no-carry (suc c) P x h = absurd (omega arith)

-- a number below 2^(64n) is the number in its first n words
low-short : (ws : List ℕ) (n j : ℕ) → low ws (n + j) < 2 ^ (64 * n) → low ws (n + j) ≡ low ws n
unfolding low
low-short ws n zero h = rw add-zero refl
low-short ws n (suc j) h =
    let e = low-more ws n j in
    let p : 2 ^ (64 * n) ≤ 2 ^ (64 * (n + j)) = pow_mono (omega arith) in
    let z : get_or ws (n + j) 0 ≡ 0 = no-carry (get_or ws (n + j) 0) (2 ^ (64 * (n + j))) (low ws (n + j)) (omega arith) in
    let y : get_or ws (n + j) 0 * 2 ^ (64 * (n + j)) ≡ 0 = ap (λ (x : ℕ). x * 2 ^ (64 * (n + j))) z ∙ omega arith in
    let i = low-short ws n j (omega arith) in
    omega arith

pub register-short : (ws : List ℕ) (n : ℕ) → n ≤ length ws → register ws < 2 ^ (64 * n) → register ws ≡ low ws n
unfolding register
register-short ws n l h =
    let e : length ws ≡ n + (length ws - n) = omega arith in
    rw e (low-short ws n (length ws - n) (rw e at h))

-- a word is stored above the words that are done
pub low-store : (ws : List ℕ) (i v : ℕ) → i < length ws → low (set ws i v) (i + 1) ≡ v * 2 ^ (64 * i) + low ws i
low-store ws i v h =
    low-next (set ws i v) i
    ∙ ap₂ (λ (a b : ℕ). a * 2 ^ (64 * i) + b) (get_or-set_same ws i v 0 h)
    (low-agree (set ws i v) ws i (λ k l. get_or-set_other ws i k v 0 (λ e. omega arith)))

-- what is above the words that are done is as before, after one more
pub above-store : (ws vs : List ℕ) (i v : ℕ) → ((k : ℕ) → i ≤ k → get_or ws k 0 ≡ get_or vs k 0) → (k : ℕ) → i + 1 ≤ k → get_or (set ws i v) k 0 ≡ get_or vs k 0
above-store ws vs i v e k h = get_or-set_other ws i k v 0 (λ z. omega arith) ∙ e k (omega arith)

-- fewer words have no greater number
low-le : (ws : List ℕ) (n j : ℕ) → low ws n ≤ low ws (n + j)
low-le ws n zero = rw add-zero (le_refl (low ws n))
low-le ws n (suc j) = let i = low-le ws n j in let e = low-more ws n j in omega arith

pub low-register : (ws : List ℕ) (n : ℕ) → n ≤ length ws → low ws n ≤ register ws
unfolding register
low-register ws n l = let e : length ws ≡ n + (length ws - n) = omega arith in rw e (low-le ws n (length ws - n))

-- one more word: a zero leaves the number, anything else makes it at least 2^(64i)
pub low-zero : (ws : List ℕ) (i : ℕ) → get_or ws i 0 ≡ 0 → low ws (i + 1) ≡ low ws i
low-zero ws i e = low-next ws i ∙ rw e (omega arith)

pub low-one : (ws : List ℕ) (i : ℕ) → (get_or ws i 0 ≡ 0 → ⊥) → 2 ^ (64 * i) ≤ low ws (i + 1)
low-one ws i ne =
    let e = low-next ws i in
    let p : 1 * 2 ^ (64 * i) ≤ get_or ws i 0 * 2 ^ (64 * i) = mul-le-mul_right (2 ^ (64 * i)) (omega arith) in
    omega arith

-- the word that holds the digit d: it has no one from there on exactly where the number up to it is below 2^d
place : (d : ℕ) → 2 ^ d ≡ 2 ^ (d % 64) * 2 ^ (64 * (d / 64))
place d = let e : d ≡ d % 64 + 64 * (d / 64) = omega arith in ap (λ (k : ℕ). 2 ^ k) e ∙ pow-add 2 (d % 64) (64 * (d / 64))

pub low_below : (ws : List ℕ) → Words ws → (d : ℕ) → get_or ws (d / 64) 0 / 2 ^ (d % 64) ≡ 0 → low ws (d / 64 + 1) < 2 ^ d
low_below ws h d e =
    let l : get_or ws (d / 64) 0 < 2 ^ (d % 64) = (let q = (div-lt_iff_lt-mul {x = get_or ws (d / 64) 0} {y = 1} (pow_pos (d % 64))).0 (omega arith) in omega arith) in
    rw (place d, low-next ws (d / 64)) (digits_lt l (low-lt ws h (d / 64)))

pub low-beyond : (ws : List ℕ) (d : ℕ) → (get_or ws (d / 64) 0 / 2 ^ (d % 64) ≡ 0 → ⊥) → 2 ^ d ≤ low ws (d / 64 + 1)
low-beyond ws d ne =
    let l : 2 ^ (d % 64) ≤ get_or ws (d / 64) 0 = elim (dec_lt (get_or ws (d / 64) 0) (2 ^ (d % 64))) [ yes z ↦ absurd (ne (div-eq_of_lt z)) | no z ↦ omega arith ] in
    let m : 2 ^ (d % 64) * 2 ^ (64 * (d / 64)) ≤ get_or ws (d / 64) 0 * 2 ^ (64 * (d / 64)) = mul-le-mul_right (2 ^ (64 * (d / 64))) l in
    let e = low-next ws (d / 64) in
    rw (place d) (omega arith)

-- a bit of a number in words
pub low_bit : (ws : List ℕ) → Words ws → (n p : ℕ) → p < 64 * n → bit (low ws n) p ≡ bit (get_or ws (p / 64) 0) (p % 64)
unfolding low
low_bit ws h zero p l = absurd (omega arith)
low_bit ws h (suc n) p l =
    let ih = low_bit ws h n p in
    elim (dec_lt p (64 * n)) [
      | yes a ↦ bit-low (get_or ws n 0) (64 * n) p (low ws n) a ∙ ih a
      | no a ↦
          let i : ℕ = p - 64 * n in
          let e : p ≡ 64 * n + i = omega arith in
          let q : n ≡ p / 64 = omega arith in
          let m : i ≡ p % 64 = omega arith in
          ap (bit _) e ∙ bit_high (get_or ws n 0) (64 * n) i (low-lt ws h n) ∙ ap₂ (λ (x y : ℕ). bit (get_or ws x 0) y) q m
    ]

pub register-bit : (ws : List ℕ) → Words ws → (p : ℕ) → p < 64 * length ws → bit (register ws) p ≡ bit (get_or ws (p / 64) 0) (p % 64)
unfolding register
register-bit ws h p l = low_bit ws h (length ws) p l

-- the words from n on, and those before them
pub low-drop : (ws : List ℕ) (n j : ℕ) → low ws (n + j) ≡ low (drop n ws) j * 2 ^ (64 * n) + low ws n
unfolding low
low-drop ws n zero = rw (add-zero n, zero-mul (2 ^ (64 * n))) (sym (zero-add (low ws n)))
low-drop ws n (suc j) =
    let i = low-drop ws n j in
    let e : 64 * (n + j) ≡ 64 * j + 64 * n = omega arith in
    let p : 2 ^ (64 * (n + j)) ≡ 2 ^ (64 * j) * 2 ^ (64 * n) = ap (λ k. 2 ^ k) e ∙ pow-add 2 (64 * j) (64 * n) in
    let g = get_or-drop n ws j 0 in
    low-more ws n j ∙ rw (p, i, g) (omega arith)

pub register-drop : (ws : List ℕ) → Words ws → (n : ℕ) → n ≤ length ws → register ws / 2 ^ (64 * n) ≡ low (drop n ws) (length ws - n)
unfolding register
register-drop ws h n l =
    let e : length ws ≡ n + (length ws - n) = omega arith in
    ap (λ k. low ws k / 2 ^ (64 * n)) e ∙ ap (λ x. x / 2 ^ (64 * n)) (low-drop ws n (length ws - n)) ∙ high (low (drop n ws) (length ws - n)) (64 * n) (low-lt ws h n)

pub register-mod : (ws : List ℕ) → Words ws → (n : ℕ) → n ≤ length ws → register ws % 2 ^ (64 * n) ≡ low ws n
unfolding register
register-mod ws h n l =
    let e : length ws ≡ n + (length ws - n) = omega arith in
    ap (λ k. low ws k % 2 ^ (64 * n)) e ∙ ap (λ x. x % 2 ^ (64 * n)) (low-drop ws n (length ws - n)) ∙ Pow.low (low (drop n ws) (length ws - n)) (64 * n) (low-lt ws h n)

pub low_first : (ws : List ℕ) → low ws 1 ≡ get_or ws 0 0
unfolding low
low_first ws = add-zero (get_or ws 0 0 * 1) ∙ mul-one (get_or ws 0 0)

-- words of zero above change nothing
pub low_zeros : (ws : List ℕ) (n : ℕ) → ((k : ℕ) → n ≤ k → get_or ws k 0 ≡ 0) → (j : ℕ) → low ws (n + j) ≡ low ws n
low_zeros ws n z zero = rw (add-zero n)
low_zeros ws n z (suc j) = low-more ws n j ∙ rw (z (n + j) (omega arith), zero-mul (2 ^ (64 * (n + j)))) (zero-add (low ws (n + j)) ∙ low_zeros ws n z j)

pub register-zeros : (ws : List ℕ) (n : ℕ) → n ≤ length ws → ((k : ℕ) → n ≤ k → get_or ws k 0 ≡ 0) → register ws ≡ low ws n
unfolding register
register-zeros ws n l z = let e : length ws ≡ n + (length ws - n) = omega arith in rw e (low_zeros ws n z (length ws - n))

-- the k highest digits of a number that fills u words
pub top_digits : (ws : List ℕ) → Words ws → (u k : ℕ) → 0 < u → u ≤ length ws → k ≤ 64 → register ws < 2 ^ (64 * u) → get_or ws (u - 1) 0 / 2 ^ (64 - k) ≡ register ws / 2 ^ (64 * u - k)
top_digits ws h u k some l m r =
    let n : ℕ = u - 1 in
    let e : u ≡ n + 1 = omega arith in
    let p : 64 * u - k ≡ 64 * n + (64 - k) = omega arith in
    let w : low ws (n + 1) / 2 ^ (64 * n) ≡ get_or ws n 0 = rw (low-next ws n) (high (get_or ws n 0) (64 * n) (low-lt ws h n)) in
    sym (ap (λ x. x / 2 ^ (64 * u - k)) (register-short ws u l r ∙ ap (low ws) e) ∙ ap (λ i. low ws (n + 1) / 2 ^ i) p ∙ sym (shr-shr (low ws (n + 1)) (64 * n) (64 - k)) ∙ ap (λ x. x / 2 ^ (64 - k)) w)

-- the words from n on
pub words-drop : (ws : List ℕ) → Words ws → (n : ℕ) → Words (drop n ws)
words-drop ws h n i = rw (get_or-drop n ws i 0) (h (n + i))

pub zeros-at : (n k : ℕ) → ◌≡◌ {A = ℕ} (get_or (replicate n 0) k 0) 0
zeros-at zero k = refl
zeros-at (suc n) zero = refl
zeros-at (suc n) (suc k) = zeros-at n k

pub zeros-low : (n u : ℕ) → low (replicate n 0) u ≡ 0
unfolding low
zeros-low n zero = refl
zeros-low n (suc u) = rw (zeros-at n u, zero-mul (2 ^ (64 * u))) (zero-add (low (replicate n 0) u) ∙ zeros-low n u)

pub zeros-store : (ws : List ℕ) (i v : ℕ) → ((k : ℕ) → i ≤ k → get_or ws k 0 ≡ 0) → (k : ℕ) → i + 1 ≤ k → get_or (set ws i v) k 0 ≡ 0
zeros-store ws i v z k h = get_or-set_other ws i k v 0 (λ e. omega arith) ∙ z k (omega arith)

-- a word stored above a number
pub top-store : (ws : List ℕ) (n v : ℕ) → n < length ws → register ws < 2 ^ (64 * n) → register (set ws n v) ≡ v * 2 ^ (64 * n) + register ws
unfolding register
top-store ws n v l h =
    let e : length ws ≡ n + 1 + (length ws - (n + 1)) = omega arith in
    let m : 2 ^ (64 * n) ≤ 2 ^ (64 * (n + 1)) = pow_mono (omega arith) in
    let a : low ws (length ws) ≡ low ws n = register-short ws n (omega arith) h in
    let b : low ws (length ws) ≡ low ws (n + 1) = register-short ws (n + 1) (omega arith) (omega arith) in
    let s = low-store ws n v l in
    let c : low (set ws n v) (length ws) + low ws (n + 1) ≡ low ws (length ws) + low (set ws n v) (n + 1) =
    rw e (low-above (set ws n v) ws (n + 1) (λ k i. get_or-set_other ws n k v 0 (λ z. omega arith)) (length ws - (n + 1))) in
    rw (length-set ws n v) (omega arith)

-- a sum of two words stored above those that are done
pub xor-store : (ws vs g : List ℕ) (i : ℕ) {x u : ℕ} → i < length ws → low vs i < 2 ^ (64 * i) → low g i < 2 ^ (64 * i)
    → low ws i ≡ bit_xor (low g i) (low vs i) → x ≡ get_or g i 0 → u ≡ get_or vs i 0
    → low (set ws i (bit_xor x u)) (i + 1) ≡ bit_xor (low g (i + 1)) (low vs (i + 1))
xor-store ws vs g i {x} {u} h hv hg inv ex eu =
    low-store ws i (bit_xor x u) h
    ∙ ap₂ (λ (a b : ℕ). bit_xor a b * 2 ^ (64 * i) + low ws i) ex eu
    ∙ ap (λ (b : ℕ). bit_xor (get_or g i 0) (get_or vs i 0) * 2 ^ (64 * i) + b) inv
    ∙ sym (xor_block (64 * i) (get_or g i 0) (get_or vs i 0) (low g i) (low vs i) hg hv)
    ∙ sym (ap₂ bit_xor (low-next g i) (low-next vs i))

pub xor-low-end : (ws vs g : List ℕ) (n : ℕ) → n ≤ length vs → length ws ≡ length vs → low ws n ≡ bit_xor (low g n) (low vs n)
    → ((k : ℕ) → n ≤ k → get_or ws k 0 ≡ get_or vs k 0) → register vs < 2 ^ (64 * n) → register ws ≡ bit_xor (low g n) (register vs)
unfolding register
xor-low-end ws vs g n l es inv above hv =
    let e : length vs ≡ n + (length vs - n) = omega arith in
    let s : low vs (length vs) ≡ low vs n = register-short vs n l hv in
    let a : low ws (length vs) + low vs n ≡ low vs (length vs) + low ws n = rw e (low-above ws vs n above (length vs - n)) in
    rw (es, s) (omega arith)
