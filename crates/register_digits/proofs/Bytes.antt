-- Laws of the digits of a register in a page, and of remainders as bytes.
use mathlib.Core.Path.{◌≡◌, refl, sym, ap, ap₂, ◌∙◌}
use mathlib.Core.Bool.{Bool, false}
use mathlib.Core.List.{List, ◌++◌}
use Prim.Native.Nat.{ℕ, suc, ◌+◌, ◌-◌, ◌*◌, ◌/◌, ◌%◌, ◌^◌, ◌<◌, ◌≤◌}
use native.Mathlib.Omega.{arith}
use native.Mathlib.Decide.{ℕ_discrete}
use native.Mathlib.Nat.{add-zero}
use lib.ListN.{length, get_or, set, drop}
use lib.Seq.{get_or-set_same, get_or-set_other, get_or-drop}
use lib.Pow as Pow
use lib.Pow.{field, mod-mod-pow, shr-shr}
use lib.Dec.{eqb}
use Rattle.bits.specs.Bits.{bit, bit_at, bit_of, run, number, digits, bytes, Bytes, placed}
use Rattle.bits.proofs.Numbers.{bit-mod, bit-shift, digits-length, digits-at, digits_number, number_append, number-high, number_digits}
use Rattle.bits.proofs.Runs.{run_length, run_at, run-append, run-ext}
use Rattle.bits.proofs.Pages.{bytes-length, bytes-bit, bytes-ext}
use Rattle.bits.proofs.Placed.{placed-whole}
use Rattle.code.specs.Register.{low, register}
use Rattle.remainder.specs.Remainder.{number_of, bytes_of}
use Rattle.remainder.proofs.Words.{Words, low-store, low_first, low-drop, register-drop}

-- the digits of a number as the last bits of 112 bytes

-- byte i holds digits of one word
pub word_byte : (ws : List ℕ) → Words ws → length ws ≡ 14 → (i : ℕ) → i < 112 → get_or ws (13 - i / 8) 0 / 2 ^ (56 - 8 * (i % 8)) % 256 ≡ register ws / 2 ^ (8 * (111 - i)) % 256
word_byte ws h l i k =
    let q : ℕ = 13 - i / 8 in
    let s : ℕ = 56 - 8 * (i % 8) in
    let e : 8 * (111 - i) ≡ 64 * q + s = omega arith in
    let j : length ws - q ≡ 1 + i / 8 = omega arith in
    let w : ℕ = get_or ws q 0 in
    let n : ℕ = register ws / 2 ^ (64 * q) in
    let en : n ≡ low (drop 1 (drop q ws)) (i / 8) * 18446744073709551616 + w =
    register-drop ws h q (omega arith) ∙ ap (low (drop q ws)) j ∙ low-drop (drop q ws) 1 (i / 8)
    ∙ ap (λ x. low (drop 1 (drop q ws)) (i / 8) * 18446744073709551616 + x) (low_first (drop q ws) ∙ get_or-drop q ws 0 0 ∙ ap (λ m. get_or ws m 0) (add-zero q)) in
    let m : n % 18446744073709551616 ≡ w = ap (λ x. x % 18446744073709551616) en ∙ Pow.low (low (drop 1 (drop q ws)) (i / 8)) 64 (h q).fits in
    let c : 64 ≡ 56 - s + (8 + s) = omega arith in
    let r : w % 2 ^ (8 + s) ≡ n % 2 ^ (8 + s) = ap (λ x. x % 2 ^ (8 + s)) (sym m) ∙ ap (λ x. n % 2 ^ x % 2 ^ (8 + s)) c ∙ mod-mod-pow n (56 - s) (8 + s) in
    sym (field w 8 s) ∙ ap (λ x. x / 2 ^ s) r ∙ field n 8 s ∙ ap (λ x. x % 256) (shr-shr (register ws) (64 * q) s ∙ ap (λ x. register ws / 2 ^ x) (sym e))

-- the bytes made so far, from the first that is needed on
pub bytes_next : (l : List ℕ) (x from i b : ℕ) → i < length l → ((k : ℕ) → from ≤ k → k < i → get_or l k 0 ≡ x / 2 ^ (8 * (111 - k)) % 256) → b ≡ x / 2 ^ (8 * (111 - i)) % 256
    → (k : ℕ) → from ≤ k → k < i + 1 → get_or (set l i b) k 0 ≡ x / 2 ^ (8 * (111 - k)) % 256
bytes_next l x from i b h inv eb k lo hi = elim (ℕ_discrete k i) [
  | yes e ↦ rw e (get_or-set_same l i b 0 h ∙ eb)
  | no ne ↦ get_or-set_other l i k b 0 ne ∙ inv k lo (omega arith)
]

pub bytes-digits : (l : List ℕ) (x n : ℕ) → n ≤ 896 → ((k : ℕ) → (896 - n) / 8 ≤ k → k < 112 → get_or l k 0 ≡ x / 2 ^ (8 * (111 - k)) % 256) → run (bit_of l) (896 - n) n ≡ digits x n
unfolding bit_of bit_at
bytes-digits l x n h each = run-ext (bit_of l) (896 - n) (digits x n) n false (digits-length x n) (λ j k.
    let p : ℕ = 896 - n + j in
    let e : 8 * (111 - p / 8) + (7 - p % 8) ≡ n - suc j = omega arith in
    let b : bit (get_or l (p / 8) 0) (7 - p % 8) ≡ bit x (n - suc j) =
    ap (λ y. bit y (7 - p % 8)) (each (p / 8) (omega arith) (omega arith)) ∙ bit-mod (x / 2 ^ (8 * (111 - p / 8))) 8 (7 - p % 8) (omega arith)
    ∙ sym (bit-shift x (8 * (111 - p / 8)) (7 - p % 8)) ∙ ap (bit x) e in
    ap (λ y. eqb y 1) b ∙ sym (digits-at x n j false k))

-- bits read as a number, a word at a time from the last on

pub words-start : (l : List ℕ) (at : ℕ) (ws : List ℕ) → low ws 0 ≡ number (run (bit_of l) at (64 * 0))
unfolding low number run
words-start l at ws = refl

pub words-next : (l ws : List ℕ) (at n i : ℕ) {w : ℕ} → i < n → i < length ws → low ws i ≡ number (run (bit_of l) (at + 64 * (n - i)) (64 * i)) → w ≡ number (run (bit_of l) (at + 64 * (n - 1 - i)) 64)
    → low (set ws i w) (i + 1) ≡ number (run (bit_of l) (at + 64 * (n - (i + 1))) (64 * (i + 1)))
words-next l ws at n i {w} h k inv ew =
    let p : ℕ = at + 64 * (n - (i + 1)) in
    let a : at + 64 * (n - 1 - i) ≡ p = omega arith in
    let b : at + 64 * (n - i) ≡ p + 64 = omega arith in
    let e : 64 * (i + 1) ≡ 64 + 64 * i = omega arith in
    low-store ws i w k ∙ rw (ew, inv, a, b, e, run-append (bit_of l) p 64 (64 * i), number_append (run (bit_of l) p 64) (run (bit_of l) (p + 64) (64 * i)), run_length (bit_of l) (p + 64) (64 * i)) refl

-- the first bits, fewer than a word, above the words of those after them
pub words-top : (l : List ℕ) (at n : ℕ) {x y w : ℕ} → 0 < n % 64 → x ≡ number (run (bit_of l) (at + n % 64) (64 * (n / 64))) → w ≡ number (run (bit_of l) at 64)
    → y ≡ w / 2 ^ (64 - n % 64) * 2 ^ (64 * (n / 64)) + x → y ≡ number (run (bit_of l) at n)
words-top l at n h ex ew ey =
    let k : ℕ = n % 64 in
    let e : 64 ≡ k + (64 - k) = omega arith in
    let c : n ≡ k + 64 * (n / 64) = omega arith in
    let r : run (bit_of l) at 64 ≡ run (bit_of l) at k ++ run (bit_of l) (at + k) (64 - k) = ap (run (bit_of l) at) e ∙ run-append (bit_of l) at k (64 - k) in
    let q : number (run (bit_of l) at 64) / 2 ^ (64 - k) ≡ number (run (bit_of l) at k) =
    ap₂ (λ v m. number v / 2 ^ m) r (sym (run_length (bit_of l) (at + k) (64 - k))) ∙ number-high (run (bit_of l) at k) (run (bit_of l) (at + k) (64 - k)) in
    ey ∙ rw (ew, ex, q) (sym (ap (λ m. number (run (bit_of l) at m)) c ∙ rw (run-append (bit_of l) at k (64 * (n / 64)), number_append (run (bit_of l) at k) (run (bit_of l) (at + k) (64 * (n / 64))), run_length (bit_of l) (at + k) (64 * (n / 64))) refl))

-- bytes written from a number, and a number read from bytes

pub bytes_of-length : (n x : ℕ) → length (bytes_of n x) ≡ n
unfolding bytes_of
bytes_of-length n x = bytes-length _ n

pub number_of-bytes_of : (n x : ℕ) → number_of (bytes_of n x) ≡ x % 2 ^ (8 * n)
unfolding number_of bytes_of
number_of-bytes_of n x =
    let f : ℕ → Bool = λ p. get_or (digits x (8 * n)) p false in
    let r : run (bit_of (bytes f n)) 0 (8 * n) ≡ digits x (8 * n) = run-ext (bit_of (bytes f n)) 0 (digits x (8 * n)) (8 * n) false (digits-length x (8 * n))
    (λ j h. let z : 0 + j ≡ j = omega arith in rw z (bytes-bit f n j h)) in
    rw (bytes-length f n, r) (number_digits x (8 * n))

pub bytes_of-number_of : (n : ℕ) (l : List ℕ) → Bytes n l → bytes_of n (number_of l) ≡ l
unfolding number_of bytes_of
bytes_of-number_of n l h =
    let w : List Bool = run (bit_of l) 0 (8 * length l) in
    let d : digits (number w) (8 * n) ≡ w = ap (λ k. digits (number w) (8 * k)) (sym h.count) ∙ ap (digits (number w)) (sym (run_length (bit_of l) 0 (8 * length l))) ∙ digits_number w in
    bytes-ext _ n l h (λ p b. let z : 0 + p ≡ p = omega arith in let c : p < 8 * length l = omega (arith, h.count) in
    rw d (sym (run_at (bit_of l) 0 (8 * length l) p false c ∙ rw z)))

pub bytes_of-placed : (page : List ℕ) (x : ℕ) {q : List ℕ} → q ≡ placed page 0 (digits x (8 * length page)) → q ≡ bytes_of (length page) x
unfolding bytes_of
bytes_of-placed page x eq = eq ∙ placed-whole page (digits x (8 * length page)) (digits-length x (8 * length page))
