-- A number in fourteen words, and the words of a number.
use mathlib.Core.Path.{◌≡◌, refl, sym, ap, ap₂, ◌∙◌, subst}
use mathlib.Core.List.{List}
use Prim.Native.Nat.{ℕ, ◌+◌, ◌*◌, ◌/◌, ◌%◌, ◌^◌, ◌≤◌, ◌<◌}
use native.Mathlib.Omega.{arith}
use native.Mathlib.Decide.{dec_lt}
use native.Mathlib.Nat.{mod-lt, zero-add}
use lib.ListN.{length, get_or, replicate, get_or-eq_default}
use lib.Seq.{ext_get_or}
use lib.Pow.{pow_pos}
use Rattle.bits.specs.Bits.{bit, run}
use Rattle.bits.proofs.Numbers.{bit-mod, bit-shift, bit-ext}
use Rattle.bits.proofs.Runs.{run_length, run_at}
use Rattle.code.specs.Register.{register}
use Rattle.remainder.proofs.Words.{Words, register-bit, register-lt}
use Rattle.piece_states.specs.State.{words_of}

-- word i of a number
part : ℕ → ℕ → ℕ
part x i = x / 2 ^ (64 * i) % 2 ^ 64

part-bit : (x i j : ℕ) → j < 64 → bit (part x i) j ≡ bit x (64 * i + j)
unfolding part
part-bit x i j h = bit-mod (x / 2 ^ (64 * i)) 64 j h ∙ sym (bit-shift x (64 * i) j)

part-lt : (x i : ℕ) → part x i < 2 ^ 64
unfolding part
part-lt x i = mod-lt (x / 2 ^ (64 * i)) (pow_pos 64)

pub words_of-length : (x : ℕ) → length (words_of x) ≡ 14
unfolding words_of
words_of-length x = run_length (λ i. x / 2 ^ (64 * i) % 2 ^ 64) 0 14

words_of-at : (x i : ℕ) → i < 14 → get_or (words_of x) i 0 ≡ part x i
unfolding words_of part
words_of-at x i h = run_at (λ i. x / 2 ^ (64 * i) % 2 ^ 64) 0 14 i 0 h ∙ ap (λ k. x / 2 ^ (64 * k) % 2 ^ 64) (zero-add i)

pub words_of-words : (x : ℕ) → Words (words_of x)
words_of-words x i = elim (dec_lt i 14) [
  | yes h ↦ record { fits = rw (words_of-at x i h) (part-lt x i) }
  | no h ↦ record { fits = let l : length (words_of x) ≤ i = omega (arith, words_of-length x) in rw (get_or-eq_default (words_of x) 0 l) (omega arith) }
]

-- The words of the number in fourteen words are these words.
pub words-register : (ws : List ℕ) → length ws ≡ 14 → Words ws → words_of (register ws) ≡ ws
words-register ws l h =
    ext_get_or 0 (words_of (register ws)) ws (words_of-length (register ws) ∙ sym l)
    (λ i k.
    let k' : i < 14 = omega (arith, words_of-length (register ws)) in
    words_of-at (register ws) i k'
    ∙ bit-ext 64 (part (register ws) i) (get_or ws i 0) (part-lt (register ws) i) (h i).fits
    (λ j m.
    let q : (64 * i + j) / 64 ≡ i = omega arith in
    let r : (64 * i + j) % 64 ≡ j = omega arith in
    part-bit (register ws) i j m
    ∙ register-bit ws h (64 * i + j) (omega arith)
    ∙ ap₂ (λ (a b : ℕ). bit (get_or ws a 0) b) q r))

pub words-number : (ws : List ℕ) {x : ℕ} → length ws ≡ 14 → Words ws → register ws ≡ x → ws ≡ words_of x
words-number ws l h e = sym (words-register ws l h) ∙ ap words_of e

-- The number in the words of a number that has room is that number.
pub register-words : (x : ℕ) → x < 2 ^ 896 → register (words_of x) ≡ x
register-words x h =
    let l = words_of-length x in
    let e : 64 * length (words_of x) ≡ 896 = ap (λ n. 64 * n) l in
    let below : register (words_of x) < 2 ^ 896 = subst (λ n. register (words_of x) < 2 ^ n) e (register-lt (words_of x) (words_of-words x)) in
    bit-ext 896 (register (words_of x)) x below h
    (λ p m.
    let s : 64 * (p / 64) + p % 64 ≡ p = omega arith in
    register-bit (words_of x) (words_of-words x) p (omega arith)
    ∙ ap (λ w. bit w (p % 64)) (words_of-at x (p / 64) (omega arith))
    ∙ part-bit x (p / 64) (p % 64) (omega arith)
    ∙ ap (bit x) s)

pub words_of-zero : replicate 14 0 ≡ words_of 0
unfolding words_of run
words_of-zero = refl
