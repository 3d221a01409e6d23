-- Whether every word from one on is zero, as the code asks it.
use Prim.Native.Nat.{ℕ, ◌+◌, ◌-◌, ◌*◌, ◌/◌, ◌%◌, ◌^◌, ◌<◌, ◌≤◌}
use mathlib.Core.Bool.{Bool, true, false}
use mathlib.Core.List.{List}
use mathlib.Core.Logic.{◌≢◌}
use mathlib.Core.Path.{◌≡◌, sym, ◌∙◌}
use native.Mathlib.Omega.{arith}
use native.Mathlib.Decide.{dec_lt}
use borrow.Author.Tests.{eq-eqb, ne_eqb, lt-ltb, le-ltb}
use lib.ListN.{length, get_or, take, drop}
use lib.Dec.{eqb, ltb}
use lib.Pow.{pow_pos, pow-lt}
use Rattle.std.specs.Bool.{MatchBool}
use Rattle.std.specs.List.{AllWithin, HoldsAt}
use Rattle.std.proofs.lemmas.List.{get_or-take, get_or-drop, get_or_past, length-take-le, length-drop}
use Rattle.code.specs.Register.{low, register}
use Rattle.remainder.proofs.Words.{Words, low_below, low-one, low-register, register-zeros}

-- every word is zero, or one is not
abbrev pub AllZero : Bool → List ℕ → Type 0
AllZero r ws = MatchBool r (AllWithin (λ w. w ≡ 0) ws 0 (length ws)) ((k : ℕ) × (k < length ws) × HoldsAt (λ w. w ≢ 0) ws k)

module _ (ws : List ℕ) (n : ℕ) (l : n ≤ length ws) where
  -- the words from n on
  abbrev pub rest : List ℕ
  rest = take (length ws - n) (drop n ws)

  rest-length : length rest ≡ length ws - n
  rest-length = length-take-le (length ws - n) (drop n ws) (omega (arith, length-drop n ws))

  rest-at : (k : ℕ) → k < length ws - n → get_or rest k 0 ≡ get_or ws (n + k) 0
  rest-at k h = get_or-take (length ws - n) (drop n ws) k 0 h ∙ get_or-drop n ws k 0

  -- where all of them are zero, the number is that in the first n
  rest-zero : AllWithin (λ w. w ≡ 0) rest 0 (length rest) → register ws ≡ low ws n
  rest-zero z = register-zeros ws n l (λ k h. elim (dec_lt k (length ws)) [
    | yes b ↦
        let e : n + (k - n) ≡ k = omega arith in
        rw e at (sym (rest-at (k - n) (omega arith)) ∙ z (k - n) 0 (omega arith) (omega (arith, rest-length)))
    | no b ↦ get_or_past ws k 0 (omega arith)
  ])

  -- and where one is not, it is no less than 2^(64n)
  rest-one : (k : ℕ) → k < length rest → (get_or rest k 0 ≡ 0 → ⊥) → 2 ^ (64 * (n + k)) ≤ register ws
  rest-one k h ne =
      let o = low-one ws (n + k) (λ z. ne (rest-at k (omega (arith, rest-length)) ∙ z)) in
      let r = low-register ws (n + k + 1) (omega (arith, rest-length)) in
      omega arith

-- whether a number is zero
pub all-zero : (ws : List ℕ) (r : Bool) → AllZero r ws → r ≡ eqb (register ws) 0
unfolding low
all-zero ws true z = sym (eq-eqb (register ws) 0 (register-zeros ws 0 (omega arith) (λ k h. elim (dec_lt k (length ws)) [
  | yes b ↦ z k 0 (omega arith) b
  | no b ↦ get_or_past ws k 0 (omega arith)
])))
all-zero ws false w =
    let o = low-one ws w.0 (w.2 0) in
    let p = pow_pos (64 * w.0) in
    let r = low-register ws (w.0 + 1) (omega arith) in
    sym (ne_eqb (register ws) 0 (λ e. omega arith))

-- whether a number is below 2^d, where no digit of the word with the digit d is one from there on
pub all-below : (ws : List ℕ) → Words ws → (d : ℕ) → (l : d / 64 < length ws) → get_or ws (d / 64) 0 / 2 ^ (d % 64) ≡ 0 → (r : Bool)
    → AllZero r (rest ws (d / 64 + 1) (omega arith)) → r ≡ ltb (register ws) (2 ^ d)
all-below ws h d l e true z =
    let u = rest-zero ws (d / 64 + 1) (omega arith) z in
    let b = low_below ws h d e in
    sym (lt-ltb (register ws) (2 ^ d) (omega arith))
all-below ws h d l e false w =
    let o = rest-one ws (d / 64 + 1) (omega arith) w.0 w.1 (w.2 0) in
    let p : 2 ^ d < 2 ^ (64 * (d / 64 + 1 + w.0)) = pow-lt (omega arith) in
    sym (le-ltb (register ws) (2 ^ d) (omega arith))
