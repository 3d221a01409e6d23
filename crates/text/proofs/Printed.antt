-- A byte that is printed reads back.
use mathlib.Core.Path.{◌≡◌}
use Prim.Native.Nat.{ℕ, ◌+◌, ◌-◌, ◌/◌, ◌%◌, ◌<◌, ◌≤◌}
use native.Mathlib.Omega.{arith}
use native.Mathlib.Decide.{dec_lt}
use borrow.Author.Tests.{lt-ltb, le-ltb}
use lib.ListN.{get_or}
use Rattle.text.specs.Numbers.{digit_of}
use Rattle.text.specs.Bytes.{pair_of}
use Rattle.text.specs.Hex.{char_of, hex_of}

pub char-decimal : (d : ℕ) {c : ℕ} → d % 16 < 10 → c ≡ 48 + d % 16 → c ≡ char_of d
unfolding char_of
char-decimal d h e = rw (lt-ltb (d % 16) 10 h) e

pub char-letter : (d : ℕ) {c : ℕ} → 10 ≤ d % 16 → c ≡ 55 + d % 16 → c ≡ char_of d
unfolding char_of
char-letter d h e = rw (le-ltb (d % 16) 10 h) e

digit_char : (d : ℕ) → digit_of (char_of d) ≡ d % 16
unfolding digit_of char_of
digit_char d = elim (dec_lt (d % 16) 10) [
  | yes h ↦
      let e : 48 + d % 16 - 48 ≡ d % 16 = omega arith in
      rw (lt-ltb (d % 16) 10 h, le-ltb (48 + d % 16) 48 (omega arith), lt-ltb (48 + d % 16) 58 (omega arith)) e
  | no h ↦
      let e : 55 + d % 16 - 55 ≡ d % 16 = omega arith in
      rw (
        le-ltb (d % 16) 10 (omega arith),
        le-ltb (55 + d % 16) 48 (omega arith),
        le-ltb (55 + d % 16) 58 (omega arith),
        le-ltb (55 + d % 16) 65 (omega arith),
        lt-ltb (55 + d % 16) 71 (omega arith),
      ) e
]

pub hex-back : (b : ℕ) → b < 256 → pair_of (get_or (hex_of b) 0 0) (get_or (hex_of b) 1 0) ≡ b
unfolding pair_of hex_of
hex-back b h = rw (digit_char (b / 16), digit_char b) (omega arith)
