-- Inner promises: words of rows of bytes, added to those of a number.
--
-- word_sum bytes at i n w             the sum over GF(2) of w and of word i of the first n of the rows that are read from the places `at` on
-- Added bytes at from to vs ws       words `from` to `to` - 1 of ws are those of vs with eight rows added, and the others are those of vs
use Rattle.std.specs.Prelude.{◌≡◌, List, ℕ, zero, suc, ◌+◌, ◌*◌, ◌<◌, ◌≤◌, get_or, drop}
use Rattle.std.specs.Int.Bits.{bit_xor}
use Rattle.wide.specs.Bytes.{little}

unfoldable pub word_sum : List ℕ → List ℕ → ℕ → ℕ → ℕ → ℕ
word_sum bytes at i zero w = w
word_sum bytes at i (suc n) w = bit_xor (little (drop (get_or at n 0 + 8 * i) bytes) 8) (word_sum bytes at i n w)

pub record Added (bytes at : List ℕ) (from to : ℕ) (vs ws : List ℕ) : Type 0 where
  pub changed : (k : ℕ) → from ≤ k → k < to → get_or ws k 0 ≡ word_sum bytes at k 8 (get_or vs k 0)
  pub lower : (k : ℕ) → k < from → get_or ws k 0 ≡ get_or vs k 0
  pub upper : (k : ℕ) → to ≤ k → get_or ws k 0 ≡ get_or vs k 0
