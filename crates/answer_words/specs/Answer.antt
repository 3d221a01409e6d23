-- The answer word: what every call of the C interface returns but those that explain, four numbers in 64 bits.
--
-- answer_word reply block kind value   reply in bits 0 to 7, the reply's block in bits 8 to 23, kind in bits 24 to 31, value in bits 32 to 63
-- done_word kind value                 the word of reply 0
-- refused_word reply block             the word of a refusal, which returns only number and block (document 01, "Replies")
-- reply_in, block_in, kind_in, value_in   the numbers in a word
-- Bare w                              a word that refuses has kind 0 and value 0
use Rattle.std.specs.Prelude.{◌≡◌, ℕ, ◌+◌, ◌*◌, ◌/◌, ◌%◌, ◌<◌}

unfoldable pub answer_word : ℕ → ℕ → ℕ → ℕ → ℕ
answer_word reply block kind value = reply + 0x100 * block + 0x1000000 * kind + 0x100000000 * value

unfoldable pub done_word : ℕ → ℕ → ℕ
done_word kind value = answer_word 0 0 kind value

unfoldable pub refused_word : ℕ → ℕ → ℕ
refused_word reply block = answer_word reply block 0 0

unfoldable pub reply_in : ℕ → ℕ
reply_in w = w % 0x100

unfoldable pub block_in : ℕ → ℕ
block_in w = w / 0x100 % 0x10000

unfoldable pub kind_in : ℕ → ℕ
kind_in w = w / 0x1000000 % 0x100

unfoldable pub value_in : ℕ → ℕ
value_in w = w / 0x100000000

pub record Bare (w : ℕ) : Type 0 where
  pub kind : 0 < reply_in w → kind_in w ≡ 0
  pub value : 0 < reply_in w → value_in w ≡ 0
