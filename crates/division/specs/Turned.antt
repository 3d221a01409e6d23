-- Inner promises: words with their bytes in the other order.
--
-- turned_half x     the number of 32 binary digits that has the four bytes of x in the other order
-- turned_word w     the number of 64 binary digits that has the eight bytes of w in the other order
use Rattle.std.specs.Prelude.{ℕ, ◌+◌, ◌*◌, ◌/◌, ◌%◌}

unfoldable pub turned_half : ℕ → ℕ
turned_half x = x % 256 * 16777216 + x / 256 % 256 * 65536 + x / 65536 % 256 * 256 + x / 16777216

unfoldable pub turned_word : ℕ → ℕ
turned_word w = turned_half (w % 4294967296) * 4294967296 + turned_half (w / 4294967296)
