-- Bytes as people type them: two hexadecimal digits each.
--
-- all_hex text n             the first n characters are hexadecimal digits
-- pair_of high low           the byte of two digits
-- placed text out n         `out` with the bytes of the first n pairs in its first places
-- readable text room        an even number of digits, and no more bytes than there is room for
-- bytes_number text room     how many bytes a text says, where they are readable
-- bytes_placed text out      what `out` holds afterwards
use Rattle.std.specs.Prelude.{Bool, true, false, cond, List, ℕ, zero, suc, ◌+◌, ◌*◌, ◌/◌, ◌%◌, length, get_or, set, eqb, ltb, Option, Some, None}
use Rattle.text.specs.Numbers.{digit_of}

unfoldable pub all_hex : List ℕ → ℕ → Bool
all_hex text zero = true
all_hex text (suc n) = cond (all_hex text n) (ltb (digit_of (get_or text n 0)) 16) false

unfoldable pub pair_of : ℕ → ℕ → ℕ
pair_of high low = digit_of high % 16 * 16 + digit_of low % 16

unfoldable pub placed : List ℕ → List ℕ → ℕ → List ℕ
placed text out zero = out
placed text out (suc n) = set (placed text out n) n (pair_of (get_or text (n + n) 0) (get_or text (n + n + 1) 0))

unfoldable pub readable : List ℕ → ℕ → Bool
readable text room = cond (eqb (length text % 2) 0) (cond (ltb room (length text / 2)) false (all_hex text (length text))) false

unfoldable pub bytes_number : List ℕ → ℕ → Option ℕ
bytes_number text room = cond (readable text room) (Some (length text / 2)) None

unfoldable pub bytes_placed : List ℕ → List ℕ → List ℕ
bytes_placed text out = cond (readable text (length out)) (placed text out (length text / 2)) out
