-- The versions in use as they stand on flash (document 02, E11): 16 numbers of 16 bits, chip select 15 first, most significant bits first.
--
-- bytes_from uses n     the numbers of the chip selects below n, the highest chip select first
-- saved uses           the 32 bytes of 16 numbers
-- number_at bytes c     the number of chip select c in 32 bytes
-- loaded bytes         the 16 numbers in 32 bytes, chip select 0 first
-- save_of s lent        writing the numbers into a lent buffer: the reply, and what the buffer then holds
-- load_of s bytes       loading them
use Rattle.std.specs.Prelude.{Bool, true, false, cond, List, [], ◌∷◌, ℕ, zero, suc, ◌+◌, ◌-◌, ◌*◌, ◌/◌, ◌%◌, length, get_or, eqb}
use Rattle.bits.specs.Bits.{run}
use Rattle.replies.specs.Replies.{unless}
use Rattle.version_list.specs.declared.Numbered.{Numbered}
use Rattle.version_list.specs.Plain.{Listed, Ended, ended, known, with_uses}

unfoldable pub bytes_from : List ℕ → ℕ → List ℕ
bytes_from uses zero = []
bytes_from uses (suc c) = get_or uses c 0 / 256 % 256 ∷ get_or uses c 0 % 256 ∷ bytes_from uses c

unfoldable pub saved : List ℕ → List ℕ
saved uses = bytes_from uses 16

unfoldable pub number_at : List ℕ → ℕ → ℕ
number_at bytes c = 256 * get_or bytes (30 - 2 * c) 0 + get_or bytes (31 - 2 * c) 0

unfoldable pub loaded : List ℕ → List ℕ
loaded bytes = run (number_at bytes) 0 16

pub record Saving : Type 0 where
  pub reply : ℕ
  pub bytes : List ℕ

abbrev pub saving : ℕ → List ℕ → Saving
saving reply bytes = record { reply = reply; bytes = bytes }

-- 6: a buffer of another length than 32.
unfoldable pub save_of : Listed → List ℕ → Saving
save_of s lent = cond (eqb (length lent) 32) (saving 0 (saved s.uses)) (saving 6 lent)

unfoldable pub all_known : List Numbered → List ℕ → Bool
all_known l [] = true
all_known l (n ∷ ns) = cond (known l n) (all_known l ns) false

-- 6: a buffer of another length than 32. 7: one of the numbers is neither 0 nor in the store.
unfoldable pub load_reply : Listed → List ℕ → ℕ
load_reply s bytes =
    unless (eqb (length bytes) 32) 6
    (unless (all_known s.layouts (loaded bytes)) 7
    0)

unfoldable pub load_of : Listed → List ℕ → Ended
load_of s bytes = cond (eqb (load_reply s bytes) 0) (ended 0 0 (with_uses s (loaded bytes))) (ended (load_reply s bytes) 0 s)
