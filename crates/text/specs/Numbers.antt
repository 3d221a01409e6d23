-- Numbers as people type them.
--
-- digit_of c             the value of a digit, in either case of its letter; 16 where the character is none
-- fitting v             a number, where 64 bits hold it
-- appended base v c     a number with one digit more
-- digits_to base text n  the number of the first n digits
-- digits_of base text    the number of all digits
-- is_hex text            0x and something after it
-- without_prefix text    what stands after 0x, where a text starts so
-- number_of text         the number that a text says
use Rattle.std.specs.Prelude.{Bool, false, cond, List, ℕ, zero, suc, ◌+◌, ◌*◌, ◌-◌, ◌^◌, length, get_or, drop, eqb, ltb, Option, Some, None}

unfoldable pub digit_of : ℕ → ℕ
digit_of c =
    cond (ltb c 48) 16
    (cond (ltb c 58) (c - 48)
    (cond (ltb c 65) 16
    (cond (ltb c 71) (c - 55)
    (cond (ltb c 97) 16
    (cond (ltb c 103) (c - 87) 16)))))

unfoldable pub fitting : ℕ → Option ℕ
fitting v = cond (ltb v (2 ^ 64)) (Some v) None

unfoldable pub appended : ℕ → Option ℕ → ℕ → Option ℕ
appended base (Some v) c = cond (ltb (digit_of c) base) (fitting (v * base + digit_of c)) None
appended base None c = None

unfoldable pub digits_to : ℕ → List ℕ → ℕ → Option ℕ
digits_to base text zero = Some 0
digits_to base text (suc n) = appended base (digits_to base text n) (get_or text n 0)

abbrev pub digits_of : ℕ → List ℕ → Option ℕ
digits_of base text = digits_to base text (length text)

unfoldable pub is_hex : List ℕ → Bool
is_hex text = cond (ltb (length text) 3) false (cond (eqb (get_or text 0 0) 48) (eqb (get_or text 1 0) 120) false)

unfoldable pub without_prefix : List ℕ → List ℕ
without_prefix text = cond (is_hex text) (drop 2 text) text

unfoldable pub number_of : List ℕ → Option ℕ
number_of text = cond (eqb (length text) 0) None (cond (is_hex text) (digits_of 16 (drop 2 text)) (digits_of 10 text))
