-- Records of two words and of three: a third word of zeros is as good as none.
use mathlib.Core.Path.{◌≡◌, refl, ◌∙◌}
use mathlib.Core.List.{List, [], ◌∷◌, ◌++◌}
use Prim.Native.Nat.{ℕ, zero, suc}
use native.Mathlib.Omega.{arith}
use lib.ListN.{length, get_or, length-append}
use Rattle.layout_plan.specs.Record.{words_of, mark_in, fields_under, layout_of, record_length}
use Rattle.layout.specs.Acceptance.{acceptance}

-- four zero bytes
unfoldable pub no_mark : List ℕ
no_mark = 0 ∷ 0 ∷ 0 ∷ 0 ∷ []

four : length no_mark ≡ 4
unfolding no_mark
four = refl

padded : (l : List ℕ) (i : ℕ) → get_or (l ++ no_mark) i 0 ≡ get_or l i 0
unfolding no_mark
padded [] zero = refl
padded [] (suc zero) = refl
padded [] (suc (suc zero)) = refl
padded [] (suc (suc (suc zero))) = refl
padded [] (suc (suc (suc (suc i)))) = refl
padded (x ∷ l) zero = refl
padded (x ∷ l) (suc i) = padded l i

padded-fields : (e : ℕ) (rec : List ℕ) → fields_under e (rec ++ no_mark) ≡ fields_under e rec
unfolding fields_under mark_in
padded-fields e rec =
    rw (
      padded rec 0,
      padded rec 1,
      padded rec 2,
      padded rec 3,
      padded rec 4,
      padded rec 5,
      padded rec 6,
      padded rec 7,
      padded rec 8,
      padded rec 9,
      padded rec 10,
      padded rec 11,
    )

-- A record of two words is answered as the one with a third word of zeros.
pub acceptance-padded : (edition : ℕ) (rec : List ℕ) → length rec ≡ 8 → acceptance (words_of edition (rec ++ no_mark)) ≡ acceptance (words_of edition rec)
unfolding acceptance layout_of record_length
acceptance-padded edition rec e =
    let k : length (rec ++ no_mark) ≡ 12 = length-append rec no_mark ∙ omega (arith, four) in rw (k, e, padded-fields edition rec)
