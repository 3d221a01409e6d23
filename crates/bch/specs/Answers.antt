-- The call that locates errors from a remainder: what it answers and leaves (document 01, "Remainder" and "Replies").
-- It is a function of everything that is handed in or lent. Of several replies the first in the order 7 for the edition, 7 for the field choice,
-- 1, 2, 3, 6, 8, 9 is given. Numbers that are handed in have no bound. The block beside the reply is always 0.
--
-- Ended                 a reply, its block, the size of the set, and the lent list afterwards
-- done, refused         how the call ends with a set, and without
-- ended answer places   document 01's numbers for an answer of the code that leaves the list so
-- level_of field         the level t of a level field
-- request_reply ..       the reply about the numbers and lengths, 0 where they are right
-- list_in l places       how the call ends by what the remainder locates
-- remainder_in ..        the call for a remainder x
-- locate_in ..           the call in a field under an edition; locate_for: with the answer to a field choice
-- locate_of ..           the call
use Rattle.std.specs.Prelude.{cond, List, ◌++◌, ℕ, ◌*◌, ◌^◌, length, drop, eqb, ltb, leb, Option, Some, None, Result, Ok, Err}
use Rattle.replies.specs.declared.Refusal.{Refusal}
use Rattle.field.specs.declared.Field.{Field}
use Rattle.field.specs.Field.{degree, longest, chosen}
use Rattle.code.specs.Locations.{Locations, exponents, nowhere, locate}
use Rattle.remainder.specs.Remainder.{bytes_for, number_of}
use Rattle.replies.specs.Replies.{number, block, unless}
use Rattle.replies.specs.Edition.{offered, highest}

pub record Ended : Type 0 where
  pub reply : ℕ
  pub block : ℕ
  pub size : ℕ
  pub places : List ℕ

abbrev pub done : ℕ → List ℕ → Ended
done size places = record { reply = 0; block = 0; size = size; places = places }

abbrev pub refused : ℕ → List ℕ → Ended
refused reply places = record { reply = reply; block = 0; size = 0; places = places }

unfoldable pub ended : Result ℕ Refusal → List ℕ → Ended
ended (Ok size) places = done size places
ended (Err r) places = record { reply = number r; block = block r; size = 0; places = places }

unfoldable pub level_of : ℕ → ℕ
level_of field = 2 * field

-- 1: the level field is at most the highest of the edition. 2: t is not 0, and n is more than mt. 3: n is at most 2^m - 1.
-- 6: the remainder has its bytes, and the list has at least t places.
unfoldable pub request_reply : ℕ → Field → ℕ → ℕ → ℕ → ℕ → ℕ
request_reply edition f field n remainder places =
    unless (leb field (highest edition)) 1
    (unless (ltb 0 field) 2
    (unless (ltb (degree f * level_of field) n) 2
    (unless (leb n (longest f)) 3
    (unless (eqb remainder (bytes_for (degree f * level_of field))) 6
    (unless (leb (level_of field) places) 6
    0)))))

-- The set stands at the start of the list, and the places after it keep what they held. 9: there is no set.
unfoldable pub list_in : Locations → List ℕ → Ended
list_in (exponents ps) places = done (length ps) (ps ++ drop (length ps) places)
list_in nowhere places = refused 9 places

-- 8: no one stands above bit mt - 1.
unfoldable pub remainder_in : Field → ℕ → ℕ → ℕ → List ℕ → Ended
remainder_in f t n x places = cond (ltb x (2 ^ (degree f * t))) (list_in (locate f t n x) places) (refused 8 places)

unfoldable pub locate_in : ℕ → Field → ℕ → ℕ → List ℕ → List ℕ → Ended
locate_in edition f field n remainder places =
    cond (eqb (request_reply edition f field n (length remainder) (length places)) 0)
    (remainder_in f (level_of field) n (number_of remainder) places)
    (refused (request_reply edition f field n (length remainder) (length places)) places)

-- 7: the field choice is 0 or 1.
unfoldable pub locate_for : ℕ → Option Field → ℕ → ℕ → List ℕ → List ℕ → Ended
locate_for edition (Some f) field n remainder places = locate_in edition f field n remainder places
locate_for edition None field n remainder places = refused 7 places

-- 7: the edition is offered (document 02, E13).
unfoldable pub locate_of : ℕ → ℕ → ℕ → ℕ → List ℕ → List ℕ → Ended
locate_of edition field choice n remainder places =
    cond (offered edition) (locate_for edition (chosen choice) field n remainder places) (refused 7 places)
