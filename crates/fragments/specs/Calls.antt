-- The calls that hand a remainder to a hardware locator and take it back: what they answer and leave (document 02, E9).
-- Each is a function of everything that is handed in or lent. Of several replies the first in the order 1, 6, 8 is given. The level field
-- has no bound. The block beside the reply is always 0.
--
-- level_of field             the level t of a level field
-- offered field             whether the locator has the level: the fields 2, 4 and 8, for t = 4, 8 and 16
-- coefficients field        mt, how many coefficients a remainder has; m is 13
-- fitting bits bytes count  a remainder of so many bytes and a list of so many fragments have the right lengths
-- requested field bytes count  the number of coefficients, or why a request about so many bytes and fragments is refused
-- Ended                     a reply, its block, and the lent list afterwards
-- ended answer lent         document 01's numbers for an answer of the code that leaves the list so
-- ending reply after before     how a call ends: the list is written exactly if the reply is 0
-- reply field bytes count x     the reply to a request about the number x
-- export_of, import_of        the calls
use Rattle.std.specs.Prelude.{Bool, true, false, cond, List, ℕ, ◌*◌, ◌^◌, length, eqb, ltb, ⊤, Result, Ok, Err}
use Rattle.remainder.specs.Remainder.{bytes_for, number_of, bytes_of}
use Rattle.replies.specs.declared.Refusal.{Refusal}
use Rattle.replies.specs.declared.Refusal.TheVariants as refusal
use Rattle.replies.specs.Replies.{number, verdict_number, verdict_block, unless}
use Rattle.register_fragments.specs.Fragments.{fragments_of, joined}

unfoldable pub level_of : ℕ → ℕ
level_of field = 2 * field

unfoldable pub offered : ℕ → Bool
offered field = cond (eqb field 2) true (cond (eqb field 4) true (eqb field 8))

unfoldable pub coefficients : ℕ → ℕ
coefficients field = 13 * level_of field

unfoldable pub fitting : ℕ → ℕ → ℕ → Bool
fitting bits bytes count = cond (eqb bytes (bytes_for bits)) (eqb count 7) false

-- 1 and 6, before a number is looked at.
unfoldable pub requested : ℕ → ℕ → ℕ → Result ℕ Refusal
requested field bytes count =
    cond (offered field) (cond (fitting (coefficients field) bytes count) (Ok (coefficients field)) (Err refusal.BufferLength)) (Err refusal.LevelTooHigh)

pub record Ended : Type 0 where
  pub reply : ℕ
  pub block : ℕ
  pub lent : List ℕ

unfoldable pub ended : Result ⊤ Refusal → List ℕ → Ended
ended answer lent = record { reply = verdict_number answer; block = verdict_block answer; lent = lent }

unfoldable pub ending : ℕ → List ℕ → List ℕ → Ended
ending reply after before = record { reply = reply; block = 0; lent = cond (eqb reply 0) after before }

-- 1: the locator has the level. 6: the remainder has its bytes, and there are seven fragments.
-- 8: no one stands above bit mt - 1, so none in an unused bit of the fragments and none in the start bit.
unfoldable pub reply : ℕ → ℕ → ℕ → ℕ → ℕ
reply field bytes count x =
    unless (offered field) (number refusal.LevelTooHigh)
    (unless (fitting (coefficients field) bytes count) (number refusal.BufferLength)
    (unless (ltb x (2 ^ coefficients field)) (number refusal.RemainderTooWide)
    0))

unfoldable pub export_of : ℕ → List ℕ → List ℕ → Ended
export_of field remainder fragments =
    ending (reply field (length remainder) (length fragments) (number_of remainder)) (fragments_of (number_of remainder)) fragments

unfoldable pub import_of : ℕ → List ℕ → List ℕ → Ended
import_of field fragments remainder =
    ending (reply field (length remainder) (length fragments) (joined fragments)) (bytes_of (length remainder) (joined fragments)) remainder
