-- A block of a page whose message arrives in pieces (document 02, E4).
--
-- InPieces q payload b ecc ps      the pieces are the message of block b, bit for bit, and ecc is the block's level field
-- finished s edition f ecc ps buffer    a start in the field f under the edition with the length of the message, the pieces one after the
--                                  other, and a finish
use Rattle.std.specs.Prelude.{◌≡◌, List, ℕ, ◌*◌, length}
use Rattle.field.specs.declared.Field.{Field}
use Rattle.layout_plan.specs.declared.Plan.{Plan}
use Rattle.layout_plan.specs.Plan.{level}
use Rattle.page_theory.specs.Page.{message}
use Rattle.piece_rules.specs.declared.State.{State}
use Rattle.piece_parity.specs.Carried.{bits_of}
use Rattle.piece_states.specs.State.{choice_of}
use Rattle.piece_states.specs.Calls.{Finished, start_of, finish_of}
use Rattle.pieces.specs.Cutting.{joined, feeds}

pub record InPieces (q : Plan) (payload : List ℕ) (b ecc : ℕ) (ps : List (List ℕ)) : Type 0 where
  pub twice : level q b ≡ 2 * ecc
  pub bits : bits_of (joined ps) ≡ message q payload b

unfoldable pub finished : State → ℕ → Field → ℕ → List (List ℕ) → List ℕ → Finished
finished s edition f ecc ps buffer = finish_of (feeds (start_of s edition ecc (choice_of f) (length (joined ps))).state ps) buffer
