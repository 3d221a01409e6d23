-- One call after the other (document 02, E9): what was handed in comes back. Given by what must come of it.
--
-- Trip                                           how the second call ends, and what the first one leaves in the list between them
-- tripped answer middle back                     that, for an answer of the code that leaves the lists so
-- back_reply reply found wanted                   the reply of the first call, and then 6 where the list to read back into has a wrong length
-- remainder_back field remainder fragments back   export to the list `fragments`, then import into the list `back`
-- fragments_back field fragments remainder back   import into the list `remainder`, then export into the list `back`
use Rattle.std.specs.Prelude.{List, ℕ, length, eqb, ⊤, Result}
use Rattle.replies.specs.declared.Refusal.{Refusal}
use Rattle.replies.specs.declared.Refusal.TheVariants as refusal
use Rattle.replies.specs.Replies.{number, unless}
use Rattle.remainder.specs.Remainder.{number_of}
use Rattle.register_fragments.specs.Fragments.{joined}
use Rattle.fragments.specs.Calls.{Ended, ended, ending, reply, export_of, import_of}

pub record Trip : Type 0 where
  pub ends : Ended
  pub middle : List ℕ

abbrev pub tripped : Result ⊤ Refusal → List ℕ → List ℕ → Trip
tripped answer middle back = record { ends = ended answer back; middle = middle }

unfoldable pub back_reply : ℕ → ℕ → ℕ → ℕ
back_reply first found wanted = unless (eqb first 0) first (unless (eqb found wanted) (number refusal.BufferLength) 0)

-- The list between the calls is written where the first call is done, and else as it was.
unfoldable pub remainder_back : ℕ → List ℕ → List ℕ → List ℕ → Trip
remainder_back field remainder fragments back = record {
  ends = ending (back_reply (reply field (length remainder) (length fragments) (number_of remainder)) (length back) (length remainder)) remainder back;
  middle = (export_of field remainder fragments).lent;
}

unfoldable pub fragments_back : ℕ → List ℕ → List ℕ → List ℕ → Trip
fragments_back field fragments remainder back = record {
  ends = ending (back_reply (reply field (length remainder) (length fragments) (joined fragments)) (length back) (length fragments)) fragments back;
  middle = (import_of field fragments remainder).lent;
}
