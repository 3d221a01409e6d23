-- What exporting and importing fragments return: reply and block come back out of the word, and there is nothing beside them.
use mathlib.Core.Path.{◌≡◌, refl, sym, ap, ◌∙◌}
use mathlib.Core.Bool.{Bool, true, false}
use mathlib.Core.List.{List, []}
use Prim.Native.Nat.{ℕ, ◌^◌, ◌<◌}
use native.Mathlib.Omega.{arith}
use lib.ListN.{length}
use lib.Dec.{ltb}
use Rattle.replies.specs.Replies.{number, verdict_number, unless}
use Rattle.remainder.specs.Remainder.{number_of}
use Rattle.std.specs.Prelude.{⊤, Result}
use Rattle.replies.specs.declared.Refusal.{Refusal}
use Rattle.register_fragments.specs.Fragments.{joined}
use Rattle.fragments.specs.Calls.{Ended, ended, ending, offered, coefficients, fitting, reply, export_of, import_of}
use Rattle.fragments.proofs.Replies.{ended-lent}
use Rattle.answer_words.specs.Answer.{answer_word}
use Rattle.rudderfig.specs.Fragments.{FragmentsReturns}
use Rattle.rudderfig.proofs.Words.{Holds, word_holds}

reply-low : (field bytes count x : ℕ) → reply field bytes count x < 256
unfolding reply number
reply-low field bytes count x = by (offered field) (fitting (coefficients field) bytes count) (ltb x (2 ^ coefficients field))
  where
    by : (a b c : Bool) → unless a 1 (unless b 6 (unless c 8 0)) < 256
    by true true true = omega arith
    by true true false = omega arith
    by true false c = omega arith
    by false b c = omega arith

pub export-holds : (field : ℕ) (remainder fragments : List ℕ) → let w = export_of field remainder fragments in Holds w.reply w.block 0 (answer_word w.reply w.block 0 0)
unfolding export_of ending
export-holds field remainder fragments = word_holds 0 (reply-low field (length remainder) (length fragments) (number_of remainder)) (omega arith) (λ h. refl)

pub import-holds : (field : ℕ) (fragments remainder : List ℕ) → let w = import_of field fragments remainder in Holds w.reply w.block 0 (answer_word w.reply w.block 0 0)
unfolding import_of ending
import-holds field fragments remainder = word_holds 0 (reply-low field (length remainder) (length fragments) (joined fragments)) (omega arith) (λ h. refl)

-- from what the call of the crate below ensures

pub fragments-returns : (a : Result ⊤ Refusal) {w : Ended} {x r : ℕ} (l : List ℕ) → ended a l ≡ w → w.block ≡ 0 → x ≡ verdict_number a → r ≡ answer_word x 0 0 0 → FragmentsReturns w r l
unfolding ended
fragments-returns a l e z h k = record {
  word = k ∙ rw (h, z, ← e);
  lent = rw (← e) (sym (ended-lent a l));
}
