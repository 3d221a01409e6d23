-- The answers of the store's calls as numbers (document 02, E11, and document 01, "Replies").
--
-- refusal_number r     the number of a refusal: 12, 13 and 14 are the store's own, every other is of document 01's table
-- verdict_reply v      the reply of an answer: 0 where the call is not refused
-- answer_version a     the version of an answer that names one, 0 where the call is refused
-- usable l n           the version n where a chip select may have it in use, and else the refusal
-- listed s             the plain list that a store stands for
use Rattle.std.specs.Prelude.{ℕ, List, take, cond, Result, Ok, Err}
use Rattle.replies.specs.Replies.{number}
use Rattle.replies.specs.declared.Refusal.TheVariants as table
use Rattle.store.specs.declared.Refusal.{Refusal}
use Rattle.store.specs.declared.Refusal.TheVariants.{Table, Full, NumbersUsedUp, InUse}
use Rattle.store.specs.declared.Store.{Store}
use Rattle.version_list.specs.declared.Numbered.{Numbered}
use Rattle.version_list.specs.Plain.{Listed, known}
use Rattle.version_list.specs.Places.{held}

unfoldable pub refusal_number : Refusal → ℕ
refusal_number (Table r) = number r
refusal_number Full = 12
refusal_number NumbersUsedUp = 13
refusal_number InUse = 14

unfoldable pub verdict_reply : {A : Type 0} → Result A Refusal → ℕ
verdict_reply (Ok x) = 0
verdict_reply (Err r) = refusal_number r

unfoldable pub answer_version : Result ℕ Refusal → ℕ
answer_version (Ok n) = n
answer_version (Err r) = 0

unfoldable pub usable : List Numbered → ℕ → Result ℕ Refusal
usable l n = cond (known l n) (Ok n) (Err (Table table.OutOfRange))

unfoldable pub listed : Store → Listed
listed s = record { layouts = take (held s.count) s.layouts; next = s.next; uses = s.uses }
