-- Stores as the calls of the crate `store` make them.
--
-- Bytes w              a layout record w is bytes, as a slice of bytes is
-- Made e               the numbered layout e is the accepted layout of an edition and a record of bytes
-- Kept s               so is every layout that the store s keeps
-- Handed c             what the call c hands in as a layout record is bytes
-- AllHanded cs         so it is of every call of a sequence
use Rattle.std.specs.Prelude.{◌≡◌, List, [], ◌∷◌, ℕ, ◌<◌, get_or}
use Rattle.layout_plan.specs.Record.{Words}
use Rattle.version_list.specs.declared.Numbered.{Numbered}
use Rattle.version_list.specs.Plain.{Listed}
use Rattle.store_runs.specs.Reached as reached
use Rattle.store_runs.specs.Reached.{Every}
use Rattle.store_runs.specs.Runs.{Call, store}

pub record Bytes (w : Words) : Type 0 where
  pub bytes : (i : ℕ) → get_or w.bytes i 0 < 256

pub record Made (e : Numbered) : Type 0 where
  pub accepted : reached.Accepted e
  pub bytes : Bytes accepted.words

pub record Kept (s : Listed) : Type 0 where
  pub made : Every Made s.layouts

abbrev pub Handed : Call → Type 0
Handed c = (w : Words) → c ≡ store w → Bytes w

pub data AllHanded : List Call → Type 0 where
  none : AllHanded []
  next : {c : Call} {cs : List Call} → Handed c → AllHanded cs → AllHanded (c ∷ cs)
