-- Sequences of calls of the crates `store` and `store_pages`, by what the contracts say as they stand (document 02, E11).
--
-- Step s c a t         a call on the store s answers a and hands back t: its contract
-- Steps s cs rs t      a sequence of calls
use Rattle.std.specs.Prelude.{◌≡◌, List, [], ◌∷◌, ℕ}
use Rattle.page_theory.specs.Calls.{Written, write_for, Looked, look_for, Taken, take_for, Judged, judge_for, Claimed, claim_for}
use Rattle.store.specs.declared.Store.{Store}
use Rattle.store.specs.Answers.{listed}
use Rattle.store_runs.specs.Runs.{version_of, Call, Answer, Does, write, look, take, judge, claim, written, looked, taken, judged, claimed}
use Rattle.store_pages.specs.Tested.{tested}

pub data Step : Store → Call → Answer → Store → Type 0 where
  does : {s t : Store} {c : Call} {a : Answer} → Does s c a t → Step s c a t
  writes : {s : Store} {v : ℕ} {m d page : List ℕ} (r : Written) → r ≡ write_for (tested (version_of (listed s) v)) m d page
      → Step s (write v m d page) (written r) s
  looks : {s : Store} {v : ℕ} {page lent : List ℕ} (r : Looked) → r ≡ look_for (tested (version_of (listed s) v)) page lent
      → Step s (look v page lent) (looked r) s
  takes : {s : Store} {v : ℕ} {page m d : List ℕ} (r : Taken) → r ≡ take_for (tested (version_of (listed s) v)) page m d
      → Step s (take v page m d) (taken r) s
  judges : {s : Store} {v : ℕ} {page : List ℕ} {b : ℕ} (r : Judged) → r ≡ judge_for (tested (version_of (listed s) v)) page b
      → Step s (judge v page b) (judged r) s
  claims : {s : Store} {v : ℕ} {page : List ℕ} {b : ℕ} {l : List ℕ} (r : Claimed) → r ≡ claim_for (tested (version_of (listed s) v)) page b l
      → Step s (claim v page b l) (claimed r) s

pub data Steps : Store → List Call → List Answer → Store → Type 0 where
  none : {s : Store} → Steps s [] [] s
  next : {s t u : Store} {c : Call} {cs : List Call} {a : Answer} {rs : List Answer} → Step s c a t → Steps t cs rs u → Steps s (c ∷ cs) (a ∷ rs) u
