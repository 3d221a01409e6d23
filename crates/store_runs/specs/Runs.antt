-- Sequences of calls on a store of layouts (document 02, E11), by the plain list, and by what the contracts of the calls say.
--
-- version_of s v        the answer to a layout that a page call gets by the version v: accepted, or 7 where the store does not hold v
-- Call                 a call with what is handed in
-- Answer               what a call answers and leaves of what was lent
-- answer s c           what the plain list answers to a call; after s c: the list afterwards
-- answers s cs         its answers to a sequence of calls; after_all s cs: the list after all of them
-- Does s c a t         a call of the code on the store s answers a and leaves t: its contract
-- Runs s cs rs t       a sequence of calls of the code
use Rattle.std.specs.Prelude.{◌≡◌, List, [], ◌∷◌, ℕ, ⊤, Option, Some, None, Result, Ok, Err}
use Rattle.layout.specs.declared.Refusal.{Refusal}
use Rattle.layout_plan.specs.declared.Layout.{Layout}
use Rattle.layout.specs.declared.Refusal.TheVariants as refusal
use Rattle.layout_plan.specs.Record.{Words}
use Rattle.page_theory.specs.Calls.{Written, write_for, Looked, look_for, Taken, take_for, Judged, judge_for, Claimed, claim_for}
use Rattle.version_list.specs.declared.Numbered.{Numbered}
use Rattle.store.specs.declared.Store.{Store}
use Rattle.store.specs.declared.Refusal as store_refusal
use Rattle.version_list.specs.Plain.{Listed, Ended, ended, find, store_of, remove_of, set_of, use_of}
use Rattle.version_bytes.specs.Saved.{Saving, saving, save_of, load_of}
use Rattle.store.specs.Answers.{verdict_reply, answer_version, listed}

-- The kept plan is the layout; no record is read. An unknown version is a number out of its range, before everything else.
unfoldable pub lookup_answer : Option Numbered → Result Layout Refusal
lookup_answer (Some e) = Ok (record { plan = e.plan })
lookup_answer None = Err refusal.Range

unfoldable pub version_of : Listed → ℕ → Result Layout Refusal
version_of s v = lookup_answer (find s.layouts v)

-- The numbers and buffers are those of the calls; a page call names its version first.
pub data Call : Type 0 where
  store : Words → Call
  remove : ℕ → Call
  set : ℕ → ℕ → Call
  in_use : ℕ → Call
  save : List ℕ → Call
  load : List ℕ → Call
  write : ℕ → List ℕ → List ℕ → List ℕ → Call
  look : ℕ → List ℕ → List ℕ → Call
  take : ℕ → List ℕ → List ℕ → List ℕ → Call
  judge : ℕ → List ℕ → ℕ → Call
  claim : ℕ → List ℕ → ℕ → List ℕ → Call

pub data Answer : Type 0 where
  numbers : ℕ → ℕ → Answer
  saved : Saving → Answer
  written : Written → Answer
  looked : Looked → Answer
  taken : Taken → Answer
  judged : Judged → Answer
  claimed : Claimed → Answer

-- Reply and version.
abbrev pub told : Ended → Answer
told r = numbers r.reply r.version

unfoldable pub answer : Listed → Call → Answer
answer s (store w) = told (store_of s w)
answer s (remove v) = told (remove_of s v)
answer s (set c v) = told (set_of s c v)
answer s (in_use c) = told (use_of s c)
answer s (save lent) = saved (save_of s lent)
answer s (load bytes) = told (load_of s bytes)
answer s (write v m d page) = written (write_for (version_of s v) m d page)
answer s (look v page lent) = looked (look_for (version_of s v) page lent)
answer s (take v page m d) = taken (take_for (version_of s v) page m d)
answer s (judge v page b) = judged (judge_for (version_of s v) page b)
answer s (claim v page b claims) = claimed (claim_for (version_of s v) page b claims)

-- Storing, removing, setting and loading change the list, and no other call does.
unfoldable pub after : Listed → Call → Listed
after s (store w) = (store_of s w).store
after s (remove v) = (remove_of s v).store
after s (set c v) = (set_of s c v).store
after s (in_use c) = s
after s (save lent) = s
after s (load bytes) = (load_of s bytes).store
after s (write v m d page) = s
after s (look v page lent) = s
after s (take v page m d) = s
after s (judge v page b) = s
after s (claim v page b claims) = s

unfoldable pub answers : Listed → List Call → List Answer
answers s [] = []
answers s (c ∷ cs) = answer s c ∷ answers (after s c) cs

unfoldable pub after_all : Listed → List Call → Listed
after_all s [] = s
after_all s (c ∷ cs) = after_all (after s c) cs

-- The contracts of the calls, each with the premise that its function ensures.
pub data Does : Store → Call → Answer → Store → Type 0 where
  stores : {s t : Store} {w : Words} (r : Result ℕ store_refusal.Refusal)
      → ended (verdict_reply r) (answer_version r) (listed t) ≡ store_of (listed s) w
      → Does s (store w) (numbers (verdict_reply r) (answer_version r)) t
  removes : {s t : Store} {v : ℕ} (r : Result ⊤ store_refusal.Refusal) → ended (verdict_reply r) 0 (listed t) ≡ remove_of (listed s) v
      → Does s (remove v) (numbers (verdict_reply r) 0) t
  sets : {s t : Store} {c v : ℕ} (r : Result ⊤ store_refusal.Refusal) → ended (verdict_reply r) 0 (listed t) ≡ set_of (listed s) c v
      → Does s (set c v) (numbers (verdict_reply r) 0) t
  tells : {s : Store} {c : ℕ} (r : Result ℕ store_refusal.Refusal) → ended (verdict_reply r) (answer_version r) (listed s) ≡ use_of (listed s) c
      → Does s (in_use c) (numbers (verdict_reply r) (answer_version r)) s
  saves : {s : Store} {lent : List ℕ} (r : Result ⊤ store_refusal.Refusal) (bytes : List ℕ) → saving (verdict_reply r) bytes ≡ save_of (listed s) lent
      → Does s (save lent) (saved (saving (verdict_reply r) bytes)) s
  loads : {s t : Store} {bytes : List ℕ} (r : Result ⊤ store_refusal.Refusal) → ended (verdict_reply r) 0 (listed t) ≡ load_of (listed s) bytes
      → Does s (load bytes) (numbers (verdict_reply r) 0) t
  writes : {s : Store} {v : ℕ} {m d page : List ℕ} (r : Written) → r ≡ write_for (version_of (listed s) v) m d page → Does s (write v m d page) (written r) s
  looks : {s : Store} {v : ℕ} {page lent : List ℕ} (r : Looked) → r ≡ look_for (version_of (listed s) v) page lent → Does s (look v page lent) (looked r) s
  takes : {s : Store} {v : ℕ} {page m d : List ℕ} (r : Taken) → r ≡ take_for (version_of (listed s) v) page m d → Does s (take v page m d) (taken r) s
  judges : {s : Store} {v : ℕ} {page : List ℕ} {b : ℕ} (r : Judged) → r ≡ judge_for (version_of (listed s) v) page b → Does s (judge v page b) (judged r) s
  claims : {s : Store} {v : ℕ} {page : List ℕ} {b : ℕ} {l : List ℕ} (r : Claimed) → r ≡ claim_for (version_of (listed s) v) page b l
      → Does s (claim v page b l) (claimed r) s

pub data Runs : Store → List Call → List Answer → Store → Type 0 where
  none : {s : Store} → Runs s [] [] s
  next : {s t u : Store} {c : Call} {cs : List Call} {a : Answer} {rs : List Answer} → Does s c a t → Runs t cs rs u → Runs s (c ∷ cs) (a ∷ rs) u
