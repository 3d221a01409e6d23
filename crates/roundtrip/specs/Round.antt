-- Writing a page, flipping the bits that a mask names, looking at the page and taking it (document 01, "Damage"; document 02, E6).
-- Given by what must come of it: but for `back_of`, nothing here looks for errors.
--
-- Round, round_ended      how a round trip ends: its answer, and what page, metadata, data and counts hold afterwards
-- Back, back_ended        how looking and then taking end: the reply of the last call, and what metadata, data and counts hold afterwards
-- back_by, back_of         looking at a page, and taking it where the look answers 0
-- round_taken             the page is looked at: the payload comes back
-- round_read              the page is written and the mask allowed: each block's number of named bits, and the payload
-- round_in                the round trip under a plan
-- round_for, round_of      with the answer to a layout record, and with the record itself
use Rattle.std.specs.Prelude.{cond, List, ◌++◌, ℕ, length, eqb, ⊤, Result, Ok, Err}
use Rattle.bits.specs.Bits.{run}
use Rattle.layout_plan.specs.Record.{Words}
use Rattle.layout_plan.specs.declared.Plan.{Plan}
use Rattle.layout_plan.specs.declared.Layout.{Layout}
use Rattle.layout.specs.declared.Refusal.{Refusal}
use Rattle.layout_plan.specs.Plan.{plan_of}
use Rattle.layout.specs.Acceptance.{acceptance, refusal_reply}
use Rattle.page_theory.specs.Page.{page_of}
use Rattle.page_theory.specs.Calls.{write_reply, Looked, look_reply, look_of, Taken, take_reply, take_of}
use Rattle.roundtrip.specs.declared.Failure.{Failure}
use Rattle.roundtrip.specs.declared.Failure.TheVariants.{Refused, Mask}
use Rattle.roundtrip.specs.Mask.{named, allowed, overlaid}

pub record Round : Type 0 where
  pub answer : Result ⊤ Failure
  pub page : List ℕ
  pub metadata : List ℕ
  pub «data» : List ℕ
  pub counts : List ℕ

abbrev pub round_ended : Result ⊤ Failure → List ℕ → List ℕ → List ℕ → List ℕ → Round
round_ended answer page metadata «data» counts =
    record { answer = answer; page = page; metadata = metadata; «data» = «data»; counts = counts }

pub record Back : Type 0 where
  pub reply : ℕ
  pub metadata : List ℕ
  pub «data» : List ℕ
  pub counts : List ℕ

abbrev pub back_ended : ℕ → List ℕ → List ℕ → List ℕ → Back
back_ended reply metadata «data» counts = record { reply = reply; metadata = metadata; «data» = «data»; counts = counts }

unfoldable pub back_by : Looked → Taken → List ℕ → List ℕ → Back
back_by look take metadata «data» =
    cond (eqb look.reply 0)
    (back_ended take.reply take.metadata take.«data» look.counts)
    (back_ended look.reply metadata «data» look.counts)

unfoldable pub back_of : (rec : Words) (page metadata body counts : List ℕ) → Back
back_of rec page metadata body counts = back_by (look_of rec page counts) (take_of rec page metadata body) metadata body

-- m and d are written over the page that is lent; m', d' and c' are lent to look and take into. With outputs of another length nothing is taken.
unfoldable pub round_taken : Plan → (m d mask page m' d' : List ℕ) → Round
round_taken q m d mask page m' d' =
    cond (eqb (take_reply q q.size (length m') (length d')) 0)
    (round_ended (Ok _) (overlaid mask (page_of q page (m ++ d))) m d (run (named q mask) 0 q.blocks))
    (round_ended (Err (Refused (take_reply q q.size (length m') (length d')))) (overlaid mask (page_of q page (m ++ d))) m' d' (run (named q mask) 0 q.blocks))

-- With counts of another length nothing is looked at or taken. The page is left damaged in each case.
unfoldable pub round_read : Plan → (m d mask page m' d' c' : List ℕ) → Round
round_read q m d mask page m' d' c' =
    cond (eqb (look_reply q q.size (length c')) 0)
    (round_taken q m d mask page m' d')
    (round_ended (Err (Refused (look_reply q q.size (length c')))) (overlaid mask (page_of q page (m ++ d))) m' d' c')

-- A page that is not written stays as it was lent. Under a mask that is not allowed the page is left as it was written.
unfoldable pub round_in : Plan → (m d mask page m' d' c' : List ℕ) → Round
round_in q m d mask page m' d' c' =
    cond (eqb (write_reply q (length m) (length d) (length page)) 0)
    (cond (allowed q mask) (round_read q m d mask page m' d' c') (round_ended (Err Mask) (page_of q page (m ++ d)) m' d' c'))
    (round_ended (Err (Refused (write_reply q (length m) (length d) (length page)))) page m' d' c')

unfoldable pub round_for : Result Layout Refusal → (m d mask page m' d' c' : List ℕ) → Round
round_for (Ok l) m d mask page m' d' c' = round_in (plan_of l) m d mask page m' d' c'
round_for (Err r) m d mask page m' d' c' = round_ended (Err (Refused (refusal_reply r))) page m' d' c'

unfoldable pub round_of : (rec : Words) (m d mask page m' d' c' : List ℕ) → Round
round_of rec m d mask page m' d' c' = round_for (acceptance rec) m d mask page m' d' c'
