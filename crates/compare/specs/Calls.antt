-- What the two calls on two pages answer and leave (document 02, E10), as functions of everything that is lent. Of several replies the first
-- in the order 7 for the edition, 6 for the record, 1, 2, 3, 11, 4, 5, 6 is given. A ruined block is no refusal: reply 9 is never given.
-- A refused comparison leaves the lent counts as they were.
--
-- pages_reply q first second      the reply to the lengths of the two pages: 5, or 6 for PAGE_SIZE above 16,384
-- counts_reply q first second     the reply to the lengths of the lent counts: 6
-- Compared, compared             what a comparison ends with: the reply, and what the lent counts hold
-- compare_lent, compare_in, compare_for, compare_of     the comparison, with pages of right lengths, under a plan, with the answer to a record, with
--                                the record itself and the edition beside it
-- Found, found                   the reply to a position, and the next one; beside a refusal there is none
-- difference_in, difference_for, difference_of         the next position, under a plan, with the answer to a record, with the record
-- found_by r                      reply and position of an answer
use Rattle.std.specs.Prelude.{cond, List, ℕ, length, eqb, leb, Option, None, Result, Ok, Err}
use Rattle.replies.specs.declared.Refusal.{Refusal}
use Rattle.replies.specs.Replies.{number, unless}
use Rattle.layout_plan.specs.Record.{Words}
use Rattle.layout_plan.specs.declared.Plan.{Plan}
use Rattle.layout_plan.specs.declared.Layout.{Layout}
use Rattle.layout.specs.declared.Refusal as kinds
use Rattle.layout_plan.specs.Plan.{plan_of}
use Rattle.layout.specs.Acceptance.{acceptance, refusal_reply}
use Rattle.page_theory.specs.Reading.{counts}
use Rattle.differences.specs.Differences.{next}

-- Pages of up to 16,384 bytes.
unfoldable pub pages_reply : Plan → ℕ → ℕ → ℕ
pages_reply q first second =
    unless (eqb first q.size) 5
    (unless (eqb second q.size) 5
    (unless (leb q.size 16384) 6
    0))

-- One count a block.
unfoldable pub counts_reply : Plan → ℕ → ℕ → ℕ
counts_reply q first second =
    unless (eqb first q.blocks) 6
    (unless (eqb second q.blocks) 6
    0)

pub record Compared : Type 0 where
  pub reply : ℕ
  pub first : List ℕ
  pub second : List ℕ

abbrev pub compared : ℕ → List ℕ → List ℕ → Compared
compared reply first second = record { reply = reply; first = first; second = second }

unfoldable pub compare_lent : Plan → List ℕ → List ℕ → List ℕ → List ℕ → Compared
compare_lent q first second lent other =
    cond (eqb (counts_reply q (length lent) (length other)) 0)
    (compared 0 (counts q first) (counts q second))
    (compared (counts_reply q (length lent) (length other)) lent other)

unfoldable pub compare_in : Plan → List ℕ → List ℕ → List ℕ → List ℕ → Compared
compare_in q first second lent other =
    cond (eqb (pages_reply q (length first) (length second)) 0)
    (compare_lent q first second lent other)
    (compared (pages_reply q (length first) (length second)) lent other)

unfoldable pub compare_for : Result Layout kinds.Refusal → List ℕ → List ℕ → List ℕ → List ℕ → Compared
compare_for (Ok l) first second lent other = compare_in (plan_of l) first second lent other
compare_for (Err r) first second lent other = compared (refusal_reply r) lent other

unfoldable pub compare_of : Words → List ℕ → List ℕ → List ℕ → List ℕ → Compared
compare_of rec first second lent other = compare_for (acceptance rec) first second lent other

pub record Found : Type 0 where
  pub reply : ℕ
  pub next : Option ℕ

abbrev pub found : ℕ → Option ℕ → Found
found reply d = record { reply = reply; next = d }

unfoldable pub difference_in : Plan → List ℕ → List ℕ → ℕ → Found
difference_in q first second p =
    cond (eqb (pages_reply q (length first) (length second)) 0)
    (found 0 (next q.mark q.size first second p))
    (found (pages_reply q (length first) (length second)) None)

unfoldable pub difference_for : Result Layout kinds.Refusal → List ℕ → List ℕ → ℕ → Found
difference_for (Ok l) first second p = difference_in (plan_of l) first second p
difference_for (Err r) first second p = found (refusal_reply r) None

unfoldable pub difference_of : Words → List ℕ → List ℕ → ℕ → Found
difference_of rec first second p = difference_for (acceptance rec) first second p

unfoldable pub found_by : Result (Option ℕ) Refusal → Found
found_by (Ok d) = found 0 d
found_by (Err r) = found (number r) None
