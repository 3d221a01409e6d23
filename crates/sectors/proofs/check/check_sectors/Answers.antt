use mathlib.Core.Path.{sym, ◌∙◌}
use native.Mathlib.Omega.{arith}
use Rattle.sectors.proofs.Answering.{count-range, count-wrong, choice-wrong, edition-wrong, level-wrong, numbers-right}
use Rattle.replies.proofs.Editions.{highest-small}
use Rattle.sectors.proofs.check.check_sectors.Goals as goal

pub returns-then-not-in_count : goal.returns-then-not-in_count
returns-then-not-in_count c = count-wrong _ (sym c.in_count.ensures ∙ c.if-not-in_count.true)

pub returns-then-sectors-gt1 : goal.returns-then-sectors-gt1
returns-then-sectors-gt1 c = choice-wrong _ (sym c.in_count.ensures ∙ c.if-not-in_count.false) c.if-sectors-gt1.true

pub returns-then-not-offered : goal.returns-then-not-offered
returns-then-not-offered c = edition-wrong _ (sym c.in_count.ensures ∙ c.if-not-in_count.false) (omega arith) (sym c.offered.ensures ∙ c.if-not-offered.true)

pub returns-then-limit-found : goal.returns-then-limit-found
returns-then-limit-found c = rw c.highest-limit.ensures (level-wrong _ (rw c.highest-limit.ensures at c.if-limit-found.true))
    ∙ numbers-right _ (sym c.in_count.ensures ∙ c.if-not-in_count.false) (omega arith) (sym c.offered.ensures ∙ c.if-not-offered.false)

pub check_plan-requires : goal.check_plan-requires
check_plan-requires c = let r = count-range _ (sym c.in_count.ensures ∙ c.if-not-in_count.false) in
    (r.0, r.1, omega (arith, c.highest-limit.ensures, highest-small c.args.sectors.edition), omega arith)

pub returns : goal.returns
returns c = c.check_plan.ensures
    ∙ numbers-right _ (sym c.in_count.ensures ∙ c.if-not-in_count.false) (omega arith) (sym c.offered.ensures ∙ c.if-not-offered.false)
