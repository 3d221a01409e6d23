use mathlib.Core.Path.{◌≡◌, refl, ◌∙◌}
use native.Mathlib.Omega.{arith}
use Rattle.page_copy.proofs.Messages.{joined-start, joined-texts}
use Rattle.page_copy.proofs.copy.copy_messages.Goals as goal

pub loop-b-init : goal.loop-b-init
loop-b-init c = joined-start _ _ _ _ (record { count = refl; small = λ i. (c.slice_known-1.given i).fits })
    (record { count = refl; small = λ i. (c.slice_known-2-1.given i).fits })

pub copy_message-requires : goal.copy_message-requires
copy_message-requires c = let l = c.loop-b in
    let j = l.invariant in
    (c.requires.0, c.loop-b-test.true, j.metadata ∙ c.requires.1, j.«data» ∙ c.requires.2)

pub loop-b-preserved : goal.loop-b-preserved
loop-b-preserved c = let l = c.loop-b in
    joined-texts _ _ _ _ l.b l.invariant c.copy_message.ensures

pub returns : goal.returns
returns c = let l = c.loop-b in
    let e : l.b ≡ c.args.plan.blocks = omega arith in
    rw e at l.invariant
