-- How a claim is answered.
use mathlib.Core.Path.{◌≡◌, sym}
use mathlib.Core.Bool.{Bool, true, false}
use mathlib.Core.List.{List}
use Prim.Native.Nat.{ℕ, ◌-◌, ◌<◌}
use lib.ListN.{length}
use borrow.Author.Tests.{ne_eqb}
use Rattle.bits.specs.Decides.{Decides}
use Rattle.bits.specs.Bits.{run}
use Rattle.mark.specs.Mark.{stream_bit}
use Rattle.replies.specs.declared.Refusal.{Refusal}
use Rattle.replies.specs.Replies.{number}
use Rattle.layout_plan.specs.declared.Shape.{Shape}
use Rattle.layout_plan.specs.declared.Plan.{Plan}
use Rattle.layout_plan.specs.Plan.{shape, field, level, start}
use Rattle.page_theory.specs.Page.{block_word}
use Rattle.page_theory.specs.Claim.{Right}
use Rattle.page_theory.specs.Calls.{block_reply, claim_ended, claim_in}
use Rattle.page_theory.proofs.Claims.{claim-right, claim-wrong}
use Rattle.page_plan.proofs.Asking.{number-some}

pub claim-refused : (q : Plan) (page : List ℕ) (b : ℕ) (claims : List ℕ) (r : Refusal) → number r ≡ block_reply q (length page) b
    → claim_ended (number r) ≡ claim_in q page b claims
unfolding claim_in
claim-refused q page b claims r e = rw (← e, ne_eqb _ 0 (number-some r))

module _ (q : Plan) (page : List ℕ) (b : ℕ) (size : length page ≡ q.size) (inside : b < q.blocks) (claims : List ℕ) {s : Shape} {position : ℕ} (es : s ≡ shape q b)
    (ep : position ≡ start q b) {r : Bool} (h : Decides r (Right s.field s.level (run (stream_bit q.mark page) position s.covered) claims)) where
  block-decided : Decides r (Right (field q b) (level q b) (block_word q page b) claims)
  unfolding block_word
  block-decided = rw (es, ep) at h

  pub claim-accepted : r ≡ true → claim_ended 0 ≡ claim_in q page b claims
  claim-accepted e = sym (claim-right q page b size inside claims (block-decided.holds e))

  pub claim-rejected : r ≡ false → claim_ended 10 ≡ claim_in q page b claims
  claim-rejected e = sym (claim-wrong q page b size inside claims (block-decided.fails e))
