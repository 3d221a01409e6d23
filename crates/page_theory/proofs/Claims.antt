-- Claims. "Accepted exactly if they are distinct, each below n, at most t in number, and flipping them gives a codeword.
-- Otherwise 10." (document 01, "Claim")
use Rattle.std.specs.Prelude.{Result}
use Rattle.layout.specs.declared.Refusal.{Refusal}
use Rattle.layout_plan.specs.declared.Layout.{Layout}
use mathlib.Core.Path.{◌≡◌, refl, sym, ap, ◌∙◌}
use mathlib.Core.List.{List}
use Prim.Native.Nat.{ℕ, ◌<◌}
use native.Mathlib.Omega.{arith}
use lib.ListN.{length}
use Rattle.field.specs.declared.Field.{Field}
use Rattle.layout_plan.specs.declared.Plan.{Plan}
use Rattle.layout_plan.specs.Plan.{field, level}
use Rattle.code.specs.Word.{Word}
use Rattle.page_theory.specs.Page.{block_word}
use Rattle.page_theory.specs.Claim.{Right, right?}
use Rattle.page_theory.specs.Damage.{Accepts}
use Rattle.page_theory.specs.Calls.{Claimed, claim_ended, claim_by, claim_in, claim_for}
use Rattle.page_theory.proofs.OneBlock.{block_reply-right}
use Rattle.page_theory.proofs.Accepted.{claim-accepted}

module _ {f : Field} {t : ℕ} {w : Word} {claims : List ℕ} where
  by_right : Right f t w claims → (c : Dec (Right f t w claims)) → claim_by c ≡ claim_ended 0
  unfolding claim_by
  by_right h (yes k) = refl
  by_right h (no k) = absurd (k h)

  by-wrong : (Right f t w claims → ⊥) → (c : Dec (Right f t w claims)) → claim_by c ≡ claim_ended 10
  unfolding claim_by
  by-wrong h (yes k) = absurd (h k)
  by-wrong h (no k) = refl

  by-accepted : (c : Dec (Right f t w claims)) → (claim_by c).reply ≡ 0 → Right f t w claims
  unfolding claim_by
  by-accepted (yes k) e = k
  by-accepted (no k) e = absurd (omega arith)

module _ (q : Plan) (page : List ℕ) (b : ℕ) (size : length page ≡ q.size) (inside : b < q.blocks) (claims : List ℕ) where
  claim-by : claim_in q page b claims ≡ claim_by (right? (field q b) (level q b) (block_word q page b) claims)
  unfolding claim_in
  claim-by = rw (block_reply-right q page b size inside)

  pub claim-right : Right (field q b) (level q b) (block_word q page b) claims → claim_in q page b claims ≡ claim_ended 0
  claim-right h = claim-by ∙ by_right h (right? _ _ _ _)

  pub claim-wrong : (Right (field q b) (level q b) (block_word q page b) claims → ⊥) → claim_in q page b claims ≡ claim_ended 10
  claim-wrong h = claim-by ∙ by-wrong h (right? _ _ _ _)

module _ (a : Result Layout Refusal) (q : Plan) (accepted : Accepts a q) (page : List ℕ) (b : ℕ) (size : length page ≡ q.size) (inside : b < q.blocks)
    (claims : List ℕ) where
  pub accepted-when : Right (field q b) (level q b) (block_word q page b) claims → claim_for a page b claims ≡ claim_ended 0
  accepted-when h = claim-accepted a q accepted page b claims ∙ claim-right q page b size inside claims h

  pub accepted-only : (claim_for a page b claims).reply ≡ 0 → Right (field q b) (level q b) (block_word q page b) claims
  accepted-only e =
      by-accepted (right? _ _ _ _)
      (ap (λ (r : Claimed). r.reply) (sym (claim-accepted a q accepted page b claims ∙ claim-by q page b size inside claims)) ∙ e)

  pub otherwise-ten : (Right (field q b) (level q b) (block_word q page b) claims → ⊥)
      → claim_for a page b claims ≡ claim_ended 10
  otherwise-ten h = claim-accepted a q accepted page b claims ∙ claim-wrong q page b size inside claims h
