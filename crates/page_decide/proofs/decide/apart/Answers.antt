use mathlib.Core.Path.{◌≡◌, sym, ◌∙◌}
use Prim.Native.Nat.{ℕ}
use native.Mathlib.Omega.{arith}
use native.Mathlib.Nat.{pos_of_ne-zero}
use borrow.Author.Tests.{eqb-true, not-false}
use Rattle.page_decide.proofs.Deciding.{later-field, same-field}
use Rattle.page_decide.proofs.decide.apart.Goals as goal

pub returns-then-block-ne0 : goal.returns-then-block-ne0
returns-then-block-ne0 c = (λ e. later-field _ _ c.requires (pos_of_ne-zero c.if-block-ne0.true), λ e. absurd (let z : ◌≡◌ {A = ℕ} 0 1 = cc in omega arith))

pub returns : goal.returns
returns c = (
  λ e. same-field _ _ c.requires (sym c.degree-m.ensures ∙ eqb-true _ _ (not-false _ e) ∙ c.degree-n.ensures),
  λ e. c.if-block-ne0.false,
)
