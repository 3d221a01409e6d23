-- Looking for the first damaged block.
use mathlib.Core.Path.{◌≡◌, sym, ap, ◌∙◌}
use mathlib.Core.Bool.{Bool, true, false, not}
use mathlib.Core.List.{List}
use Prim.Native.Nat.{ℕ, ◌+◌, ◌≤◌, ◌<◌}
use native.Mathlib.Decide.{dec_lt}
use native.Mathlib.Nat.{pos_of_ne-zero}
use native.Mathlib.Omega.{arith}
use lib.Dec.{eqb}
use borrow.Author.Tests.{eqb-true, eqb-false, not-true, not-false}
use Rattle.layout_plan.specs.declared.Plan.{Plan}
use Rattle.code.specs.Register.{register}
use Rattle.remainder.specs.declared.Register.{Register}
use Rattle.page_decide.specs.declared.Scan.{Scan}
use Rattle.page_decide.specs.Scanning.{remainder_at, Reached, Scanned}

module _ (q : Plan) (page : List ℕ) where
  -- the blocks from a to b have remainders of zero
  abbrev pub Clean : ℕ → ℕ → Type 0
  Clean a b = (c : ℕ) → a ≤ c → c < b → remainder_at q page c ≡ 0

  -- a block by itself
  pub reached-one : {s : Scan} {b : ℕ} {v : Register} → s.block ≡ b → s.remainder ≡ v → s.known ≡ false → b ≤ q.blocks
      → (b < q.blocks → register v.words ≡ remainder_at q page b) → Reached q page s
  reached-one {s} {b} {v} e er ek i h = record {
    inside = rw e i;
    left = λ k. ap (λ (x : Register). register x.words) er ∙ h (omega arith) ∙ ap (remainder_at q page) (sym e);
    ahead = λ k. absurd (let z : ◌≡◌ {A = ℕ} 0 1 = cc in omega arith);
  }

  -- a test for zero that fails
  pub scanned-found : {from : ℕ} {s : Scan} (z : Bool) → from ≤ s.block → Reached q page s → Clean from s.block
      → z ≡ eqb (register s.remainder.words) 0 → not z ≡ true → Scanned q page from s
  scanned-found z l r h t n = record {
    low = l;
    inside = r.inside;
    clean = h;
    left = r.left;
    damaged = λ k. pos_of_ne-zero (eqb-false _ 0 (sym t ∙ not-true z n));
    ahead = r.ahead;
  }

  -- a test for zero that holds
  pub clean-next : {from b x : ℕ} (z : Bool) → Clean from b → x ≡ remainder_at q page b → z ≡ eqb x 0 → not z ≡ false → Clean from (b + 1)
  clean-next {from} {b} z h e t n k l m = elim (dec_lt k b) [
    | yes y ↦ h k l y
    | no y ↦ (let i : k ≡ b = omega arith in rw i (sym e ∙ eqb-true _ 0 (sym t ∙ not-false z n)))
  ]

  -- no block is left
  pub scanned-end : {from : ℕ} {s : Scan} → from ≤ s.block → q.blocks ≤ s.block → Reached q page s → Clean from s.block → Scanned q page from s
  scanned-end l i r h = record { low = l; inside = r.inside; clean = h; left = r.left; damaged = λ k. absurd (omega arith); ahead = r.ahead }

  -- block 0 before the later ones
  pub scanned-first : {r : Scan} → Clean 0 1 → Scanned q page 1 r → Scanned q page 0 r
  scanned-first {r} h x = record {
    low = omega arith;
    inside = x.inside;
    clean = λ c l m. elim (dec_lt c 1) [ yes y ↦ h c l y | no y ↦ x.clean c (omega arith) m ];
    left = x.left;
    damaged = x.damaged;
    ahead = x.ahead;
  }
