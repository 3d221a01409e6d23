-- What the remainder of a block says of it: nothing to repair where it is zero, else what locating answers for it.
use mathlib.Core.Path.{◌≡◌, sym, ap, ◌∙◌, subst₂}
use mathlib.Core.Bool.{true}
use mathlib.Core.List.{List, []}
use Prim.Native.Nat.{ℕ, ◌+◌, ◌*◌, ◌^◌, ◌≤◌, ◌<◌}
use native.Mathlib.Omega.{arith}
use native.Mathlib.Decide.{dec_le}
use native.Mathlib.Nat.{mul-zero}
use lib.ListN.{length, take, replicate}
use borrow.Author.Tests.{le-leb, lt-leb}
use Rattle.field.specs.declared.Field.{Field}
use Rattle.field.specs.Field.{degree}
use Rattle.layout_plan.specs.declared.Plan.{Plan}
use Rattle.layout_plan.specs.Plan.{bits, field, level, covered, Valid}
use Rattle.code.specs.Word.{Word, flipped, ones, zeros, Below}
use Rattle.code.specs.Outcome.{erased_count}
use Rattle.code.specs.Generator.{remainder}
use Rattle.code.specs.Locations.{nowhere, locate}
use Rattle.code.proofs.Remainder.{remainder-below}
use Rattle.code.proofs.Locations.{exponents-locate, listed-length, listed_below}
use Rattle.decoder.proofs.Locating.{zero-located}
use Rattle.page_plan.proofs.Plans.{block-fits}
use Rattle.page_theory.specs.Page.{block_word}
use Rattle.page_theory.specs.Reading.{GivesAt, RefusedAt}
use Rattle.page_theory.proofs.Outcomes.{exponents-gives, zeros-gives, zeros-refuses}
use Rattle.page_decide.specs.Scanning.{remainder_at, LocatedAt}
use Rattle.block_outcome.specs.Counts.{erased_at}

-- every word is a codeword of the level 0
pub remainder-none : (f : Field) (t : ℕ) (w : Word) → t ≡ 0 → remainder f t w ≡ 0
remainder-none f t w e =
    let l : remainder f t w < 2 ^ (degree f * t) = remainder-below f t w (omega arith) in
    let k : 2 ^ (degree f * t) ≡ 1 = rw (e, mul-zero (degree f)) in
    omega arith

module _ (q : Plan) (page : List ℕ) where
  pub remainder_at-none : (b : ℕ) → level q b ≡ 0 → remainder_at q page b ≡ 0
  unfolding remainder_at
  remainder_at-none b e = remainder-none (field q b) (level q b) _ e

  module _ (v : Valid q) (b : ℕ) (inside : b < q.blocks) where
    pub remainder_at-below : remainder_at q page b < 2 ^ (degree (field q b) * level q b)
    unfolding remainder_at
    remainder_at-below = remainder-below (field q b) (level q b) _ (v.strong b inside)

    pub located-clean : remainder_at q page b ≡ 0 → LocatedAt q page b []
    located-clean e = rw e (zero-located (field q b) (level q b) (covered q b) (block-fits q v b inside))

    pub located-gives : (ps : List ℕ) → LocatedAt q page b ps
        → GivesAt q page b (take (bits q b) (flipped (block_word q page b) ps)) (length ps)
    unfolding remainder_at
    located-gives ps e = exponents-gives q page v b inside ps e

    -- with no set located, the count of an erased block tells which it is
    module _ (e : locate (field q b) (level q b) (covered q b) (remainder_at q page b) ≡ nowhere) where
      pub nowhere-erased : erased_at q page b < 255 → GivesAt q page b (replicate (bits q b) true) (erased_at q page b)
      unfolding remainder_at erased_at
      nowhere-erased h = elim (dec_le (zeros (block_word q page b)) (level q b)) [
        | yes l ↦ rw (le-leb (zeros (block_word q page b)) (level q b) l) (zeros-gives q page v b inside e l)
        | no l ↦ absurd (let k : 255 < 255 = rw (lt-leb (zeros (block_word q page b)) (level q b) (omega arith)) at h in omega arith)
      ]

      pub nowhere-ruined : 255 ≤ erased_at q page b → RefusedAt q page b
      unfolding remainder_at erased_at erased_count
      nowhere-ruined h = elim (dec_le (zeros (block_word q page b)) (level q b)) [
        | yes l ↦ (let k : 255 ≤ 128 + zeros (block_word q page b) = rw (le-leb (zeros (block_word q page b)) (level q b) l) at h in
            absurd (omega (arith, v.strong b inside)))
        | no l ↦ zeros-refuses q page v b inside e (omega arith)
      ]

  module _ (b : ℕ) (ps : List ℕ) (e : LocatedAt q page b ps) where
    pub located-few : length ps ≤ level q b
    located-few =
        let x = exponents-locate (field q b) (level q b) (covered q b) (remainder_at q page b) ps e in
        let l : length ps ≡ ones x.set = ap length x.list ∙ listed-length x.set in
        omega (arith, x.locates.few)

    pub located-below : Below (covered q b) ps
    located-below =
        let x = exponents-locate (field q b) (level q b) (covered q b) (remainder_at q page b) ps e in
        subst₂ Below x.locates.below (sym x.list) (listed_below x.set)
