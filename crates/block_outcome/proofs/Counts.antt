-- Laws of a block's count.
--
-- block-locatable                     a block has room for its parity
-- erased_at-range                      the count of a block with no codeword near is no number of flips, and fits a byte
-- erased_at-counted                    this count, from the zeros counted up to t + 1
-- count_at-located, count_at-nowhere    the count of a block by what was found for it
use mathlib.Core.Path.{◌≡◌, ap, ◌∙◌}
use mathlib.Core.Bool.{true, false}
use mathlib.Core.List.{List}
use Prim.Native.Nat.{ℕ, suc, ◌+◌, ◌*◌, ◌^◌, ◌≤◌, ◌<◌}
use native.Mathlib.Omega.{arith}
use native.Mathlib.Decide.{dec_le}
use native.Mathlib.Numerals.{add-one}
use borrow.Author.Tests.{le-leb, lt-leb}
use Rattle.field.specs.Field.{degree}
use Rattle.layout_plan.specs.declared.Plan.{Plan}
use Rattle.layout_plan.specs.Plan.{field, level, covered, Valid}
use Rattle.code.specs.Word.{zeros, zeros_to}
use Rattle.code.specs.Outcome.{erased_count}
use Rattle.code.proofs.Zeros.{zeros_to-few, zeros_to-many}
use Rattle.decoder.specs.declared.Found.{Found}
use Rattle.decoder.specs.Locating.{Locatable}
use Rattle.page_plan.proofs.Plans.{block-fits}
use Rattle.page_theory.specs.Page.{block_word}
use Rattle.block_outcome.specs.Counts.{erased_at, count_at}

pub block-locatable : (q : Plan) → Valid q → (b x : ℕ) → b < q.blocks → x < 2 ^ (degree (field q b) * level q b)
    → Locatable (field q b) (level q b) (covered q b) x
block-locatable q v b x inside low = record { fits = block-fits q v b inside; room = omega (arith, v.sums b); low = low }

module _ (q : Plan) (page : List ℕ) where
  module _ (v : Valid q) (b : ℕ) (inside : b < q.blocks) where
    -- such a count is no number of flips, and fits a byte
    pub erased_at-range : (128 ≤ erased_at q page b) × (erased_at q page b ≤ 255)
    unfolding erased_at erased_count
    erased_at-range = elim (dec_le (zeros (block_word q page b)) (level q b)) [
      | yes l ↦ (let t = v.strong b inside in rw (le-leb (zeros (block_word q page b)) (level q b) l) (omega arith, omega arith))
      | no l ↦ rw (lt-leb (zeros (block_word q page b)) (level q b) (omega arith)) (omega arith, omega arith)
    ]

  -- the count of an erased block, from its zeros counted up to t + 1
  erased_at-few : (b : ℕ) {z t : ℕ} → t ≡ level q b → z ≡ zeros_to (t + 1) (block_word q page b) → z ≤ t → 128 + z ≡ erased_at q page b
  unfolding erased_at erased_count
  erased_at-few b {z} {t} et ez l =
      let w = block_word q page b in
      let k : zeros_to (suc t) w ≤ t = rw (ez, add-one t) at l in
      let s : z ≡ zeros w = ez ∙ ap (λ n. zeros_to n w) (add-one t) ∙ zeros_to-few t w k in
      rw (le-leb (zeros w) (level q b) (omega arith)) (ap (λ n. 128 + n) s)

  erased_at-many : (b : ℕ) {z t : ℕ} → t ≡ level q b → z ≡ zeros_to (t + 1) (block_word q page b) → t < z → 255 ≡ erased_at q page b
  unfolding erased_at
  erased_at-many b {z} {t} et ez l =
      let w = block_word q page b in
      let m = zeros_to-many t w (rw (ez, add-one t) at l) in
      rw (lt-leb (zeros w) (level q b) (omega arith))

  pub erased_at-counted : (b : ℕ) {z t n : ℕ} → t ≡ level q b → z ≡ zeros_to (t + 1) (block_word q page b)
      → (z ≤ t → n ≡ 128 + z) → (t < z → n ≡ 255) → n ≡ erased_at q page b
  erased_at-counted b {z} {t} et ez few many = elim (dec_le z t) [
    | yes l ↦ few l ∙ erased_at-few b et ez l
    | no l ↦ (let m : t < z = omega arith in many m ∙ erased_at-many b et ez m)
  ]

module _ (q : Plan) (page : List ℕ) (b : ℕ) (r : Found) {n : ℕ} where
  pub count_at-located : r.located ≡ true → n ≡ r.count → n ≡ count_at q page b r
  unfolding count_at
  count_at-located e k = rw e k

  pub count_at-nowhere : r.located ≡ false → n ≡ erased_at q page b → n ≡ count_at q page b r
  unfolding count_at
  count_at-nowhere e k = rw e k
