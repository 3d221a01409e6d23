-- What no answer depends on (document 01, "Layout words" and "Claim"; document 02, E7): the tail of a page, which is ignored when read, the mark,
-- and the order of a claim; and what a written page has from the lent one, the mark.
--
-- SameBits q page other b      two pages agree in every covered bit of block b
-- SameBlocks a page other      two pages of one length that agree in every covered bit, where a layout is accepted; their tails and marks hold anything
-- SameMark q page other        two pages that hold the same bytes in the mark
-- Reordered claims other       the same list in another order: two neighbours change places, any number of times
use Rattle.layout.specs.declared.Refusal.{Refusal}
use Rattle.std.specs.Prelude.{◌≡◌, List, ◌∷◌, ℕ, ◌+◌, ◌≤◌, ◌<◌, length, get_or, Result, Ok}
use Rattle.mark.specs.Mark.{stream_bit}
use Rattle.layout_plan.specs.declared.Plan.{Plan}
use Rattle.layout_plan.specs.declared.Layout.{Layout}
use Rattle.layout_plan.specs.Plan.{plan_of, covered, start}

abbrev pub SameBits : Plan → List ℕ → List ℕ → ℕ → Type 0
SameBits q page other b = (j : ℕ) → j < covered q b → stream_bit q.mark page (start q b + j) ≡ stream_bit q.mark other (start q b + j)

pub record SameBlocks (a : Result Layout Refusal) (page other : List ℕ) : Type 0 where
  pub size : length page ≡ length other
  pub bits : (l : Layout) → a ≡ Ok l → (b : ℕ) → b < (plan_of l).blocks → SameBits (plan_of l) page other b

pub record SameMark (q : Plan) (page other : List ℕ) : Type 0 where
  pub bytes : (i : ℕ) → q.mark.offset ≤ i → i < q.mark.offset + q.mark.length → get_or page i 0 ≡ get_or other i 0

pub data Reordered : List ℕ → List ℕ → Type 0 where
  same : (xs : List ℕ) → Reordered xs xs
  swap : (x y : ℕ) (xs : List ℕ) → Reordered (x ∷ y ∷ xs) (y ∷ x ∷ xs)
  keep : (x : ℕ) {xs ys : List ℕ} → Reordered xs ys → Reordered (x ∷ xs) (x ∷ ys)
  then : {xs ys zs : List ℕ} → Reordered xs ys → Reordered ys zs → Reordered xs zs
