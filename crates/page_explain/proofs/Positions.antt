-- The page position of an exponent of a block.
--
-- position-told                    it is worked out from the start of the block
-- position-belongs-to              it belongs to the block with that exponent
-- position-page                    it lies in the page
use mathlib.Core.Path.{◌≡◌, ◌∙◌}
use Prim.Native.Nat.{ℕ, ◌+◌, ◌-◌, ◌*◌, ◌<◌}
use Rattle.mark.specs.Mark.{place}
use Rattle.layout_plan.specs.declared.Plan.{Plan}
use Rattle.std.specs.Prelude.{Ok}
use Rattle.layout_plan.specs.Plan.{start, covered, Valid}
use Rattle.layout.specs.Bits.{position_at, position_in}
use Rattle.page_bits.proofs.Inverse.{Belongs, position_in_lem, position-belongs, belongs-page}
use Rattle.page_explain.specs.Explain.{position_of}

module _ (q : Plan) (b e : ℕ) (inside : b < q.blocks) (low : e < covered q b) where
  position-is : position_in q b e ≡ Ok (position_of q b e)
  unfolding position_of
  position-is = position_in_lem q b e inside low

  pub position-belongs-to : Belongs q (position_of q b e) b e
  position-belongs-to = position-belongs q (position_of q b e) b e position-is

  pub position-page : Valid q → position_of q b e < 8 * q.size
  position-page v = belongs-page q v position-belongs-to

  -- by the start of the block and its covered bits
  pub position-told : {s n r : ℕ} → s ≡ start q b → n ≡ covered q b → r ≡ place q.mark (s + (n - 1 - e)) → r ≡ position_of q b e
  unfolding position_of position_at
  position-told es en h = h ∙ rw (es, en)
