-- Whether the numbers of a plan hold together, for plans of layout words (document 01, "Layout words"; document 02, E8): comparisons of the kept
-- numbers with each other. A plan that passes has what the page calls count on, and that of every accepted layout passes (proofs/Together.antt).
--
-- counted q            block 0 alone has the first shape; at most 256 blocks; metadata as a record can say
-- shaped s             t is even and at most 62, there are no pads, the covered bits are message and parity, and no more than the code allows
-- filled q             no message is empty
-- placed q             the mark lies in the page, and the used bits fit beside it
-- laters q             how many blocks follow block 0
-- summed q             there is a block 0; used bits and payload are the sums over the blocks
-- holds_together q      all of these, of both shapes
use Rattle.std.specs.Prelude.{Bool, ◌&&◌, ◌||◌, ℕ, ◌+◌, ◌-◌, ◌*◌, ◌%◌, eqb, leb, ltb}
use Rattle.field.specs.Field.{degree, longest}
use Rattle.layout_plan.specs.declared.Shape.{Shape}
use Rattle.layout_plan.specs.declared.Plan.{Plan}
use Rattle.layout_plan.specs.Plan.{room, payload}

unfoldable pub counted : Plan → Bool
counted q = eqb q.firsts 1 && leb q.blocks 256 && ltb q.metadata 256

-- At t = 0 there is no code, and a block may have any length.
unfoldable pub shaped : Shape → Bool
shaped s =
    eqb (s.level % 2) 0
    && leb s.level 62
    && eqb s.pads 0
    && eqb s.covered (s.message + degree s.field * s.level)
    && (eqb s.level 0 || leb s.covered (longest s.field))

unfoldable pub filled : Plan → Bool
filled q = ltb 0 q.first.message && (leb q.blocks 1 || ltb 0 q.later.message)

unfoldable pub placed : Plan → Bool
placed q = leb (q.mark.offset + q.mark.length) q.size && leb q.used (room q)

abbrev pub laters : Plan → ℕ
laters q = q.blocks - 1

unfoldable pub summed : Plan → Bool
summed q =
    ltb 0 q.blocks
    && eqb q.used (q.first.covered + laters q * q.later.covered)
    && eqb (q.first.message + laters q * q.later.message) (8 * payload q)

unfoldable pub holds_together : Plan → Bool
holds_together q = counted q && shaped q.first && shaped q.later && filled q && placed q && summed q
