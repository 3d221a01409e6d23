-- The numbers that the answers about a layout record hold fit the answer word: a block is below 256, an exponent below 2^16 and a position
-- below 2^19, since a record is made of bytes.
use mathlib.Core.Path.{◌≡◌, refl}
use mathlib.Core.Logic.{⊎_elim}
use mathlib.Core.Bool.{Bool, true, false, cond}
use Prim.Native.Nat.{ℕ, ◌*◌, ◌≤◌, ◌<◌}
use native.Mathlib.Omega.{arith}
use native.Mathlib.Nat.{eq-zero-or-pos}
use lib.ListN.{get_or}
use lib.Dec.{ltb}
use Rattle.field.specs.Field.{degree}
use Rattle.layout_plan.specs.declared.BlockFields.{BlockFields}
use Rattle.layout_plan.specs.declared.Layout.{Layout}
use Rattle.layout_plan.specs.declared.Plan.{Plan}
use Rattle.std.specs.Prelude.{Result, Ok, Err}
use Rattle.layout.specs.declared.Refusal.{Refusal}
use Rattle.layout.specs.declared.BitPlace.TheVariants as bit
use Rattle.layout_plan.specs.Record.{Words, block_fields, fields_at, fields_under, fields_in}
use Rattle.layout_plan.specs.Plan.{shape_with, shape_of, later_shape, plan_for, plan_of, shape, covered}
use Rattle.layout.specs.Acceptance.{acceptance}
use Rattle.layout.specs.Bits.{bit_answer, bit_for, position_answer, position_for}
use Rattle.layout_plan.proofs.Plans.{degree-small, product_le, later-none, later-some}
use Rattle.layout.proofs.Accepting.{accepted-plan, accepted-valid}
use Rattle.page_bits.proofs.Inverse.{bit-belongs, position-belongs, belongs-page, exponent-low}

-- a plan whose numbers are as small as a record of bytes makes them
pub record Narrow (q : Plan) : Type 0 where
  pub blocks : q.blocks ≤ 256
  pub size : q.size < 65536
  pub covered : (b : ℕ) → covered q b < 65536

shape-low : (metadata : ℕ) (fields : BlockFields) → metadata < 256 → fields.ecc < 32 → fields.units < 1024 → (shape_of metadata fields).covered < 65536
unfolding shape_of shape_with
shape-low metadata fields m e u = let p = product_le 14 62 {a = degree fields.gf} {b = 2 * fields.ecc} (degree-small fields.gf) (omega arith) in omega arith

module _ (rec : Words) (bytes : (i : ℕ) → get_or rec.bytes i 0 < 256) where
  first-low : (shape_of (fields_in rec).metadata (fields_in rec).first).covered < 65536
  unfolding fields_under fields_at block_fields
  first-low = shape-low _ _ (bytes 1) (omega (arith, bytes 2)) (omega (arith, bytes 2, bytes 3))

  later-low : (later_shape (fields_in rec)).covered < 65536
  unfolding fields_under fields_at block_fields
  later-low =
      ⊎_elim
      (λ (e : (fields_in rec).nblocks ≡ 0). rw (later-none (fields_in rec) e) (unfold shape_with in omega arith))
      (λ (k : 0 < (fields_in rec).nblocks). rw (later-some (fields_in rec) k) (shape-low _ _ (omega arith) (omega (arith, bytes 6)) (omega (arith, bytes 6, bytes 7))))
      (eq-zero-or-pos (fields_in rec).nblocks)

  narrow : Narrow (plan_for (fields_in rec))
  unfolding plan_for fields_under fields_at shape
  narrow = record { blocks = omega (arith, bytes 0); size = omega (arith, bytes 4, bytes 5); covered = λ b. go (ltb b 1) }
    where
      go : (x : Bool) → (cond x (shape_of (fields_in rec).metadata (fields_in rec).first) (later_shape (fields_in rec))).covered < 65536
      go true = first-low
      go false = later-low

  pub accepted-narrow : (l : Layout) → acceptance rec ≡ Ok l → Narrow (plan_of l)
  accepted-narrow l h = rw (accepted-plan rec l h) narrow

pub blocks-low : (l : Layout) → Narrow (plan_of l) → (plan_of l).blocks ≤ 256
blocks-low l n = n.blocks

-- block and exponent of a page bit
pub record Located (b e : ℕ) : Type 0 where
  pub block : b < 256
  pub exponent : e < 65536

module _ (rec : Words) (bytes : (i : ℕ) → get_or rec.bytes i 0 < 256) where
  pub bit-low : (p b e : ℕ) → bit_answer rec p ≡ Ok (bit.InBlock b e) → Located b e
  unfolding bit_answer bit_for
  bit-low p b e h = go (acceptance rec) refl h
    where
      go : (a : Result Layout Refusal) → acceptance rec ≡ a → bit_for a p ≡ Ok (bit.InBlock b e) → Located b e
      go (Ok l) k x =
          let n = accepted-narrow rec bytes l k in
          let at = bit-belongs (plan_of l) p b e x in
          record {
            block = omega (arith, at.number, n.blocks);
            exponent = omega (arith, at.exponent, exponent-low (plan_of l) at.lies, n.covered b);
          }
      go (Err r) k x = let z : ◌≡◌ {A = ℕ} 0 1 = cc x in absurd (omega arith)

  pub position-low : (p b e : ℕ) → position_answer rec b e ≡ Ok p → p < 524288
  unfolding position_answer position_for
  position-low p b e h = go (acceptance rec) refl h
    where
      go : (a : Result Layout Refusal) → acceptance rec ≡ a → position_for a b e ≡ Ok p → p < 524288
      go (Ok l) k x =
          let inside = belongs-page (plan_of l) (accepted-valid rec l k) (position-belongs (plan_of l) p b e x) in
          omega (arith, (accepted-narrow rec bytes l k).size)
      go (Err r) k x = let z : ◌≡◌ {A = ℕ} 0 1 = cc x in absurd (omega arith)
