-- Laws of plans: how long blocks are and where they start.
use mathlib.Core.Path.{◌≡◌, refl, sym, ap, ◌∙◌}
use mathlib.Core.Logic.{⊎_elim}
use Prim.Native.Nat.{ℕ, zero, suc, ◌+◌, ◌-◌, ◌*◌, ◌≤◌, ◌<◌}
use native.Mathlib.Omega.{arith}
use native.Mathlib.Nat.{suc-mul, zero-mul, mul-le-mul, eq-or-lt_of_le}
use borrow.Author.Tests.{eq-eqb, ne_eqb, lt-ltb, le-ltb}
use Rattle.field.specs.Field.{degree}
use Rattle.field.specs.declared.Field.{Field}
use Rattle.field.specs.declared.Field.TheVariants.{Thirteen, Fourteen}
use Rattle.layout_plan.specs.declared.BlockFields.{BlockFields}
use Rattle.layout_plan.specs.declared.Fields.{Fields}
use Rattle.layout_plan.specs.declared.Shape.{Shape}
use Rattle.layout_plan.specs.declared.Plan.{Plan}
use Rattle.layout_plan.specs.Plan.{shape_with, shape_of, later_shape, shape, bits, covered, pads, start, from}

pub degree-small : (f : Field) → degree f ≤ 14
unfolding degree
degree-small Thirteen = omega arith
degree-small Fourteen = omega arith

-- a product of two bounded numbers
pub product_le : (A B : ℕ) {a b : ℕ} → a ≤ A → b ≤ B → a * b ≤ A * B
product_le A B h k = mul-le-mul h k

-- what the types of a block's fields allow
pub shape-small : (metadata : ℕ) (fields : BlockFields) → metadata < 256 → fields.units < 65536 → fields.ecc < 256 → (shape_of metadata fields).covered < 16777216
unfolding shape_of shape_with
shape-small metadata fields m u e = let p = product_le 14 510 {a = degree fields.gf} {b = 2 * fields.ecc} (degree-small fields.gf) (omega arith) in omega arith

-- the shape of a later block, where there is none and where there are some
pub later-none : (f : Fields) → f.nblocks ≡ 0 → later_shape f ≡ shape_with 0 Thirteen 0
unfolding later_shape
later-none f e = simp (eq-eqb f.nblocks 0 e)

pub later-some : (f : Fields) → 0 < f.nblocks → later_shape f ≡ shape_of 0 f.later
unfolding later_shape
later-some f n = simp (ne_eqb f.nblocks 0 (λ e. omega arith))

-- the bits from the start of a block of this shape to the next block's
abbrev pub pitch : Shape → ℕ
pitch s = s.covered + s.pads

module _ (q : Plan) where
  -- the block after b starts where the pads of b end
  pub start-next : (b : ℕ) → start q (suc b) ≡ start q b + (covered q b + pads q b)
  unfolding start
  start-next b = refl

  pub start-zero : start q 0 ≡ 0
  unfolding start
  start-zero = refl

  -- the shapes of the first blocks and of the others
  pub shape-first : (b : ℕ) → b < q.firsts → q.first ≡ shape q b
  unfolding shape
  shape-first b h = simp (lt-ltb b q.firsts h)

  pub shape-later : (b : ℕ) → q.firsts ≤ b → q.later ≡ shape q b
  unfolding shape
  shape-later b h = simp (le-ltb b q.firsts h)

  -- where a block starts, by products
  pub start-firsts : (b : ℕ) → b ≤ q.firsts → start q b ≡ b * pitch q.first
  start-firsts zero h = omega (arith, zero-mul (pitch q.first), start-zero)
  start-firsts (suc b) h =
      let e : pitch q.first ≡ pitch (shape q b) = ap (λ (s : Shape). pitch s) (shape-first b (omega arith)) in
      let n = suc-mul b (pitch q.first) in
      omega (arith, start-firsts b (omega arith), start-next b)

  pub start-laters : (k : ℕ) → start q (q.firsts + k) ≡ q.firsts * pitch q.first + k * pitch q.later
  start-laters zero =
      let e : q.firsts + 0 ≡ q.firsts = omega arith in
      rw e (omega (arith, zero-mul (pitch q.later), start-firsts q.firsts (omega arith)))
  start-laters (suc k) =
      let n : q.firsts + suc k ≡ suc (q.firsts + k) = omega arith in
      let e : pitch q.later ≡ pitch (shape q (q.firsts + k)) = ap (λ (s : Shape). pitch s) (shape-later (q.firsts + k) (omega arith)) in
      let m = suc-mul k (pitch q.later) in
      rw n (omega (arith, start-laters k, start-next (q.firsts + k)))

  -- the same of a block number as code has it
  pub start-product : (b : ℕ) → q.firsts ≤ b → q.firsts * pitch q.first + (b - q.firsts) * pitch q.later ≡ start q b
  start-product b h = let e : q.firsts + (b - q.firsts) ≡ b = omega arith in sym (start-laters (b - q.firsts)) ∙ ap (start q) e

  -- blocks do not overlap
  pub start-order : (b c : ℕ) → b < c → start q b + covered q b ≤ start q c
  start-order b zero h = absurd (omega arith)
  start-order b (suc c) h =
      let e = start-next c in
      ⊎_elim
      (λ (p : b ≡ c). rw p (omega arith))
      (λ (p : b < c). let r = start-order b c p in omega arith)
      (eq-or-lt_of_le {n = b} {m = c} (omega arith))

  pub start_up : (b c : ℕ) → b ≤ c → start q b ≤ start q c
  start_up b c h = ⊎_elim (λ (p : b ≡ c). rw p (omega arith)) (λ (p : b < c). let r = start-order b c p in omega arith) (eq-or-lt_of_le h)

  -- where a message starts in the payload, the same way
  pub from-firsts : (b : ℕ) → b ≤ q.firsts → from q b ≡ b * q.first.message
  unfolding from
  from-firsts zero h = omega (arith, zero-mul q.first.message)
  from-firsts (suc b) h =
      let e : q.first.message ≡ bits q b = ap (λ (s : Shape). s.message) (shape-first b (omega arith)) in
      let n = suc-mul b q.first.message in
      omega (arith, from-firsts b (omega arith))

  pub from-laters : (k : ℕ) → from q (q.firsts + k) ≡ q.firsts * q.first.message + k * q.later.message
  from-laters zero =
      let e : q.firsts + 0 ≡ q.firsts = omega arith in
      rw e (omega (arith, zero-mul q.later.message, from-firsts q.firsts (omega arith)))
  from-laters (suc k) =
      let n : q.firsts + suc k ≡ suc (q.firsts + k) = omega arith in
      let e : q.later.message ≡ bits q (q.firsts + k) = ap (λ (s : Shape). s.message) (shape-later (q.firsts + k) (omega arith)) in
      let m = suc-mul k q.later.message in
      let f : from q (suc (q.firsts + k)) ≡ from q (q.firsts + k) + bits q (q.firsts + k) = unfold from in refl in
      rw n (omega (arith, from-laters k))
