-- Tables of the blocks' generators.
--
-- degree-field    fields of one degree are one field
-- generator-same  the test for the same generator holds where field and level are the same
-- table_same      where the test for the same generator holds, a table of the one block's generator is one of the other's
-- table-first     block 0 has the generator of the first shape
-- table-later, table-shape     the blocks after block 0 have one generator
use mathlib.Core.Path.{◌≡◌, refl, sym, ap, ◌∙◌, subst}
use mathlib.Core.Bool.{Bool, true, false, cond}
use mathlib.Core.List.{List}
use Prim.Native.Nat.{ℕ, ◌<◌}
use native.Mathlib.Omega.{arith}
use lib.Dec.{eqb}
use borrow.Author.Tests.{eqb-true}
use Rattle.field.specs.declared.Field.{Field}
use Rattle.field.specs.declared.Field.TheVariants.{Thirteen, Fourteen}
use Rattle.field.specs.Field.{degree}
use Rattle.layout_plan.specs.declared.Shape.{Shape}
use Rattle.layout_plan.specs.declared.Plan.{Plan}
use Rattle.layout_plan.specs.Plan.{shape, field, level}
use Rattle.division_table.specs.Table.{Table}
use Rattle.page_plan.specs.Plans.{Planned}
use Rattle.page_plan.proofs.Plans.{shape-zero}

pub degree-field : (f g : Field) → degree f ≡ degree g → f ≡ g
unfolding degree
degree-field Thirteen Thirteen e = refl
degree-field Thirteen Fourteen e = absurd (omega arith)
degree-field Fourteen Thirteen e = absurd (omega arith)
degree-field Fourteen Fourteen e = refl

pub generator-same : (a b : Shape) {r : Bool} → r ≡ cond (eqb (degree a.field) (degree b.field)) (eqb a.level b.level) false
    → r ≡ true → (a.field ≡ b.field) × (a.level ≡ b.level)
generator-same a b e t = go (eqb (degree a.field) (degree b.field)) refl (sym e ∙ t)
  where
    go : (x : Bool) → eqb (degree a.field) (degree b.field) ≡ x → cond x (eqb a.level b.level) false ≡ true → (a.field ≡ b.field) × (a.level ≡ b.level)
    go true ex l = (degree-field a.field b.field (eqb-true _ _ ex), eqb-true a.level b.level l)
    go false ex l = absurd (let z : ◌≡◌ {A = ℕ} 0 1 = cc in omega arith)

pub table_same : (a b : Shape) {words : List ℕ} {r : Bool} → r ≡ cond (eqb (degree a.field) (degree b.field)) (eqb a.level b.level) false
    → r ≡ true → Table a.field a.level words → Table b.field b.level words
table_same a b e t h = let s = generator-same a b e t in rw (s.0, s.1) at h

pub table-first : (q : Plan) → Planned q → {words : List ℕ} → Table q.first.field q.first.level words → Table (field q 0) (level q 0) words
table-first q p {words} h = subst (λ (s : Shape). Table s.field s.level words) (shape-zero q p) h

pub table-later : (q : Plan) → Planned q → (b : ℕ) {words : List ℕ} → 0 < b → b < q.blocks → Table q.later.field q.later.level words
    → Table (field q b) (level q b) words
table-later q p b l i h = let e = p.behind b l i in rw (e.0, e.1) h

pub table-shape : (q : Plan) → Planned q → (b : ℕ) {s : Shape} {words : List ℕ} → 0 < b → b < q.blocks → s ≡ shape q b → Table q.later.field q.later.level words
    → Table s.field s.level words
table-shape q p b l i e h = rw e (table-later q p b l i h)

-- where block 0 has the generator of the later blocks, block 1 has that of block 0
pub second-same : (q : Plan) → Planned q → {r : Bool} → r ≡ cond (eqb (degree q.first.field) (degree q.later.field)) (eqb q.first.level q.later.level) false
    → r ≡ true → 1 < q.blocks → (field q 1 ≡ field q 0) × (level q 1 ≡ level q 0)
second-same q p e t l =
    let s = generator-same q.first q.later e t in
    let b = p.behind 1 (omega arith) l in
    let z = shape-zero q p in
    (b.0 ∙ sym s.0 ∙ ap (λ (x : Shape). x.field) z, b.1 ∙ sym s.1 ∙ ap (λ (x : Shape). x.level) z)
