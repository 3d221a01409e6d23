-- Results of products and sums on numbers as elements of the field.
use mathlib.Core.Path.{refl, ap₂, ◌∙◌}
use mathlib.Core.List.{List}
use Prim.Native.Nat.{ℕ, ◌^◌, ◌<◌}
use lib.Bits.{bit_xor, xor_lt}
use lib.ListN.{get_or}
use Rattle.algebra.specs.Array.{Small, coef}
use Rattle.field.specs.declared.Field.{Field}
use Rattle.field.specs.Field.{degree, modulus, mul, a^, Elem}
use Rattle.field.proofs.Order.{a^-below}
use Rattle.field.proofs.Primitive.{primitive}
use Rattle.field.proofs.Instance.{gf, num, num-below, below-num, num-add, num-product}
use Rattle.series.specs.Series.{Elements, Represents}

module _ (f : Field) where
  -- an array as a power series
  abbrev pub series : List ℕ → ℕ → (gf f).carrier
  series l = coef (gf f) (num f) l

  pub elements-small : {l : List ℕ} → Elements f l → Small (gf f) (num f) l
  elements-small m = record { full = m.full; small = λ i. num-below f (m.small i) }

  pub small-elements : {l : List ℕ} → Small (gf f) (num f) l → Elements f l
  small-elements m = record { full = m.full; small = λ i. below-num f (m.small i) }

  pub represents-self : {x : ℕ} → x < 2 ^ degree f → Represents f (gf f) (num f) ((num f).el x) x
  represents-self l = record { low = l; is = refl }

  pub represents-entry : {l : List ℕ} → Elements f l → (i : ℕ) → Represents f (gf f) (num f) (series l i) (get_or l i 0)
  unfolding coef
  represents-entry m i = record { low = m.small i; is = refl }

  pub represents-product : {x y r : ℕ} → x < 2 ^ degree f → y < 2 ^ degree f → Elem (degree f) (mul (degree f) (modulus f) x y) r
      → Represents f (gf f) (num f) ((gf f).mul ((num f).el x) ((num f).el y)) r
  represents-product {x} {y} {r} l m e = record { low = e.low; is = num-product f x y r l m e }

  pub represents-sum : {u v : (gf f).carrier} {x y : ℕ} → Represents f (gf f) (num f) u x → Represents f (gf f) (num f) v y → Represents f (gf f) (num f) ((gf f).add u v) (bit_xor x y)
  represents-sum {u} {v} {x} {y} p q = record {
    low = xor_lt (degree f) x y p.low q.low;
    is = num-add f x y p.low q.low ∙ ap₂ (gf f).add p.is q.is;
  }

  -- x a^e
  pub represents-scaled : {x r : ℕ} (e : ℕ) → x < 2 ^ degree f → Elem (degree f) (mul (degree f) (modulus f) x (a^ f e)) r
      → Represents f (gf f) (num f) ((gf f).mul ((num f).el (a^ f e)) ((num f).el x)) r
  represents-scaled {x} {r} e l h =
      let p : Represents f (gf f) (num f) ((gf f).mul ((num f).el x) ((num f).el (a^ f e))) r = represents-product l (a^-below (primitive f) e) h in
      record { low = p.low; is = p.is ∙ (gf f).mul_comm _ _ }
