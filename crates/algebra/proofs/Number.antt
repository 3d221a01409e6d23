-- Laws of numbers as elements: only 0 stands for the zero, and the operations on numbers are those on elements.
use mathlib.Core.Path.{◌≡◌, sym, ap₂, ◌∙◌}
use Prim.Native.Nat.{ℕ, ◌<◌}
use native.Mathlib.Omega.{arith}
use Rattle.algebra.specs.Field.{BinaryField}
use Rattle.algebra.specs.Number.{Numbers, Below, elem-same, field, el-is, numbers}

pub el-zero : (K : BinaryField) (N : Numbers K) (x : ℕ) → x < N.size → N.el x ≡ K.nil → x ≡ 0
el-zero K N x l h = N.el-same x 0 l (omega (arith, N.more)) (h ∙ sym N.el-nil)

module _ {q : ℕ} {add mul : ℕ → ℕ → ℕ} (B : Below q add mul) where
  pub el-add : (x y : ℕ) → x < q → y < q → (numbers B).el (add x y) ≡ (field B).add ((numbers B).el x) ((numbers B).el y)
  unfolding numbers field
  el-add x y l m = elem-same (el-is B (add x y) (B.add-less _ _ l m) ∙ sym (ap₂ add (el-is B x l) (el-is B y m)))

  pub el-mul : (x y : ℕ) → x < q → y < q → (numbers B).el (mul x y) ≡ (field B).mul ((numbers B).el x) ((numbers B).el y)
  unfolding numbers field
  el-mul x y l m = elem-same (el-is B (mul x y) (B.mul-less _ _ l m) ∙ sym (ap₂ mul (el-is B x l) (el-is B y m)))
