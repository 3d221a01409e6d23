-- Inner promises: numbers as elements of a field, as code computes with them.
--   Numbers K        numbers below `size` stand for elements of K, 0 for the zero and 1 for the unit
--   Below q add mul  what is to be shown of operations on the numbers below q for these to be a field
--   Elem q           the numbers below q
--   field B          the field of the numbers below q
--   el B x           the number x as an element of it
--   numbers B        its elements as numbers
use Rattle.std.specs.Prelude.{◌≡◌, ℕ, ◌<◌}
use Rattle.std.proofs.Math.Path.{refl, sym, ap}
use Rattle.std.proofs.Common.{◌∙◌, arith}
use mathlib.Core.HLevel.{Σ_prop_path}
use Rattle.std.proofs.Math.Bridge.{le_prop}
use Rattle.std.proofs.Math.Decide.{dec_lt}
use Rattle.algebra.specs.Field.{BinaryField}

-- Different numbers below `size` stand for different elements.
pub record Numbers (K : BinaryField) : Type 0 where
  pub size : ℕ
  pub more : 1 < size
  pub el : ℕ → K.carrier
  pub el-nil : el 0 ≡ K.nil
  pub el-one : el 1 ≡ K.one
  pub el-same : (x y : ℕ) → x < size → y < size → el x ≡ el y → x ≡ y

-- The laws of `BinaryField`, with 0 and 1 for the zero and the unit, where all numbers are below q; and that q is not left.
pub record Below (q : ℕ) (add mul : ℕ → ℕ → ℕ) : Type 0 where
  pub more : 1 < q
  pub add-less : (a b : ℕ) → a < q → b < q → add a b < q
  pub mul-less : (a b : ℕ) → a < q → b < q → mul a b < q
  pub add_assoc : (a b c : ℕ) → a < q → b < q → c < q → add (add a b) c ≡ add a (add b c)
  pub add_comm : (a b : ℕ) → a < q → b < q → add a b ≡ add b a
  pub add-nil : (a : ℕ) → a < q → add a 0 ≡ a
  pub add-self : (a : ℕ) → a < q → add a a ≡ 0
  pub mul_assoc : (a b c : ℕ) → a < q → b < q → c < q → mul (mul a b) c ≡ mul a (mul b c)
  pub mul_comm : (a b : ℕ) → a < q → b < q → mul a b ≡ mul b a
  pub mul-one : (a : ℕ) → a < q → mul a 1 ≡ a
  pub mul-add : (a b c : ℕ) → a < q → b < q → c < q → mul a (add b c) ≡ add (mul a b) (mul a c)
  pub no-divisors : (a b : ℕ) → a < q → b < q → mul a b ≡ 0 → ¬ (a ≡ 0) → b ≡ 0

-- a number and that it is below q
abbrev pub Elem : ℕ → Type 0
Elem q = (x : ℕ) × (x < q)

-- Two elements are equal where their numbers are: the laws of `field` and `numbers` below rest on it.
pub elem-same : {q : ℕ} {u v : Elem q} → u.0 ≡ v.0 → u ≡ v
elem-same = Σ_prop_path (λ x. le_prop)

module _ {q : ℕ} {add mul : ℕ → ℕ → ℕ} (B : Below q add mul) where
  -- the numbers below q as a field
  unfoldable pub field : BinaryField
  field = record {
    carrier = Elem q;
    add = λ u v. (add u.0 v.0, B.add-less _ _ u.1 v.1);
    mul = λ u v. (mul u.0 v.0, B.mul-less _ _ u.1 v.1);
    nil = (0, omega (arith, B.more));
    one = (1, B.more);
    add_assoc = λ a b c. elem-same (B.add_assoc _ _ _ a.1 b.1 c.1);
    add_comm = λ a b. elem-same (B.add_comm _ _ a.1 b.1);
    add-nil = λ a. elem-same (B.add-nil _ a.1);
    add-self = λ a. elem-same (B.add-self _ a.1);
    mul_assoc = λ a b c. elem-same (B.mul_assoc _ _ _ a.1 b.1 c.1);
    mul_comm = λ a b. elem-same (B.mul_comm _ _ a.1 b.1);
    mul-one = λ a. elem-same (B.mul-one _ a.1);
    mul-add = λ a b c. elem-same (B.mul-add _ _ _ a.1 b.1 c.1);
    one-not-nil = λ e. let z : ◌≡◌ {A = ℕ} 1 0 = ap (λ u. u.0) e in absurd (omega arith);
    no-divisors = λ a b h n. elem-same (B.no-divisors _ _ a.1 b.1 (ap (λ u. u.0) h) (λ e. n (elem-same e)));
  }

  -- A number of q or more stands for the zero.
  unfoldable pub el-of : (x : ℕ) → Dec (x < q) → Elem q
  el-of x (yes l) = (x, l)
  el-of x (no _) = (0, omega (arith, B.more))

  -- the element that a number stands for
  unfoldable pub el : ℕ → Elem q
  el x = el-of x (dec_lt x q)

  -- A number below q is that of its element.
  pub el-is : (x : ℕ) → x < q → (el x).0 ≡ x
  unfolding el el-of
  el-is x l = go (dec_lt x q)
    where
      go : (d : Dec (x < q)) → (el-of x d).0 ≡ x
      go (yes _) = refl
      go (no n) = absurd (n l)

  -- each number below q stands for itself
  unfoldable pub numbers : Numbers field
  unfolding field
  numbers = record {
    size = q;
    more = B.more;
    el = el;
    el-nil = elem-same (el-is 0 (omega (arith, B.more)));
    el-one = elem-same (el-is 1 B.more);
    el-same = λ x y l m e. sym (el-is x l) ∙ ap (λ u. u.0) e ∙ el-is y m;
  }
