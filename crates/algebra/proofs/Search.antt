-- Laws of the search for roots: the next power of a is a root or none, and once as many roots are found as the degree there are no more.
use mathlib.Core.Path.{◌≡◌, sym, ap, ◌∙◌}
use mathlib.Core.List.{List}
use Prim.Native.Nat.{ℕ, zero, suc, ◌+◌, ◌≤◌, ◌<◌}
use native.Mathlib.Omega.{arith}
use native.Mathlib.Numerals.{add-one}
use lib.ListN.{get_or, length, set}
use lib.Seq.{get_or-set_same, get_or-set_other}
use Rattle.algebra.specs.Field.{BinaryField}
use Rattle.algebra.specs.Series.{cons}
use Rattle.algebra.specs.Polynomial.{pow, value, Distinct}
use Rattle.algebra.specs.Number.{Numbers}
use Rattle.algebra.specs.Array.{coef}
use Rattle.algebra.specs.Search.{Root, Found}
use Rattle.algebra.proofs.Polynomial.{roots}
use Rattle.algebra.proofs.Number.{el-zero}
use Rattle.algebra.proofs.Word.{lists-none, lists-longer, lists-same}

module _ (K : BinaryField) (N : Numbers K) (c : List ℕ) (len : ℕ) (a : K.carrier) where
  pub found-start : (l : List ℕ) → Found K N c len a l 0 0
  found-start l = record { lists = lists-none _ _ }

  -- x is the power p of a, v the value there.
  module _ {l : List ℕ} {p w : ℕ} (h : Found K N c len a l p w) {x v : ℕ} (power : N.el x ≡ pow K a p) (small : v < N.size)
      (e : N.el v ≡ value K (coef K N c) (N.el x) len) where
    valued : N.el v ≡ value K (coef K N c) (pow K a p) len
    valued = rw power at e

    pub found-root : v ≡ 0 → w < length l → Found K N c len a (set l w p) (p + 1) (w + 1)
    found-root z m = rw (add-one p, add-one w) (record {
      lists = lists-longer h.lists (sym valued ∙ ap N.el z ∙ N.el-nil) (λ i k. get_or-set_other l w i p 0 (omega arith)) (get_or-set_same l w p 0 m);
    })

    pub found_none : ¬ (v ≡ 0) → Found K N c len a l (p + 1) w
    found_none z = record { lists = lists-same h.lists (omega arith) none }
      where
        none : (i : ℕ) → p ≤ i → i < p + 1 → ¬ (Root K N c len a i)
        none i l m r = let q : i ≡ p = omega arith in z (el-zero K N v small (valued ∙ rw q at r))

  -- A polynomial of degree len, its leading coefficient not zero, has no more than len roots.
  pub found_all : {l : List ℕ} {p : ℕ} → Found K N c len a l p len → (size : ℕ) → Distinct K size (pow K a) → ¬ (coef K N c 0 ≡ K.nil)
      → (n : ℕ) → p ≤ n → n ≤ size → Found K N c len a l n len
  unfolding cons
  found_all {l} {p} h size distinct leading n le fits = record { lists = lists-same h.lists le none }
    where
      none : (i : ℕ) → p ≤ i → i < n → ¬ (Root K N c len a i)
      none i k m r = leading (roots K len (coef K N c) (cons K (pow K a i) (λ e. pow K a (get_or l e 0))) apart zeros)
        where
          apart : Distinct K (suc len) (cons K (pow K a i) (λ e. pow K a (get_or l e 0)))
          apart u zero x y = absurd (omega arith)
          apart zero (suc v) x y = λ q. distinct (get_or l v 0) i (omega (arith, h.lists.below v (omega arith))) (omega arith) (sym q)
          apart (suc u) (suc v) x y =
              distinct (get_or l u 0) (get_or l v 0) (h.lists.rising u v (omega arith) (omega arith)) (omega (arith, h.lists.below v (omega arith)))

          zeros : (u : ℕ) → u ≤ len → value K (coef K N c) (cons K (pow K a i) (λ e. pow K a (get_or l e 0)) u) len ≡ K.nil
          zeros zero x = r
          zeros (suc u) x = h.lists.set u (omega arith)
