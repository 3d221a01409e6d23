-- The number of places in which two words of one length differ is a distance.
--
-- coefficient w p    the coefficient of x^p of a word, p below its length
use mathlib.Core.Path.{◌≡◌, refl, ap, ap₂, ◌∙◌}
use mathlib.Core.Bool.{Bool, true, false}
use mathlib.Core.List.{[], ◌∷◌}
use Prim.Native.Nat.{ℕ, suc, ◌+◌, ◌-◌, ◌≤◌, ◌<◌}
use native.Mathlib.Omega.{arith}
use lib.ListN.{length, get_or}
use lib.Seq.{ext_get_or}
use Rattle.algebra.specs.Word.{flip, differ, both, bump, count}
use Rattle.algebra.proofs.Word.{count-cong}
use Rattle.code.specs.Word.{Word, apart, distance}

pub distance-comm : (v w : Word) → length v ≡ length w → distance v w ≡ distance w v
unfolding distance apart
distance-comm [] [] h = refl
distance-comm [] (y ∷ w) h = refl
distance-comm (x ∷ v) [] h = refl
distance-comm (true ∷ v) (true ∷ w) h = ap (λ n. 0 + n) (distance-comm v w (omega arith))
distance-comm (true ∷ v) (false ∷ w) h = ap (λ n. 1 + n) (distance-comm v w (omega arith))
distance-comm (false ∷ v) (true ∷ w) h = ap (λ n. 1 + n) (distance-comm v w (omega arith))
distance-comm (false ∷ v) (false ∷ w) h = ap (λ n. 0 + n) (distance-comm v w (omega arith))

apart-triangle : (x y z : Bool) → apart x z ≤ apart x y + apart y z
unfolding apart
apart-triangle true true true = omega arith
apart-triangle true true false = omega arith
apart-triangle true false true = omega arith
apart-triangle true false false = omega arith
apart-triangle false true true = omega arith
apart-triangle false true false = omega arith
apart-triangle false false true = omega arith
apart-triangle false false false = omega arith

pub distance-triangle : (u v w : Word) → length u ≡ length v → length v ≡ length w → distance u w ≤ distance u v + distance v w
unfolding distance
distance-triangle [] v w h k = omega arith
distance-triangle (x ∷ u) [] w h k = absurd (omega arith)
distance-triangle (x ∷ u) (y ∷ v) [] h k = absurd (omega arith)
distance-triangle (x ∷ u) (y ∷ v) (z ∷ w) h k = let r = distance-triangle u v w (omega arith) (omega arith) in let a = apart-triangle x y z in omega arith

pub distance_self : (w : Word) → distance w w ≡ 0
unfolding distance apart
distance_self [] = refl
distance_self (true ∷ w) = ap (λ n. 0 + n) (distance_self w)
distance_self (false ∷ w) = ap (λ n. 0 + n) (distance_self w)

pub distance-zero : (v w : Word) → length v ≡ length w → distance v w ≡ 0 → v ≡ w
unfolding distance apart
distance-zero [] [] l h = refl
distance-zero [] (y ∷ w) l h = absurd (omega arith)
distance-zero (x ∷ v) [] l h = absurd (omega arith)
distance-zero (true ∷ v) (true ∷ w) l h = ap (λ v. true ∷ v) (distance-zero v w (omega arith) (omega arith))
distance-zero (true ∷ v) (false ∷ w) l h = absurd (omega arith)
distance-zero (false ∷ v) (true ∷ w) l h = absurd (omega arith)
distance-zero (false ∷ v) (false ∷ w) l h = ap (λ v. false ∷ v) (distance-zero v w (omega arith) (omega arith))

unfoldable pub coefficient : Word → ℕ → Bool
coefficient w p = get_or w (length w - suc p) false

pub coefficient-ext : (v w : Word) → length v ≡ length w → ((p : ℕ) → p < length w → coefficient v p ≡ coefficient w p) → v ≡ w
unfolding coefficient
coefficient-ext v w l h = ext_get_or false v w l (λ i k.
    let q : length v - suc (length w - suc i) ≡ i = omega arith in let r : length w - suc (length w - suc i) ≡ i = omega arith in
    rw (q, r) at (h (length w - suc i) (omega arith)))

pub coefficient-tail : (x : Bool) (w : Word) (p : ℕ) → p < length w → coefficient (x ∷ w) p ≡ coefficient w p
unfolding coefficient
coefficient-tail x w p l = let e : suc (length w) - suc p ≡ suc (length w - suc p) = omega arith in rw e

pub coefficient-head : (x : Bool) (w : Word) → coefficient (x ∷ w) (length w) ≡ x
unfolding coefficient
coefficient-head x w = let e : suc (length w) - suc (length w) ≡ 0 = omega arith in rw e

bump-differ : (x y : Bool) (n : ℕ) → bump (differ x y) n ≡ apart x y + n
unfolding bump differ apart flip
bump-differ true true n = omega arith
bump-differ true false n = omega arith
bump-differ false true n = omega arith
bump-differ false false n = omega arith

-- As a count over the exponents.
pub count-distance : (v w : Word) → length v ≡ length w → count (both (coefficient v) (coefficient w)) (length v) ≡ distance v w
unfolding count distance
count-distance [] w h = refl
count-distance (x ∷ v) [] h = absurd (omega arith)
count-distance (x ∷ v) (y ∷ w) h =
    let e : length v ≡ length w = omega arith in
    let last : coefficient (y ∷ w) (length v) ≡ y = rw e (coefficient-head y w) in
    rw (coefficient-head x v, last, bump-differ x y)
    (ap (λ n. apart x y + n) (count-cong _ _ (length v) (λ p l. ap₂ differ (coefficient-tail x v p l) (coefficient-tail y w p (omega arith))) ∙ count-distance v w e))
