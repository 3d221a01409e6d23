-- A list of generators is tested once, by a chain: each row is the one before times the next two minimal polynomials.
use mathlib.Core.Path.{◌≡◌, refl, ap, ◌∙◌}
use mathlib.Core.Bool.{Bool, true, false, ◌&&◌}
use mathlib.Core.List.{List, [], ◌∷◌}
use Prim.Native.Nat.{ℕ, zero, suc, ◌+◌, ◌*◌, ◌<◌}
use native.Mathlib.Nat.{add-zero}
use native.Mathlib.Numerals.{add-one}
use native.Mathlib.Omega.{arith}
use lib.ListN.{length, get_or}
use lib.Dec.{T, eqb, eqb→eq}
use Rattle.field.specs.declared.Field.{Field}
use Rattle.field.specs.Field.{degree}
use Rattle.code.specs.Generator.{times, minimals, generator}
use Rattle.code.specs.Register.{register}
use Rattle.code.proofs.Test.{and_left, and_right}

unfoldable pub chained : Field → ℕ → List ℕ → List (List ℕ) → Bool
chained f g ms [] = true
chained f g [] (row ∷ rows) = false
chained f g (x ∷ []) (row ∷ rows) = false
chained f g (x ∷ y ∷ ms) (row ∷ rows) =
    let h : ℕ = times (suc (degree f)) (times (suc (degree f)) g x) y in eqb (register row) h && chained f h ms rows

module _ (f : Field) where
  two-more : (t g x y : ℕ) → g ≡ generator f t → x ≡ get_or (minimals f) t 0 → y ≡ get_or (minimals f) (suc t) 0
      → times (suc (degree f)) (times (suc (degree f)) g x) y ≡ generator f (suc (suc t))
  unfolding generator
  two-more t g x y e a b = rw (a, b, e)

  chained-from : (g t : ℕ) (ms : List ℕ) (rows : List (List ℕ)) → g ≡ generator f t → ((i : ℕ) → get_or ms i 0 ≡ get_or (minimals f) (t + i) 0) → T (chained f g ms rows)
      → (k : ℕ) → k < length rows → register (get_or rows k []) ≡ generator f (t + 2 * suc k)
  unfolding chained
  chained-from g t ms [] e h u k l = absurd (omega arith)
  chained-from g t [] (row ∷ rows) e h u k l = absurd u
  chained-from g t (x ∷ []) (row ∷ rows) e h u k l = absurd u
  chained-from g t (x ∷ y ∷ ms) (row ∷ rows) e h u k l = go (chained-from g' (suc (suc t)) ms rows is step (and_right (eqb (register row) g') (chained f g' ms rows) u)) k l
    where
      g' : ℕ
      g' = times (suc (degree f)) (times (suc (degree f)) g x) y

      is : g' ≡ generator f (suc (suc t))
      is = two-more t g x y e (h 0 ∙ rw (add-zero t)) (h 1 ∙ rw (add-one t))

      step : (i : ℕ) → get_or ms i 0 ≡ get_or (minimals f) (suc (suc t) + i) 0
      step i = h (suc (suc i)) ∙ (let q : t + suc (suc i) ≡ suc (suc t) + i = omega arith in rw q)

      go : ((k : ℕ) → k < length rows → register (get_or rows k []) ≡ generator f (suc (suc t) + 2 * suc k)) → (k : ℕ) → k < suc (length rows)
          → register (get_or (row ∷ rows) k []) ≡ generator f (t + 2 * suc k)
      go c zero l = let d : t + 2 * 1 ≡ suc (suc t) = omega arith in rw d (eqb→eq _ _ (and_left (eqb (register row) g') (chained f g' ms rows) u) ∙ is)
      go c (suc k) l = let d : t + 2 * suc (suc k) ≡ suc (suc t) + 2 * suc k = omega arith in rw d (c k (omega arith))

  -- Row k is the generator of the level 2 (k + 1).
  chained-rows : (rows : List (List ℕ)) → T (chained f 1 (minimals f) rows) → (k : ℕ) → k < length rows → register (get_or rows k []) ≡ generator f (2 * (k + 1))
  chained-rows rows u k l =
      chained-from 1 0 (minimals f) rows (unfold generator in refl) (λ i. ap (λ n. get_or (minimals f) n 0) (at i)) u k l
      ∙ (let e : 0 + 2 * suc k ≡ 2 * (k + 1) = omega arith in rw e)
    where
      at : (i : ℕ) → i ≡ 0 + i
      at i = omega arith

-- A whole list begins with the generator of the level 0, which is 1.
unfoldable pub tested : Field → List (List ℕ) → Bool
tested f [] = true
tested f (row ∷ rows) = eqb (register row) 1 && chained f 1 (minimals f) rows

pub tested-rows : (f : Field) (rows : List (List ℕ)) → T (tested f rows) → (k : ℕ) → k < length rows → register (get_or rows k []) ≡ generator f (2 * k)
unfolding tested
tested-rows f [] u k l = absurd (omega arith)
tested-rows f (row ∷ rows) u zero l = eqb→eq (register row) 1 (and_left (eqb (register row) 1) (chained f 1 (minimals f) rows) u) ∙ (unfold generator in refl)
tested-rows f (row ∷ rows) u (suc k) l =
    chained-rows f rows (and_right (eqb (register row) 1) (chained f 1 (minimals f) rows) u) k (omega arith) ∙ ap (λ n. generator f (2 * n)) (add-one k)
