-- The step rule of a table of powers: tested once over the table, then known at each entry. Once over m.
use mathlib.Core.Path.{◌≡◌, sym, ap, ◌∙◌}
use mathlib.Core.Bool.{Bool, true}
use mathlib.Core.List.{List, [], ◌∷◌}
use Prim.Native.Nat.{ℕ, zero, suc, ◌^◌, ◌<◌}
use native.Mathlib.Nat.{le_of_suc-le-suc, not-suc-le-zero}
use lib.Dec.{T, eqb, eqb→eq}
use lib.ListN.{length, get_or}
use Rattle.field.specs.Field.{mul_x, pow, Usable}
use Rattle.field.proofs.Test.{both, both_left, both_right}
use Rattle.field.proofs.Multiply.{shifted, shifted-inside, mul_x-below, one_below}
use Rattle.field.proofs.Exponents.{pow-shifted}

-- the first entry is x, and each other comes of the one before by the step s
unfoldable pub chain : (ℕ → ℕ) → ℕ → List ℕ → Bool
chain s x [] = true
chain s x (y ∷ ys) = both (eqb y x) (chain s (s y) ys)

-- where the step is mul_x below 2^m
module _ {m P : ℕ} (u : Usable m P) (s : ℕ → ℕ) (is : (x : ℕ) → x < 2 ^ m → s x ≡ mul_x m P x) where
  pub chain-shifted : (ys : List ℕ) (x : ℕ) → x < 2 ^ m → T (chain s x ys) → (k : ℕ) → k < length ys → get_or ys k 0 ≡ shifted m P k x
  unfolding chain shifted
  chain-shifted [] x l t k h = absurd (not-suc-le-zero h)
  chain-shifted (y ∷ ys) x l t zero h = eqb→eq y x (both_left (eqb y x) (chain s (s y) ys) t)
  chain-shifted (y ∷ ys) x l t (suc k) h =
      let e : y ≡ x = eqb→eq y x (both_left (eqb y x) (chain s (s y) ys) t) in
      let z : s y ≡ mul_x m P x = ap s e ∙ is x l in
      chain-shifted ys (mul_x m P x) (mul_x-below u x l) (rw z at (both_right (eqb y x) (chain s (s y) ys) t)) k (le_of_suc-le-suc h)
      ∙ shifted-inside m P k x

  pub chain-powers : (ys : List ℕ) → T (chain s 1 ys) → (k : ℕ) → k < length ys → get_or ys k 0 ≡ pow m P 2 k
  chain-powers ys t k h = chain-shifted ys 1 (one_below u) t k h ∙ sym (pow-shifted u k)
