-- Words that end with one bit more: runs, distances, and numbers of ones.
use mathlib.Core.Path.{◌≡◌, sym, ap, ◌∙◌}
use mathlib.Core.Bool.{Bool}
use mathlib.Core.List.{[], ◌∷◌, ◌++◌}
use Prim.Native.Nat.{ℕ, suc, ◌+◌}
use native.Mathlib.Omega.{arith}
use native.Mathlib.Numerals.{add-one}
use lib.ListN.{length}
use Rattle.bits.specs.Bits.{run, digit}
use Rattle.bits.proofs.Runs.{run-append}
use Rattle.code.specs.Word.{Word, apart, distance, ones}

pub run-last : {A : Type 0} (f : ℕ → A) (s n : ℕ) → run f s (suc n) ≡ run f s n ++ (f (s + n) ∷ [])
unfolding run
run-last f s n = ap (run f s) (sym (add-one n)) ∙ run-append f s n 1

pub distance-last : (v w : Word) (x y : Bool) → length v ≡ length w → distance (v ++ (x ∷ [])) (w ++ (y ∷ [])) ≡ distance v w + apart x y
unfolding distance
distance-last [] [] x y h = omega arith
distance-last [] (b ∷ w) x y h = absurd (omega arith)
distance-last (a ∷ v) [] x y h = absurd (omega arith)
distance-last (a ∷ v) (b ∷ w) x y h = let r = distance-last v w x y (omega arith) in omega arith

pub ones-last : (w : Word) (b : Bool) → ones (w ++ (b ∷ [])) ≡ ones w + digit b
unfolding ones
ones-last [] b = omega arith
ones-last (x ∷ w) b = let r = ones-last w b in omega arith
