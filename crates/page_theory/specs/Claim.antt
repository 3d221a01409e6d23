-- Claimed locations (document 01, "Claim"). Whoever proposed them does not matter.
--
-- Right f t w claims      the claim about the block w is right: distinct exponents below its length, at most t, and with
--                         them turned over the block is a codeword
-- right? f t w claims     whether it is right; its type says what it decides, and its lines need not be read
use Rattle.std.specs.Prelude.{◌≡◌, List, ℕ, ◌≤◌, ◌<◌, length, get_or}
use Rattle.std.proofs.Math.Decide.{dec_lt, dec_le, ℕ_discrete}
use Rattle.field.specs.declared.Field.{Field}
use Rattle.code.specs.Word.{Word, flipped}
use Rattle.code.specs.Code.{Codeword}
use Rattle.code.specs.Search.{all-below}
use Rattle.code.specs.Outcome.{codeword?}

pub record Right (f : Field) (t : ℕ) (w : Word) (claims : List ℕ) : Type 0 where
  pub distinct : (i j : ℕ) → i < j → j < length claims → get_or claims i 0 ≡ get_or claims j 0 → ⊥
  pub below : (i : ℕ) → i < length claims → get_or claims i 0 < length w
  pub few : length claims ≤ t
  pub code : Codeword f t (flipped w claims)

not? : {P : Type 0} → Dec P → Dec (P → ⊥)
not? (yes h) = no (λ k. k h)
not? (no h) = yes h

pub right? : (f : Field) (t : ℕ) (w : Word) (claims : List ℕ) → Dec (Right f t w claims)
right? f t w claims =
    elim (all-below (λ j. (i : ℕ) → i < j → get_or claims i 0 ≡ get_or claims j 0 → ⊥)
    (λ j. all-below (λ i. get_or claims i 0 ≡ get_or claims j 0 → ⊥) (λ i. not? (ℕ_discrete (get_or claims i 0) (get_or claims j 0))) j)
    (length claims)) [
      | no h ↦ no (λ r. h (λ j l i k. r.distinct i j k l))
      | yes a ↦ elim (all-below (λ i. get_or claims i 0 < length w) (λ i. dec_lt (get_or claims i 0) (length w)) (length claims)) [
        | no h ↦ no (λ r. h r.below)
        | yes b ↦ elim (dec_le (length claims) t) [
          | no h ↦ no (λ r. h r.few)
          | yes c ↦ elim (codeword? f t (flipped w claims)) [
            | no h ↦ no (λ r. h r.code)
            | yes d ↦ yes (record { distinct = λ i j k l. a j l i k; below = b; few = c; code = d })
          ]
        ]
      ]
    ]
