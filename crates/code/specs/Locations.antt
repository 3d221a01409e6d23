-- Locating from a remainder (document 01, "Remainder").
-- A set of exponents below n is a word of n bits: the sum of the powers of x with those exponents.
--
-- Locates f t n r s    s is a set of at most t exponents below n whose sum leaves the remainder r
-- located f t n r      such a set, or that there is none
-- listed s             the order in which the exponents of a set are listed
-- Locations            what locating answers: the listed exponents, or that there are none
-- locate f t n r       the answer for a remainder r and a length n
-- power_sum f ps j      the sum of a^(jp) over the exponents p of a list: what flipping them adds to the value of a word at a^j
use Rattle.std.specs.Prelude.{◌≡◌, true, false, List, [], ◌∷◌, ℕ, zero, suc, ◌+◌, ◌*◌, ◌≤◌, length, replicate}
use Rattle.std.proofs.Common.{sym, ap, ◌∙◌, arith}
use Rattle.std.proofs.Math.Decide.{ℕ_discrete}
use Rattle.std.proofs.lemmas.List.{length-replicate}
use Rattle.std.specs.Int.Bits.{bit_xor}
use Rattle.bits.specs.Bits.{digit}
use Rattle.field.specs.declared.Field.{Field}
use Rattle.field.specs.Field.{a^}
use Rattle.code.specs.Word.{Word, apart, distance, ones, descending}
use Rattle.code.specs.Generator.{remainder}
use Rattle.code.specs.Search.{search}

-- The set that locating from a remainder is to answer.
pub record Locates (f : Field) (t n r : ℕ) (s : Word) : Type 0 where
  pub below : length s ≡ n
  pub few : ones s ≤ t
  pub leaves : remainder f t s ≡ r

zeros-distance : (n : ℕ) (s : Word) → length s ≡ n → distance (replicate n false) s ≡ ones s
unfolding distance apart ones digit
zeros-distance n [] l = let e : n ≡ 0 = sym l in rw e
zeros-distance zero (b ∷ s) l = absurd (omega arith)
zeros-distance (suc n) (true ∷ s) l = ap (λ k. 1 + k) (zeros-distance n s (omega arith))
zeros-distance (suc n) (false ∷ s) l = ap (λ k. 0 + k) (zeros-distance n s (omega arith))

-- By a search over all words with at most t ones. There is at most one such set (proofs/Locations, locates-unique).
pub located : (f : Field) (t n r : ℕ) → Dec ((s : Word) × Locates f t n r s)
located f t n r = elim (search (λ s. remainder f t s ≡ r) (λ s. ℕ_discrete (remainder f t s) r) t (replicate n false)) [
  | yes (s, h) ↦ (let l : length s ≡ n = h.same ∙ length-replicate n false in
      yes (s, record { below = l; few = omega (arith, h.close, zeros-distance n s l); leaves = h.holds }))
  | no none ↦ no (λ (s, h). none (
    s,
    record { same = h.below ∙ sym (length-replicate n false); holds = h.leaves; close = omega (arith, h.few, zeros-distance n s h.below) },
  ))
]

-- From the highest exponent down, so that the places in a page ascend (document 02, E5, which amends document 01's "ascending").
unfoldable pub listed : Word → List ℕ
listed = descending

pub data Locations : Type 0 where
  exponents : List ℕ → Locations
  nowhere : Locations

unfoldable pub locate_by : {f : Field} {t n r : ℕ} → Dec ((s : Word) × Locates f t n r s) → Locations
locate_by (yes (s, locates)) = exponents (listed s)
locate_by (no none) = nowhere

-- The exponents, or reply 9 where there is no such set.
unfoldable pub locate : (f : Field) (t n r : ℕ) → Locations
locate f t n r = locate_by (located f t n r)

unfoldable pub power_sum : Field → List ℕ → ℕ → ℕ
power_sum f [] j = 0
power_sum f (p ∷ ps) j = bit_xor (a^ f (j * p)) (power_sum f ps j)
