-- What the call that locates errors promises, in the words of document 01, "Remainder": where nothing else is to be refused the answer is
-- the one set that leaves the remainder, and reply 9 is given exactly if there is none. A refusal changes no place.
--
-- Right edition f field n remainder places    under an edition neither the numbers, nor the lengths, nor the remainder give a reply
use mathlib.Core.Path.{◌≡◌, refl, sym, ap, ◌∙◌}
use mathlib.Core.Bool.{Bool, true, false, cond}
use mathlib.Core.List.{List, ◌++◌}
use Prim.Native.Nat.{ℕ, ◌*◌, ◌^◌, ◌≤◌, ◌<◌}
use native.Mathlib.Omega.{arith}
use borrow.Author.Tests.{leb-true, lt-ltb}
use lib.Dec.{eqb, ltb, leb}
use lib.ListN.{length, drop}
use Rattle.field.specs.declared.Field.{Field}
use Rattle.std.specs.Prelude.{Option, Some, None}
use Rattle.field.specs.Field.{degree, longest, chosen}
use Rattle.code.specs.Word.{Word, ones}
use Rattle.code.specs.Code.{Fits}
use Rattle.code.specs.Locations.{Locations, Locates, listed, exponents, nowhere, locate}
use Rattle.code.proofs.Locations.{listed-length, locate-exponents, locate-nowhere}
use Rattle.remainder.specs.Remainder.{bytes_for, number_of}
use Rattle.replies.specs.Replies.{unless}
use Rattle.replies.specs.Edition.{offered, highest}
use Rattle.replies.proofs.Editions.{highest-small}
use Rattle.bch.specs.Answers.{Ended, done, refused, level_of, request_reply, list_in, remainder_in, locate_in, locate_for, locate_of}

pub record Right (edition : ℕ) (f : Field) (field n : ℕ) (remainder places : List ℕ) : Type 0 where
  pub request : request_reply edition f field n (length remainder) (length places) ≡ 0
  pub low : number_of remainder < 2 ^ (degree f * level_of field)

-- Where no test gives a reply each holds.
tests-hold : (a b c d e g : Bool) → unless a 1 (unless b 2 (unless c 2 (unless d 3 (unless e 6 (unless g 6 0))))) ≡ 0 → (a ≡ true) × (d ≡ true)
tests-hold true true true true e g h = (refl, refl)
tests-hold true true true false e g h = absurd (omega arith)
tests-hold true true false d e g h = absurd (omega arith)
tests-hold true false c d e g h = absurd (omega arith)
tests-hold false b c d e g h = absurd (omega arith)

module _ (edition : ℕ) (f : Field) (field n : ℕ) (remainder places : List ℕ) (h : Right edition f field n remainder places) where
  right-fits : Fits f (level_of field) n
  unfolding request_reply level_of
  right-fits =
      let a = tests-hold (leb field (highest edition)) (ltb 0 field) (ltb (degree f * (2 * field)) n) (leb n (longest f))
      (eqb (length remainder) (bytes_for (degree f * (2 * field)))) (leb (2 * field) (length places)) h.request in
      let l : field ≤ highest edition = leb-true field (highest edition) a.0 in
      record { short = λ t. leb-true n (longest f) a.1; level = omega (arith, highest-small edition) }

  right-listed : locate_in edition f field n remainder places ≡ list_in (locate f (level_of field) n (number_of remainder)) places
  unfolding locate_in remainder_in
  right-listed = rw (h.request, lt-ltb (number_of remainder) (2 ^ (degree f * level_of field)) h.low)

module _ (edition : ℕ) (f : Field) (field choice n : ℕ) (remainder places : List ℕ) (known : offered edition ≡ true) (chose : chosen choice ≡ Some f) (h : Right edition f field n remainder places) where
  as-listed : locate_of edition field choice n remainder places ≡ list_in (locate f (level_of field) n (number_of remainder)) places
  unfolding locate_of locate_for
  as-listed = rw (known, chose) (right-listed edition f field n remainder places h)

  -- A set of at most t exponents below n that leaves the remainder is the answer.
  pub set-answer : (s : Word) → Locates f (level_of field) n (number_of remainder) s → locate_of edition field choice n remainder places ≡ done (ones s) (listed s ++ drop (ones s) places)
  unfolding list_in
  set-answer s x = as-listed ∙ rw (locate-exponents f (level_of field) n (number_of remainder) s (right-fits edition f field n remainder places h) x, listed-length s)

  pub nine-when : ((s : Word) → Locates f (level_of field) n (number_of remainder) s → ⊥) → locate_of edition field choice n remainder places ≡ refused 9 places
  unfolding list_in
  nine-when none = as-listed ∙ rw (locate-nowhere f (level_of field) n (number_of remainder) none)

  pub nine-only : (locate_of edition field choice n remainder places).reply ≡ 9 → (s : Word) → Locates f (level_of field) n (number_of remainder) s → ⊥
  nine-only e s x = let z : ◌≡◌ {A = ℕ} 0 9 = sym (ap (λ (r : Ended). r.reply) (set-answer s x)) ∙ e in omega arith

-- Whatever is handed in.
pub refusal-keeps : (edition field choice n : ℕ) (remainder places : List ℕ) → ¬ ((locate_of edition field choice n remainder places).reply ≡ 0)
    → (locate_of edition field choice n remainder places).places ≡ places
unfolding locate_of locate_for locate_in remainder_in list_in
refusal-keeps edition field choice n remainder places = known (offered edition)
  where
    by-list : (l : Locations) → ¬ ((list_in l places).reply ≡ 0) → (list_in l places).places ≡ places
    by-list (exponents ps) z = absurd (z refl)
    by-list nowhere z = refl

    by-low : (b : Bool) (l : Locations) → ¬ ((cond b (list_in l places) (refused 8 places)).reply ≡ 0) → (cond b (list_in l places) (refused 8 places)).places ≡ places
    by-low true l z = by-list l z
    by-low false l z = refl

    by-request : (b : Bool) (reply : ℕ) (f : Field) → ¬ ((cond b (remainder_in f (level_of field) n (number_of remainder) places) (refused reply places)).reply ≡ 0)
        → (cond b (remainder_in f (level_of field) n (number_of remainder) places) (refused reply places)).places ≡ places
    by-request true reply f z = by-low (ltb (number_of remainder) (2 ^ (degree f * level_of field))) (locate f (level_of field) n (number_of remainder)) z
    by-request false reply f z = refl

    by : (c : Option Field) → ¬ ((locate_for edition c field n remainder places).reply ≡ 0) → (locate_for edition c field n remainder places).places ≡ places
    by (Some f) z =
        by-request (eqb (request_reply edition f field n (length remainder) (length places)) 0) (request_reply edition f field n (length remainder) (length places)) f z
    by None z = refl

    known : (b : Bool) → ¬ ((cond b (locate_for edition (chosen choice) field n remainder places) (refused 7 places)).reply ≡ 0)
        → (cond b (locate_for edition (chosen choice) field n remainder places) (refused 7 places)).places ≡ places
    known true z = by (chosen choice) z
    known false z = refl
