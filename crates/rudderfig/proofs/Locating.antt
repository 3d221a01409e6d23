-- What locating from a remainder returns: the set has at most 62 exponents, so that its size fits the answer word; reply and size come back out of
-- the word.
use mathlib.Core.Path.{◌≡◌, refl, sym, ap, ◌∙◌}
use mathlib.Core.Bool.{Bool, true, false, cond}
use mathlib.Core.List.{List}
use Prim.Native.Nat.{ℕ, ◌*◌, ◌^◌, ◌≤◌, ◌<◌}
use native.Mathlib.Omega.{arith}
use lib.ListN.{length}
use lib.Dec.{eqb, ltb, leb}
use borrow.Author.Tests.{eqb-true, leb-true}
use Rattle.field.specs.declared.Field.{Field}
use Rattle.field.specs.Field.{degree, longest, chosen}
use Rattle.code.specs.Locations.{Locations, exponents, nowhere, locate}
use Rattle.code.proofs.Locations.{exponents-locate, listed-length}
use Rattle.remainder.specs.Remainder.{bytes_for}
use Rattle.std.specs.Prelude.{Option, Some, None, Result, Ok, Err}
use Rattle.replies.specs.declared.Refusal.{Refusal}
use Rattle.replies.specs.Replies.{number, block}
use Rattle.replies.specs.Edition.{offered, highest}
use Rattle.replies.proofs.Editions.{highest-small}
use Rattle.bch.specs.Answers.{Ended, refused, ended, level_of, request_reply, list_in, remainder_in, locate_in, locate_for, locate_of}
use Rattle.answer_words.specs.Answer.{answer_word, done_word, refused_word}
use Rattle.rudderfig.specs.Locating.{LocateReturns}
use Rattle.rudderfig.proofs.Words.{Holds, word_holds}

-- a set that is located has at most t exponents
exponents-few : (f : Field) (t n x : ℕ) (ps : List ℕ) → locate f t n x ≡ exponents ps → length ps ≤ t
exponents-few f t n x ps h =
    let e = exponents-locate f t n x ps h in
    omega (arith, ap length e.list, listed-length e.set, e.locates.few)

list-few : (f : Field) (t n x : ℕ) (places : List ℕ) → (list_in (locate f t n x) places).size ≤ t
unfolding list_in
list-few f t n x places = go (locate f t n x) refl
  where
    go : (l : Locations) → locate f t n x ≡ l → (list_in l places).size ≤ t
    go (exponents ps) h = exponents-few f t n x ps h
    go nowhere h = omega arith

remainder-few : (f : Field) (t n x : ℕ) (places : List ℕ) → (remainder_in f t n x places).size ≤ t
unfolding remainder_in
remainder-few f t n x places = go (ltb x (2 ^ (degree f * t)))
  where
    go : (b : Bool) → (cond b (list_in (locate f t n x) places) (refused 8 places)).size ≤ t
    go true = list-few f t n x places
    go false = omega arith

-- a request that gets no reply has a level of at most 62
request-level : (edition : ℕ) (f : Field) (field n remainder places : ℕ) → request_reply edition f field n remainder places ≡ 0 → level_of field ≤ 62
unfolding request_reply level_of
request-level edition f field n remainder places h = go (leb field (highest edition)) _ refl h
  where
    go : (b : Bool) (rest : ℕ) → leb field (highest edition) ≡ b → cond b rest 1 ≡ 0 → 2 * field ≤ 62
    go true rest e k = omega (arith, leb-true field (highest edition) e, highest-small edition)
    go false rest e k = absurd (omega arith)

locate-in-few : (edition : ℕ) (f : Field) (field n : ℕ) (remainder places : List ℕ) → (locate_in edition f field n remainder places).size ≤ 62
unfolding locate_in
locate-in-few edition f field n remainder places = go (eqb reply 0) _ refl (remainder-few f (level_of field) n _ places)
  where
    reply : ℕ
    reply = request_reply edition f field n (length remainder) (length places)

    go : (b : Bool) (w : Ended) → eqb reply 0 ≡ b → w.size ≤ level_of field → (cond b w (refused reply places)).size ≤ 62
    go true w e h = omega (arith, request-level edition f field n (length remainder) (length places) (eqb-true _ _ e))
    go false w e h = omega arith

pub locate-few : (edition field choice n : ℕ) (remainder places : List ℕ) → (locate_of edition field choice n remainder places).size ≤ 62
unfolding locate_of locate_for
locate-few edition field choice n remainder places = under (offered edition)
  where
    go : (c : Option Field) → (locate_for edition c field n remainder places).size ≤ 62
    go (Some f) = locate-in-few edition f field n remainder places
    go None = omega arith

    under : (b : Bool) → (cond b (locate_for edition (chosen choice) field n remainder places) (refused 7 places)).size ≤ 62
    under true = go (chosen choice)
    under false = omega arith

-- locating ends with a small reply, about block 0, and after a refusal with no set
record Ends (w : Ended) : Type 0 where
  low : w.reply < 256
  first : w.block ≡ 0
  none : 0 < w.reply → w.size ≡ 0

request-low : (edition : ℕ) (f : Field) (field n remainder places : ℕ) → request_reply edition f field n remainder places < 256
unfolding request_reply
request-low edition f field n remainder places =
    go (leb field (highest edition)) (ltb 0 field) (ltb (degree f * level_of field) n) (leb n (longest f)) (eqb remainder (bytes_for (degree f * level_of field))) (leb (level_of field) places)
  where
    go : (a b c d e g : Bool) → cond a (cond b (cond c (cond d (cond e (cond g 0 6) 6) 3) 2) 2) 1 < 256
    go true true true true true true = omega arith
    go true true true true true false = omega arith
    go true true true true false g = omega arith
    go true true true false e g = omega arith
    go true true false d e g = omega arith
    go true false c d e g = omega arith
    go false b c d e g = omega arith

refused-ends : (x : ℕ) (places : List ℕ) → x < 256 → Ends (refused x places)
refused-ends x places h = record { low = h; first = refl; none = λ k. refl }

list-ends : (l : Locations) (places : List ℕ) → Ends (list_in l places)
unfolding list_in
list-ends (exponents ps) places = record { low = omega arith; first = refl; none = λ k. absurd (omega arith) }
list-ends nowhere places = refused-ends 9 places (omega arith)

remainder-ends : (f : Field) (t n x : ℕ) (places : List ℕ) → Ends (remainder_in f t n x places)
unfolding remainder_in
remainder-ends f t n x places = go (ltb x (2 ^ (degree f * t)))
  where
    go : (b : Bool) → Ends (cond b (list_in (locate f t n x) places) (refused 8 places))
    go true = list-ends (locate f t n x) places
    go false = refused-ends 8 places (omega arith)

locate-in-ends : (edition : ℕ) (f : Field) (field n : ℕ) (remainder places : List ℕ) → Ends (locate_in edition f field n remainder places)
unfolding locate_in
locate-in-ends edition f field n remainder places = go (eqb reply 0) _ (remainder-ends f (level_of field) n _ places)
  where
    reply : ℕ
    reply = request_reply edition f field n (length remainder) (length places)

    go : (b : Bool) (w : Ended) → Ends w → Ends (cond b w (refused reply places))
    go true w h = h
    go false w h = refused-ends reply places (request-low edition f field n (length remainder) (length places))

pub locate-holds : (edition field choice n : ℕ) (remainder places : List ℕ)
    → let w = locate_of edition field choice n remainder places in Holds w.reply w.block w.size (answer_word w.reply w.block 0 w.size)
unfolding locate_of locate_for
locate-holds edition field choice n remainder places = under (offered edition)
  where
    holds : (w : Ended) → Ends w → Holds w.reply w.block w.size (answer_word w.reply w.block 0 w.size)
    holds w h = word_holds w.size h.low (omega (arith, h.first)) h.none

    go : (c : Option Field) → Ends (locate_for edition c field n remainder places)
    go (Some f) = locate-in-ends edition f field n remainder places
    go None = refused-ends 7 places (omega arith)

    under : (b : Bool) → let w = cond b (locate_for edition (chosen choice) field n remainder places) (refused 7 places) in
        Holds w.reply w.block w.size (answer_word w.reply w.block 0 w.size)
    under true = holds _ (go (chosen choice))
    under false = holds _ (refused-ends 7 places (omega arith))

-- from what the call of the crate below ensures, and which of its answers it was

module _ {a : Result ℕ Refusal} {w : Ended} (p : List ℕ) (e : ended a p ≡ w) where
  pub located-size : {k : ℕ} → a ≡ Ok k → w.size ≤ 62 → k ≤ 62
  unfolding ended
  located-size {k} h s = let z : w.size ≡ k = simp (sym e, h) in omega arith

  pub locate-done : {r k : ℕ} → a ≡ Ok k → r ≡ done_word 0 k → LocateReturns w r p
  unfolding done_word ended
  locate-done h k = record { word = k ∙ simp (sym e, h); places = simp (sym e, h) }

  pub locate-refused : {r : ℕ} {x : Refusal} → a ≡ Err x → r ≡ refused_word (number x) (block x) → LocateReturns w r p
  unfolding refused_word ended
  locate-refused h k = record { word = k ∙ simp (sym e, h); places = simp (sym e, h) }
