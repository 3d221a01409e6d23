-- The answers of the call that locates errors, step by step: each way out of the code is a case of the definition.
use mathlib.Core.Path.{◌≡◌, refl, sym, ◌∙◌}
use mathlib.Core.Bool.{Bool, true, false}
use mathlib.Core.List.{List, ◌++◌}
use Prim.Native.Nat.{ℕ, suc, ◌+◌, ◌*◌, ◌^◌, ◌≤◌, ◌<◌}
use native.Mathlib.Numerals.{add-one}
use native.Mathlib.Omega.{arith}
use borrow.Author.Tests.{eq-eqb, ne_eqb, le-leb, lt-leb, lt-ltb, le-ltb}
use lib.Dec.{eqb, ltb}
use lib.ListN.{length, get_or, set, take, drop}
use lib.Seq.{length-take-le, take-suc, drop-cons, append_snoc, set_at}
use Rattle.field.specs.declared.Field.{Field}
use Rattle.field.specs.Field.{degree, longest}
use Rattle.code.specs.Code.{Fits}
use Rattle.code.specs.Locations.{locate}
use Rattle.decoder.specs.declared.Found.{Found}
use Rattle.replies.specs.declared.Refusal.{Refusal}
use Rattle.replies.specs.declared.Refusal.TheVariants as refusal
use Rattle.replies.specs.Replies.{number, block}
use Rattle.replies.specs.Edition.{highest}
use Rattle.std.specs.Prelude.{Ok, Err}
use Rattle.decoder.specs.Locating.{answer}
use Rattle.remainder.specs.Remainder.{bytes_for, number_of}
use Rattle.bch.specs.Answers.{Ended, ended, level_of, request_reply, list_in, remainder_in, locate_in}
use Rattle.decoder.proofs.Locating.{zero-located}

-- ---- the list

-- One place more of e is copied to the start of d.
pub copied_next : (e d : List ℕ) {q : List ℕ} (i : ℕ) → i < length e → i < length d → q ≡ take i e ++ drop i d → set q i (get_or e i 0) ≡ take (i + 1) e ++ drop (i + 1) d
copied_next e d i l m h =
    rw (h, drop-cons d i 0 m, set_at (take i e) (get_or d i 0) (drop (suc i) d) (get_or e i 0) i (length-take-le i e (omega arith)), add-one i, take-suc e i 0 l)
    (sym (append_snoc (take i e) (get_or e i 0) (drop (suc i) d)))

pub report-list : (r : Found) (d : List ℕ) {q : List ℕ} → r.located ≡ true → r.count ≤ length r.exponents → q ≡ take r.count r.exponents ++ drop r.count d
    → ended (Ok r.count) q ≡ list_in (answer r) d
unfolding ended list_in answer
report-list r d e l h = rw (e, h, length-take-le r.count r.exponents l)

pub report-none : (r : Found) (d : List ℕ) → r.located ≡ false → ended (Err (refusal.Uncorrectable 0)) d ≡ list_in (answer r) d
unfolding ended list_in answer number block
report-none r d e = rw e

-- ---- the remainder

module _ (f : Field) (t n x : ℕ) (d : List ℕ) where
  -- The code tests the register y against the number of parity bits.
  pub remainder-test : {y bits : ℕ} {r v : Bool} → y ≡ x → bits ≡ degree f * t → r ≡ ltb y (2 ^ bits) → r ≡ v → ltb x (2 ^ (degree f * t)) ≡ v
  remainder-test e l h g = rw (← e, ← l) (sym h ∙ g)

  pub remainder-high : ltb x (2 ^ (degree f * t)) ≡ false → ended (Err refusal.RemainderTooWide) d ≡ remainder_in f t n x d
  unfolding ended number block remainder_in
  remainder-high e = rw e

  pub remainder-zero : Fits f t n → ltb x (2 ^ (degree f * t)) ≡ true → x ≡ 0 → ended (Ok 0) d ≡ remainder_in f t n x d
  unfolding ended remainder_in list_in
  remainder-zero h e z = rw (e, z, zero-located f t n h)

  pub remainder-listed : {e : Ended} → ltb x (2 ^ (degree f * t)) ≡ true → e ≡ list_in (locate f t n x) d → e ≡ remainder_in f t n x d
  unfolding remainder_in
  remainder-listed l h = rw l h

-- ---- the numbers and lengths

module _ (edition : ℕ) (f : Field) (field n : ℕ) (remainder d : List ℕ) where
  refused-in : (r : Refusal) → request_reply edition f field n (length remainder) (length d) ≡ number r → eqb (number r) 0 ≡ false → block r ≡ 0 → ended (Err r) d ≡ locate_in edition f field n remainder d
  unfolding ended locate_in
  refused-in r h z b = rw (h, z, b)

  pub in-level : highest edition < field → ended (Err refusal.LevelTooHigh) d ≡ locate_in edition f field n remainder d
  in-level h = refused-in refusal.LevelTooHigh (unfold request_reply number in rw (lt-leb field (highest edition) h)) (unfold number in refl) (unfold block in refl)

  module _ (low : field ≤ highest edition) where
    pub in-zero : field ≡ 0 → ended (Err refusal.EmptyMessage) d ≡ locate_in edition f field n remainder d
    in-zero e = refused-in refusal.EmptyMessage (unfold request_reply number in rw (le-leb field (highest edition) low, le-ltb 0 field (omega arith))) (unfold number in refl) (unfold block in refl)

    module _ (positive : 0 < field) where
      pub in-short : n ≤ degree f * level_of field → ended (Err refusal.EmptyMessage) d ≡ locate_in edition f field n remainder d
      in-short h = refused-in refusal.EmptyMessage
          (unfold request_reply number in rw (le-leb field (highest edition) low, lt-ltb 0 field positive, le-ltb (degree f * level_of field) n h)) (unfold number in refl) (unfold block in refl)

      module _ (room : degree f * level_of field < n) where
        pub in-long : longest f < n → ended (Err refusal.BlockTooLong) d ≡ locate_in edition f field n remainder d
        in-long h = refused-in refusal.BlockTooLong
            (unfold request_reply number in rw (le-leb field (highest edition) low, lt-ltb 0 field positive, lt-ltb (degree f * level_of field) n room, lt-leb n (longest f) h)) (unfold number in refl) (unfold block in refl)

        module _ (short : n ≤ longest f) where
          pub in_bytes : ¬ (length remainder ≡ bytes_for (degree f * level_of field)) → ended (Err refusal.BufferLength) d ≡ locate_in edition f field n remainder d
          in_bytes h = refused-in refusal.BufferLength
              (unfold request_reply number in rw (
                le-leb field (highest edition) low,
                lt-ltb 0 field positive,
                lt-ltb (degree f * level_of field) n room,
                le-leb n (longest f) short,
                ne_eqb (length remainder) (bytes_for (degree f * level_of field)) h,
              )) (unfold number in refl) (unfold block in refl)

          module _ (bytes : length remainder ≡ bytes_for (degree f * level_of field)) where
            pub in-places : length d < level_of field → ended (Err refusal.BufferLength) d ≡ locate_in edition f field n remainder d
            in-places h = refused-in refusal.BufferLength
                (unfold request_reply number in rw (
                  le-leb field (highest edition) low,
                  lt-ltb 0 field positive,
                  lt-ltb (degree f * level_of field) n room,
                  le-leb n (longest f) short,
                  eq-eqb (length remainder) (bytes_for (degree f * level_of field)) bytes,
                  lt-leb (level_of field) (length d) h,
                )) (unfold number in refl) (unfold block in refl)

            pub in_right : {e : Ended} → level_of field ≤ length d → e ≡ remainder_in f (level_of field) n (number_of remainder) d → e ≡ locate_in edition f field n remainder d
            in_right h g = unfold locate_in request_reply in
                rw (
                  le-leb field (highest edition) low,
                  lt-ltb 0 field positive,
                  lt-ltb (degree f * level_of field) n room,
                  le-leb n (longest f) short,
                  eq-eqb (length remainder) (bytes_for (degree f * level_of field)) bytes,
                  le-leb (level_of field) (length d) h,
                ) g
