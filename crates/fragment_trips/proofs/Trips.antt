-- The running calls, one after the other: from what each ensures to what must come of both.
use mathlib.Core.Path.{◌≡◌, sym, ap, ap₂, ◌∙◌}
use mathlib.Core.List.{List}
use Prim.Native.Nat.{ℕ}
use native.Mathlib.Omega.{arith}
use native.Mathlib.Decide.{ℕ_discrete}
use borrow.Author.Tests.{eq-eqb, ne_eqb}
use lib.ListN.{length}
use Rattle.bits.specs.Bits.{Bytes}
use Rattle.remainder.specs.Remainder.{number_of}
use Rattle.register_digits.proofs.Bytes.{bytes_of-length}
use Rattle.replies.specs.declared.Refusal.{Refusal}
use Rattle.std.specs.Prelude.{⊤, Result, Ok, Err}
use Rattle.replies.specs.Replies.{number, block, verdict_number, verdict_block}
use Rattle.replies.proofs.Given.{number-positive}
use Rattle.register_fragments.specs.Fragments.{joined, Fragments}
use Rattle.fragments.specs.Calls.{Ended, ended, ending, reply, export_of, import_of}
use Rattle.fragment_trips.specs.RoundTrip.{Trip, tripped, back_reply, remainder_back, fragments_back}
use Rattle.register_fragments.proofs.Numbers.{Small}
use Rattle.fragments.proofs.Replies.{ended-lent, lengths-bytes, lengths-count, fitting-lengths, right-reply}
use Rattle.fragments.proofs.Meaning.{export-right, import-right, import-lent, export-lengths, import-lengths}
use Rattle.fragments.proofs.Back.{export-import, import-export}

-- an answer that is done, and one that refuses
done-reply : (w : Ended) {a : Result ⊤ Refusal} (lent : List ℕ) → a ≡ Ok tt → ended a lent ≡ w → w.reply ≡ 0
unfolding ended verdict_number verdict_block
done-reply w lent e h = simp (sym h, e)

refused-reply : (w : Ended) {a : Result ⊤ Refusal} {x : Refusal} (lent : List ℕ) → a ≡ Err x → ended a lent ≡ w → w.reply ≡ number x
unfolding ended verdict_number verdict_block
refused-reply w lent e h = simp (sym h, e)

refused-block : (w : Ended) {a : Result ⊤ Refusal} {x : Refusal} (lent : List ℕ) → a ≡ Err x → ended a lent ≡ w → w.block ≡ block x
unfolding ended verdict_number verdict_block
refused-block w lent e h = simp (sym h, e)

refusal-some : (x : Refusal) → ¬ (number x ≡ 0)
refusal-some x e = omega (arith, number-positive x)

-- what the first call leaves, and how both calls end
trip : Ended → List ℕ → Trip
trip ends middle = record { ends = ends; middle = middle }

left : (a : Result ⊤ Refusal) {w : Ended} (middle : List ℕ) → ended a middle ≡ w → middle ≡ w.lent
left a middle first = sym (ended-lent a middle) ∙ ap (λ (w : Ended). w.lent) first

back-refused : (x : Refusal) (r found wanted : ℕ) (after before : List ℕ) → r ≡ number x → 0 ≡ block x → ended (Err x) before ≡ ending (back_reply r found wanted) after before
unfolding ended verdict_number verdict_block ending back_reply
back-refused x r found wanted after before e b = rw (e, ← b, ne_eqb (number x) 0 (refusal-some x), ne_eqb (number x) 0 (refusal-some x))

back_done : (r found wanted : ℕ) (after before : List ℕ) → r ≡ 0 → found ≡ wanted → ended (Ok tt) after ≡ ending (back_reply r found wanted) after before
unfolding ended verdict_number verdict_block ending back_reply
back_done r found wanted after before z e = rw (z, eq-eqb found wanted e)

back-short : (r found wanted s : ℕ) (after other before : List ℕ) → r ≡ 0 → ¬ (found ≡ wanted) → s ≡ 6 → ending s other before ≡ ending (back_reply r found wanted) after before
unfolding ending back_reply number
back-short r found wanted s after other before z n e = rw (z, ne_eqb found wanted n, e)

-- ---- export, then import

module _ (field : ℕ) (remainder fragments back middle : List ℕ) {a : Result ⊤ Refusal} (first : ended a middle ≡ export_of field remainder fragments) where
  pub export-import-refused : {x : Refusal} → a ≡ Err x → tripped (Err x) middle back ≡ remainder_back field remainder fragments back
  unfolding remainder_back export_of ending trip
  export-import-refused {x} e =
      let w = export_of field remainder fragments in
      ap₂ trip (back-refused x _ _ _ _ _ (refused-reply w middle e first) (refused-block w middle e first)) (left a middle first)

  module _ (e : a ≡ Ok tt) where
    exported : (export_of field remainder fragments).reply ≡ 0
    exported = done-reply (export_of field remainder fragments) middle e first

    export-middle : middle ≡ (export_of field remainder fragments).lent
    export-middle = left a middle first

    import-short : ¬ (length back ≡ length remainder) → reply field (length back) (length middle) (joined middle) ≡ 6
    unfolding import_of ending
    import-short n =
        let right = export-right field remainder fragments exported in
        let whole = (fitting-lengths _ _ _ right.lengths).0 in
        import-lengths field back middle right.level (sym (lengths-bytes _ _ _ (λ l. n (l ∙ sym whole))))

    export-import-ends : {w : Ended} → Bytes (length remainder) remainder → w ≡ import_of field middle back → w ≡ (remainder_back field remainder fragments back).ends
    unfolding remainder_back import_of
    export-import-ends bytes second =
        let z = right-reply _ _ _ _ (export-right field remainder fragments exported) in
        second ∙ elim (ℕ_discrete (length back) (length remainder)) [
          | yes l ↦ ap (λ m. import_of field m back) export-middle ∙ export-import field remainder fragments back bytes l exported ∙ back_done _ _ _ remainder back z l
          | no l ↦ back-short _ _ _ _ _ _ _ z l (import-short l)
        ]

    pub export-import-done : (b : Result ⊤ Refusal) (after : List ℕ) → Bytes (length remainder) remainder → ended b after ≡ import_of field middle back
        → tripped b middle after ≡ remainder_back field remainder fragments back
    unfolding remainder_back trip
    export-import-done b after bytes second = ap₂ trip (export-import-ends bytes second) export-middle

-- ---- import, then export

module _ (field : ℕ) (fragments remainder back middle : List ℕ) {a : Result ⊤ Refusal} (first : ended a middle ≡ import_of field fragments remainder) where
  pub import-export-refused : {x : Refusal} → a ≡ Err x → tripped (Err x) middle back ≡ fragments_back field fragments remainder back
  unfolding fragments_back import_of ending trip
  import-export-refused {x} e =
      let w = import_of field fragments remainder in
      ap₂ trip (back-refused x _ _ _ _ _ (refused-reply w middle e first) (refused-block w middle e first)) (left a middle first)

  module _ (e : a ≡ Ok tt) where
    imported : (import_of field fragments remainder).reply ≡ 0
    imported = done-reply (import_of field fragments remainder) middle e first

    import-middle : middle ≡ (import_of field fragments remainder).lent
    import-middle = left a middle first

    export-short : ¬ (length back ≡ length fragments) → reply field (length middle) (length back) (number_of middle) ≡ 6
    unfolding export_of ending
    export-short n =
        let right = import-right field fragments remainder imported in
        let lengths = fitting-lengths _ _ _ right.lengths in
        let whole = ap length (import-middle ∙ import-lent field fragments remainder imported) ∙ bytes_of-length (length remainder) (joined fragments) ∙ lengths.0 in
        export-lengths field middle back right.level (sym (lengths-count _ _ _ whole (sym (ne_eqb _ _ (λ l. n (l ∙ sym lengths.1))))))

    import-export-ends : {w : Ended} → Small fragments → w ≡ export_of field middle back → w ≡ (fragments_back field fragments remainder back).ends
    unfolding fragments_back export_of
    import-export-ends small second =
        let right = import-right field fragments remainder imported in
        let z = right-reply _ _ _ _ right in
        let f : Fragments fragments = record { count = (fitting-lengths _ _ _ right.lengths).1; small = small } in
        second ∙ elim (ℕ_discrete (length back) (length fragments)) [
          | yes l ↦ ap (λ m. export_of field m back) import-middle ∙ import-export field fragments remainder back f (l ∙ f.count) imported ∙ back_done _ _ _ fragments back z l
          | no l ↦ back-short _ _ _ _ _ _ _ z l (export-short l)
        ]

    pub import-export-done : (b : Result ⊤ Refusal) (after : List ℕ) → Small fragments → ended b after ≡ export_of field middle back
        → tripped b middle after ≡ fragments_back field fragments remainder back
    unfolding fragments_back trip
    import-export-done b after small second = ap₂ trip (import-export-ends small second) import-middle
