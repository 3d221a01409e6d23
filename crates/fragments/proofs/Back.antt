-- Each call undoes the other, once over the level: a remainder that is exported comes back by import, and fragments that are imported by export.
use mathlib.Core.Path.{◌≡◌, sym, ◌∙◌}
use mathlib.Core.List.{List}
use Prim.Native.Nat.{ℕ, ◌*◌, ◌^◌, ◌≤◌, ◌<◌}
use native.Mathlib.Omega.{arith}
use native.Mathlib.Nat.{mod-eq_of_lt}
use lib.ListN.{length}
use lib.Pow.{pow_mono}
use Rattle.bits.specs.Bits.{Bytes}
use Rattle.remainder.specs.Remainder.{number_of, bytes_of}
use Rattle.register_digits.proofs.Bytes.{bytes_of-length, number_of-bytes_of, bytes_of-number_of}
use Rattle.std.specs.Prelude.{Ok}
use Rattle.replies.specs.Replies.{verdict_number, verdict_block}
use Rattle.register_fragments.specs.Fragments.{fragments_of, joined, Fragments}
use Rattle.remainder.specs.Remainder.{bytes_for}
use Rattle.fragments.specs.Calls.{coefficients, ended, ending, reply, export_of, import_of}
use Rattle.register_fragments.proofs.Numbers.{joined-fragments, fragments-joined, fragments-length}
use Rattle.fragments.proofs.Replies.{Right, offered-bits, fitting-lengths, right-reply}
use Rattle.fragments.proofs.Meaning.{export-right, export-lent, import-right, import-lent}

-- two requests with the same lengths and the same number
right-again : (field b c x : ℕ) {b' c' x' : ℕ} → Right field b c x → b' ≡ b → c' ≡ c → x' ≡ x → reply field b' c' x' ≡ 0
right-again field b c x h eb ec ex = rw (eb, ec, ex) (right-reply field b c x h)

done-ending : (r : ℕ) (after before lent : List ℕ) → r ≡ 0 → after ≡ lent → ending r after before ≡ ended (Ok tt) lent
unfolding ending ended verdict_number verdict_block
done-ending r after before lent z e = rw (z, e)

-- Export, then import into a remainder of the same length: `back` holds the remainder.
pub export-import : (field : ℕ) (remainder fragments back : List ℕ) → Bytes (length remainder) remainder → length back ≡ length remainder
    → (export_of field remainder fragments).reply ≡ 0 → import_of field (export_of field remainder fragments).lent back ≡ ended (Ok tt) remainder
unfolding import_of
export-import field remainder fragments back b l done =
    let right = export-right field remainder fragments done in
    let seven = (fitting-lengths _ _ _ right.lengths).1 in
    let x : ℕ = number_of remainder in
    let j : joined (fragments_of x) ≡ x = joined-fragments x (coefficients field) (omega (arith, offered-bits field right.level)) right.low in
    rw (export-lent field remainder fragments done) (done-ending _ _ back remainder
    (right-again field _ _ _ right l (fragments-length x ∙ sym seven) j)
    (rw (l, j) (bytes_of-number_of (length remainder) remainder b)))

-- the bytes of a remainder have room for its coefficients
whole : (x bits bytes : ℕ) → x < 2 ^ bits → bytes ≡ bytes_for bits → x < 2 ^ (8 * bytes)
unfolding bytes_for
whole x bits bytes h e = let m : 2 ^ bits ≤ 2 ^ (8 * bytes) = pow_mono (omega arith) in omega arith

-- Import, then export to seven fragments: `back` holds the fragments.
pub import-export : (field : ℕ) (fragments remainder back : List ℕ) → Fragments fragments → length back ≡ 7
    → (import_of field fragments remainder).reply ≡ 0 → export_of field (import_of field fragments remainder).lent back ≡ ended (Ok tt) fragments
unfolding export_of
import-export field fragments remainder back f l done =
    let right = import-right field fragments remainder done in
    let lengths = fitting-lengths _ _ _ right.lengths in
    let x : ℕ = joined fragments in
    let n : number_of (bytes_of (length remainder) x) ≡ x = number_of-bytes_of (length remainder) x ∙ mod-eq_of_lt (whole x (coefficients field) (length remainder) right.low lengths.0) in
    rw (import-lent field fragments remainder done) (done-ending _ _ back fragments
    (right-again field _ _ _ right (bytes_of-length (length remainder) x) (l ∙ sym lengths.1) n)
    (rw n (fragments-joined fragments f)))
