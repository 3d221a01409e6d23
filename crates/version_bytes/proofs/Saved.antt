-- The versions in use on flash: how they are written and read, number by number, and what loading them comes to, case by case.
--
-- put-none, put_next, put-end              how 16 numbers are written from chip select 0 up
-- read_next, read-end                      how they are read
-- load-length, load-unknown, load-done     loading
use mathlib.Core.Path.{◌≡◌, sym, ap, ap₂, ◌∙◌}
use mathlib.Core.Bool.{true, false}
use mathlib.Core.List.{List, [], ◌∷◌, ◌++◌, append_assoc, append-nil}
use Prim.Native.Nat.{ℕ, suc, ◌+◌, ◌-◌, ◌*◌, ◌/◌, ◌%◌, ◌<◌}
use native.Mathlib.Nat.{zero-add}
use native.Mathlib.Numerals.{add-one}
use native.Mathlib.Omega.{arith}
use lib.ListN.{length, get_or, take, set, length-append}
use lib.Seq.{drop-cons, take-suc-set, take-add, take_all, append_snoc, set_at, length-take-le}
use borrow.Author.Tests.{eq-eqb, ne_eqb}
use Rattle.bits.specs.Bits.{run}
use Rattle.bits.proofs.Runs.{run-append}
use Rattle.version_list.specs.Plain.{Listed, ended, with_uses}
use Rattle.version_bytes.specs.Saved.{bytes_from, saved, number_at, loaded, all_known, load_reply, load_of}

-- ---- writing

set_pair : (p : List ℕ) (x y : ℕ) (t : List ℕ) (k a b : ℕ) → length p ≡ k → set (set (p ++ (x ∷ y ∷ t)) k a) (suc k) b ≡ p ++ (a ∷ b ∷ t)
set_pair p x y t k a b e =
    ap (λ (l : List ℕ). set l (suc k) b) (set_at p x (y ∷ t) a k e ∙ sym (append_snoc p a (y ∷ t)))
    ∙ set_at (p ++ (a ∷ [])) y t b (suc k) (simp length-append (omega arith))
    ∙ append_snoc p a (b ∷ t)

-- a list with two elements more
take-pair : (l : List ℕ) (k : ℕ) → k + 1 < length l → take (k + 2) l ≡ take k l ++ (get_or l k 0 ∷ get_or l (suc k) 0 ∷ [])
take-pair l k h =
    take-add k 2 l
    ∙ ap (λ (x : List ℕ). take k l ++ take 2 x) (drop-cons l k 0 (omega arith) ∙ ap (λ (x : List ℕ). get_or l k 0 ∷ x) (drop-cons l (suc k) 0 (omega arith)))

pub put-none : (numbers buffer : List ℕ) → length buffer ≡ 32 → buffer ≡ take (32 - 2 * 0) buffer ++ bytes_from numbers 0
unfolding bytes_from
put-none numbers buffer h = sym (append-nil _ ∙ take_all 32 buffer (omega arith))

pub put_next : (numbers lent buffer : List ℕ) (c : ℕ) → c < 16 → length lent ≡ 32 → buffer ≡ take (32 - 2 * c) lent ++ bytes_from numbers c
    → set (set buffer (30 - 2 * c) (get_or numbers c 0 / 256 % 256)) (30 - 2 * c + 1) (get_or numbers c 0 % 256) ≡ take (32 - 2 * (c + 1)) lent ++ bytes_from numbers (c + 1)
unfolding bytes_from
put_next numbers lent buffer c h n e =
    let k = 30 - 2 * c in
    let high = get_or numbers c 0 / 256 % 256 in
    let low = get_or numbers c 0 % 256 in
    let k2 : 32 - 2 * c ≡ k + 2 = omega arith in
    let k0 : 32 - 2 * (c + 1) ≡ k = omega arith in
    ap (λ (j : ℕ). set (set buffer k high) j low) (add-one k)
    ∙ ap (λ (l : List ℕ). set (set l k high) (suc k) low)
    (e ∙ ap (λ (j : ℕ). take j lent ++ bytes_from numbers c) k2 ∙ ap (λ (l : List ℕ). l ++ bytes_from numbers c) (take-pair lent k (omega arith)) ∙ append_assoc (take k lent) _ _)
    ∙ set_pair (take k lent) _ _ _ k high low (length-take-le k lent (omega arith))
    ∙ sym (ap₂ (λ (j m : ℕ). take j lent ++ bytes_from numbers m) k0 (add-one c))

pub put-end : (numbers lent buffer : List ℕ) (c : ℕ) → c ≡ 16 → buffer ≡ take (32 - 2 * c) lent ++ bytes_from numbers c → buffer ≡ saved numbers
unfolding saved
put-end numbers lent buffer c h e = e ∙ rw h

-- ---- reading

pub read_next : (bytes numbers : List ℕ) (c v : ℕ) → c < length numbers → take c numbers ≡ run (number_at bytes) 0 c → v ≡ number_at bytes c
    → take (c + 1) (set numbers c v) ≡ run (number_at bytes) 0 (c + 1)
unfolding run
read_next bytes numbers c v h e w =
    ap (λ (k : ℕ). take k (set numbers c v)) (add-one c)
    ∙ take-suc-set numbers c v h
    ∙ ap₂ (λ (l : List ℕ) (x : ℕ). l ++ (x ∷ [])) e (w ∙ ap (number_at bytes) (sym (zero-add c)))
    ∙ sym (run-append (number_at bytes) 0 c 1)

pub read-end : (bytes numbers : List ℕ) (c : ℕ) → c ≡ 16 → length numbers ≡ 16 → take c numbers ≡ run (number_at bytes) 0 c → numbers ≡ loaded bytes
unfolding loaded
read-end bytes numbers c h n e = sym (take_all c numbers (omega arith)) ∙ e ∙ rw h

-- ---- loading

module _ (s : Listed) (bytes : List ℕ) where
  pub load-length : (length bytes ≡ 32 → ⊥) → ended 6 0 s ≡ load_of s bytes
  unfolding load_of load_reply
  load-length h = rw (ne_eqb (length bytes) 32 h)

  pub load-unknown : length bytes ≡ 32 → all_known s.layouts (loaded bytes) ≡ false → ended 7 0 s ≡ load_of s bytes
  unfolding load_of load_reply
  load-unknown h k = rw (eq-eqb (length bytes) 32 h, k)

  pub load-done : length bytes ≡ 32 → all_known s.layouts (loaded bytes) ≡ true → ended 0 0 (with_uses s (loaded bytes)) ≡ load_of s bytes
  unfolding load_of load_reply
  load-done h k = rw (eq-eqb (length bytes) 32 h, k)
