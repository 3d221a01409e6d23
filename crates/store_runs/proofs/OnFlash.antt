-- "Write then load gives back the 16 numbers; load then write gives back the bytes" (document 02, E11).
--
-- saved-loaded         the 16 numbers come back, each a number of 16 bits
-- loaded-saved         the 32 bytes come back
-- save-then-load       of the calls: at the same state, and at any state that holds the versions in use
-- load-then-save       of the calls
use mathlib.Core.Path.{◌≡◌, refl, sym, ap, ap₂, ◌∙◌}
use mathlib.Core.Bool.{true}
use mathlib.Core.Logic.{⊎_elim}
use mathlib.Core.List.{List, ◌∷◌}
use Prim.Native.Nat.{ℕ, zero, suc, ◌+◌, ◌-◌, ◌*◌, ◌/◌, ◌%◌, ◌≤◌, ◌<◌}
use native.Mathlib.Nat.{zero-add, eq-or-lt_of_le}
use native.Mathlib.Omega.{arith}
use lib.ListN.{length, get_or, drop, drop_of_length-le}
use lib.Seq.{drop-cons}
use borrow.Author.Tests.{eq-eqb}
use Rattle.bits.specs.Bits.{Bytes}
use Rattle.bits.proofs.Runs.{run_at, run-ext}
use Rattle.version_list.specs.Plain.{Listed, Ended, ended, with_uses}
use Rattle.version_bytes.specs.Saved.{bytes_from, saved, number_at, loaded, Saving, saving, save_of, all_known, load_of}
use Rattle.version_bytes.proofs.Saved.{load-done}
use Rattle.store_runs.specs.Reached.{Reached}
use Rattle.store_runs.proofs.Changes.{load-cases}
use Rattle.store_runs.proofs.Lists.{all_small}

-- ---- the numbers

bytes-length : (uses : List ℕ) (n : ℕ) → length (bytes_from uses n) ≡ 2 * n
unfolding bytes_from
bytes-length uses zero = refl
bytes-length uses (suc n) = let i = bytes-length uses n in omega arith

-- where the bytes of chip select c stand
high-at : (uses : List ℕ) (n c : ℕ) → c < n → get_or (bytes_from uses n) (2 * (n - suc c)) 0 ≡ get_or uses c 0 / 256 % 256
unfolding bytes_from
high-at uses zero c h = absurd (omega arith)
high-at uses (suc n) c h =
    ⊎_elim
    (λ (e : c ≡ n). let z : 2 * (suc n - suc c) ≡ 0 = omega arith in rw (z, e))
    (λ (l : c < n). let z : 2 * (suc n - suc c) ≡ suc (suc (2 * (n - suc c))) = omega arith in rw z (high-at uses n c l))
    (eq-or-lt_of_le {n = c} {m = n} (omega arith))

low-at : (uses : List ℕ) (n c : ℕ) → c < n → get_or (bytes_from uses n) (suc (2 * (n - suc c))) 0 ≡ get_or uses c 0 % 256
unfolding bytes_from
low-at uses zero c h = absurd (omega arith)
low-at uses (suc n) c h =
    ⊎_elim
    (λ (e : c ≡ n). let z : 2 * (suc n - suc c) ≡ 0 = omega arith in rw (z, e))
    (λ (l : c < n). let z : 2 * (suc n - suc c) ≡ suc (suc (2 * (n - suc c))) = omega arith in rw z (low-at uses n c l))
    (eq-or-lt_of_le {n = c} {m = n} (omega arith))

number-back : (uses : List ℕ) (c : ℕ) → c < 16 → get_or uses c 0 < 65536 → number_at (saved uses) c ≡ get_or uses c 0
unfolding number_at saved
number-back uses c h small =
    let a : 30 - 2 * c ≡ 2 * (16 - suc c) = omega arith in
    let b : 31 - 2 * c ≡ suc (2 * (16 - suc c)) = omega arith in
    rw (a, b, high-at uses 16 c h, low-at uses 16 c h) (omega arith)

pub saved-loaded : (uses : List ℕ) → length uses ≡ 16 → ((i : ℕ) → get_or uses i 0 < 65536) → loaded (saved uses) ≡ uses
unfolding loaded
saved-loaded uses n small =
    run-ext (number_at (saved uses)) 0 uses 16 0 n (λ c h. ap (number_at (saved uses)) (zero-add c) ∙ number-back uses c h (small c))

-- ---- the bytes

number_of : (bytes : List ℕ) (n : ℕ) → n < 16 → get_or (loaded bytes) n 0 ≡ 256 * get_or bytes (30 - 2 * n) 0 + get_or bytes (suc (30 - 2 * n)) 0
unfolding loaded number_at
number_of bytes n h =
    let b : 31 - 2 * n ≡ suc (30 - 2 * n) = omega arith in
    run_at (number_at bytes) 0 16 n 0 h ∙ ap (number_at bytes) (zero-add n) ∙ ap (λ (j : ℕ). 256 * get_or bytes (30 - 2 * n) 0 + get_or bytes j 0) b

loaded-from : (bytes : List ℕ) → Bytes 32 bytes → (n : ℕ) → n ≤ 16 → bytes_from (loaded bytes) n ≡ drop (32 - 2 * n) bytes
unfolding bytes_from
loaded-from bytes h zero k = let l = h.count in sym (drop_of_length-le bytes {i = 32 - 2 * 0} (omega arith))
loaded-from bytes h (suc n) k =
    let l = h.count in
    let at = 30 - 2 * n in
    let z : 32 - 2 * suc n ≡ at = omega arith in
    let y : 32 - 2 * n ≡ suc (suc at) = omega arith in
    let high = h.small at in
    let low = h.small (suc at) in
    let e : get_or (loaded bytes) n 0 ≡ 256 * get_or bytes at 0 + get_or bytes (suc at) 0 = number_of bytes n (omega arith) in
    let p : get_or (loaded bytes) n 0 / 256 % 256 ≡ get_or bytes at 0 = omega arith in
    let q : get_or (loaded bytes) n 0 % 256 ≡ get_or bytes (suc at) 0 = omega arith in
    ap₂ (λ (a b : ℕ). a ∷ b ∷ bytes_from (loaded bytes) n) p q
    ∙ ap (λ (r : List ℕ). get_or bytes at 0 ∷ get_or bytes (suc at) 0 ∷ r) (loaded-from bytes h n (omega arith) ∙ ap (λ (j : ℕ). drop j bytes) y)
    ∙ ap (λ (r : List ℕ). get_or bytes at 0 ∷ r) (sym (drop-cons bytes (suc at) 0 (omega arith)))
    ∙ sym (drop-cons bytes at 0 (omega arith))
    ∙ ap (λ (j : ℕ). drop j bytes) (sym z)

pub loaded-saved : (bytes : List ℕ) → Bytes 32 bytes → saved (loaded bytes) ≡ bytes
unfolding saved
loaded-saved bytes h = loaded-from bytes h 16 (omega arith)

-- ---- the calls

saved-bytes : (s : Listed) (lent : List ℕ) → length lent ≡ 32 → save_of s lent ≡ saving 0 (saved s.uses)
unfolding save_of
saved-bytes s lent h = rw (eq-eqb (length lent) 32 h)

-- At any state that holds the versions in use, the one that was written is put to use again.
pub save-then-load : (s t : Listed) → Reached s → (lent : List ℕ) → length lent ≡ 32 → all_known t.layouts s.uses ≡ true
    → load_of t (save_of s lent).bytes ≡ ended 0 0 (with_uses t s.uses)
unfolding saved
save-then-load s t r lent h k =
    let small = all_small s.uses r.some r.fresh r.uses in
    let back = saved-loaded s.uses r.chips (λ i. omega (arith, small i, r.bound)) in
    ap (λ (x : Saving). load_of t x.bytes) (saved-bytes s lent h)
    ∙ sym (load-done t (saved s.uses) (bytes-length s.uses 16) (rw back k))
    ∙ ap (λ (x : List ℕ). ended 0 0 (with_uses t x)) back

pub load-then-save : (s : Listed) (bytes lent : List ℕ) → Bytes 32 bytes → length lent ≡ 32 → (load_of s bytes).reply ≡ 0
    → save_of (load_of s bytes).store lent ≡ saving 0 bytes
unfolding with_uses
load-then-save s bytes lent b h e =
    ⊎_elim
    (λ k. absurd (k.reply e))
    (λ k.
    saved-bytes (load_of s bytes).store lent h
    ∙ ap (λ (x : Ended). saving 0 (saved x.store.uses)) k.is
    ∙ ap (saving 0) (loaded-saved bytes b))
    (load-cases s bytes)
