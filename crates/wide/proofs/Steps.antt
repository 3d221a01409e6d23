-- What the code's steps do: bytes joined to words, words added, words and bytes stored one after the other.
use mathlib.Core.Path.{◌≡◌, sym, ap, ap₂, ◌∙◌}
use mathlib.Core.List.{List}
use Prim.Native.Nat.{ℕ, ◌+◌, ◌-◌, ◌*◌, ◌/◌, ◌%◌, ◌^◌, ◌<◌, ◌≤◌}
use native.Mathlib.Omega.{arith}
use native.Mathlib.Nat.{add-zero}
use lib.ListN.{length, get_or, set, drop, length-drop}
use lib.Seq.{get_or-set_same, get_or-set_other, get_or-drop, drop-set-add}
use lib.Pow.{mod-pow-add}
use lib.Bits.{bit_xor, xor_block}
use Rattle.code.specs.Register.{low, register}
use Rattle.remainder.proofs.Words.{low-next, low-store, low-above, register-short}
use Rattle.wide.specs.Bytes.{little, Only}
use Rattle.wide.proofs.Bytes.{Bytes, little-next, little-lt, little-agree, little-append, little-from, row-kept-lower}

-- reading

pub four-joined : (l : List ℕ) (i : ℕ) {a b c d r : ℕ} → r ≡ d * 16777216 + c * 65536 + b * 256 + a
    → a ≡ get_or l i 0 → b ≡ get_or l (i + 1) 0 → c ≡ get_or l (i + 2) 0 → d ≡ get_or l (i + 3) 0 → r ≡ little (drop i l) 4
unfolding little
four-joined l i er ea eb ec ed =
    let xa : get_or (drop i l) 0 0 ≡ get_or l i 0 = get_or-drop i l 0 0 ∙ ap (λ k. get_or l k 0) (add-zero i) in
    omega (arith, get_or-drop i l 1 0, get_or-drop i l 2 0, get_or-drop i l 3 0)

pub halves-joined : (l : List ℕ) (i : ℕ) {u v r : ℕ} → r ≡ u * 4294967296 + v → v ≡ little (drop i l) 4 → u ≡ little (drop (i + 4) l) 4 → r ≡ little (drop i l) 8
halves-joined l i er ev eu = er ∙ ap₂ (λ (x y : ℕ). x * 4294967296 + y) (eu ∙ sym (little-from l i 4 4)) ev ∙ sym (little-append (drop i l) 4 4)

-- eight bytes more are a word more
word_next : (bs : List ℕ) (i : ℕ) → little bs (8 * (i + 1)) ≡ little (drop (8 * i) bs) 8 * 2 ^ (64 * i) + little bs (8 * i)
word_next bs i =
    let e : 8 * (i + 1) ≡ 8 * i + 8 = omega arith in
    let p : 8 * (8 * i) ≡ 64 * i = omega arith in
    ap (little bs) e ∙ little-append bs (8 * i) 8 ∙ ap (λ k. little (drop (8 * i) bs) 8 * 2 ^ k + little bs (8 * i)) p

words-lt : (bs : List ℕ) → Bytes bs → (i : ℕ) → little bs (8 * i) < 2 ^ (64 * i)
words-lt bs h i = let p : 8 * (8 * i) ≡ 64 * i = omega arith in rw p at (little-lt bs h (8 * i))

-- adding

pub xor-next : (ws vs bs : List ℕ) (i : ℕ) {x u : ℕ} → i < length ws → low vs i < 2 ^ (64 * i) → Bytes bs
    → low ws i ≡ bit_xor (little bs (8 * i)) (low vs i) → x ≡ little (drop (8 * i) bs) 8 → u ≡ get_or vs i 0
    → low (set ws i (bit_xor x u)) (i + 1) ≡ bit_xor (little bs (8 * (i + 1))) (low vs (i + 1))
xor-next ws vs bs i {x} {u} h hv hb inv ex eu =
    let y : ℕ = little (drop (8 * i) bs) 8 in
    low-store ws i (bit_xor x u) h
    ∙ ap₂ (λ (a b : ℕ). bit_xor a b * 2 ^ (64 * i) + low ws i) ex eu
    ∙ ap (λ (b : ℕ). bit_xor y (get_or vs i 0) * 2 ^ (64 * i) + b) inv
    ∙ sym (xor_block (64 * i) y (get_or vs i 0) (little bs (8 * i)) (low vs i) (words-lt bs hb i) hv)
    ∙ sym (ap₂ bit_xor (word_next bs i) (low-next vs i))

pub xor-end : (ws vs : List ℕ) (n y : ℕ) → n ≤ length vs → length ws ≡ length vs → low ws n ≡ bit_xor y (low vs n)
    → ((k : ℕ) → n ≤ k → get_or ws k 0 ≡ get_or vs k 0) → register vs < 2 ^ (64 * n) → register ws ≡ bit_xor y (register vs)
unfolding register
xor-end ws vs n y l es inv above hv =
    let e : length vs ≡ n + (length vs - n) = omega arith in
    let s : low vs (length vs) ≡ low vs n = register-short vs n l hv in
    let a : low ws (length vs) + low vs n ≡ low vs (length vs) + low ws n = rw e (low-above ws vs n above (length vs - n)) in
    rw (es, s) (omega arith)

-- storing

pub only_next : (at n x : ℕ) {ws vs : List ℕ} → Only at n ws vs → Only at (n + 1) ws (set vs (at + n) x)
only_next at n x {ws} {vs} o = record {
  lower = λ k h. get_or-set_other vs (at + n) k x 0 (λ z. omega arith) ∙ o.lower k h;
  upper = λ k h. get_or-set_other vs (at + n) k x 0 (λ z. omega arith) ∙ o.upper k (omega arith);
}

pub only-more : (at i : ℕ) {us vs ws : List ℕ} → Only at (8 * i) us vs → Only (at + 8 * i) 8 vs ws → Only at (8 * (i + 1)) us ws
only-more at i o q = record {
  lower = λ k h. q.lower k (omega arith) ∙ o.lower k h;
  upper = λ k h. q.upper k (omega arith) ∙ o.upper k (omega arith);
}

little-store : (bs : List ℕ) (i x : ℕ) → i < length bs → little (set bs i x) (i + 1) ≡ x * 2 ^ (8 * i) + little bs i
little-store bs i x h =
    little-next (set bs i x) i
    ∙ ap₂ (λ (a b : ℕ). a * 2 ^ (8 * i) + b) (get_or-set_same bs i x 0 h)
    (little-agree (set bs i x) bs i (λ k l. get_or-set_other bs i k x 0 (λ e. omega arith)))

-- one more byte of a word
pub byte-stored : (to i w x : ℕ) (bs : List ℕ) → to + i < length bs → little (drop to bs) i ≡ w % 2 ^ (8 * i) → x ≡ w / 2 ^ (8 * i) % 256
    → little (drop to (set bs (to + i) x)) (i + 1) ≡ w % 2 ^ (8 * (i + 1))
byte-stored to i w x bs l inv e =
    let h : i < length (drop to bs) = omega (arith, length-drop to bs) in
    let p : 8 * (i + 1) ≡ 8 + 8 * i = omega arith in
    rw (drop-set-add to bs i x) (little-store (drop to bs) i x h ∙ ap₂ (λ (a b : ℕ). a * 2 ^ (8 * i) + b) e inv ∙ sym (ap (λ k. w % 2 ^ k) p ∙ mod-pow-add w 8 (8 * i)))

-- one more word of a row
pub word-stored : (to i : ℕ) (bs vs ws : List ℕ) → little (drop to bs) (8 * i) ≡ low ws i → little (drop (to + 8 * i) vs) 8 ≡ get_or ws i 0 → Only (to + 8 * i) 8 bs vs
    → little (drop to vs) (8 * (i + 1)) ≡ low ws (i + 1)
word-stored to i bs vs ws inv e o =
    word_next (drop to vs) i
    ∙ ap₂ (λ (a b : ℕ). a * 2 ^ (64 * i) + b) (little-from vs to (8 * i) 8 ∙ e) (row-kept-lower bs vs (to + 8 * i) 8 o to (8 * i) (omega arith) ∙ inv)
    ∙ sym (low-next ws i)
