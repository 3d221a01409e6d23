-- Laws of numbers in bytes, the lowest byte first, of bytes that are kept, and of rows read from earlier on.
use mathlib.Core.Path.{◌≡◌, refl, sym, ap, ap₂, ◌∙◌}
use mathlib.Core.List.{List}
use Prim.Native.Nat.{ℕ, zero, suc, ◌+◌, ◌-◌, ◌*◌, ◌%◌, ◌^◌, ◌<◌, ◌≤◌}
use native.Mathlib.Omega.{arith}
use native.Mathlib.Numerals.{add-one}
use native.Mathlib.Nat.{add-zero, zero-mul, zero-add, add_comm, mod-eq_of_lt}
use lib.ListN.{get_or, drop}
use lib.Seq.{get_or-drop}
use lib.Pow as Pow
use lib.Pow.{pow_pos, pow-add}
use lib.Arith.{digits_lt}
use Rattle.wide.specs.Bytes.{little, Only}

-- each element is a byte
abbrev pub Bytes : List ℕ → Type 0
Bytes bs = (k : ℕ) → get_or bs k 0 < 256

pub next_power : (n : ℕ) → 2 ^ (8 * (n + 1)) ≡ 256 * 2 ^ (8 * n)
next_power n =
    let e : 8 * (n + 1) ≡ 8 + 8 * n = omega arith in
    ap (λ (k : ℕ). 2 ^ k) e ∙ pow-add 2 8 (8 * n)

pub little-next : (bs : List ℕ) (n : ℕ) → little bs (n + 1) ≡ get_or bs n 0 * 2 ^ (8 * n) + little bs n
unfolding little
little-next bs n = rw add-one refl

little-more : (bs : List ℕ) (n j : ℕ) → little bs (n + suc j) ≡ get_or bs (n + j) 0 * 2 ^ (8 * (n + j)) + little bs (n + j)
little-more bs n j = let e : n + suc j ≡ n + j + 1 = omega arith in ap (little bs) e ∙ little-next bs (n + j)

pub little-lt : (bs : List ℕ) → Bytes bs → (n : ℕ) → little bs n < 2 ^ (8 * n)
unfolding little
little-lt bs h zero = omega arith
little-lt bs h (suc n) =
    let p : 2 ^ (8 * suc n) ≡ 256 * 2 ^ (8 * n) = ap (λ (k : ℕ). 2 ^ (8 * k)) (sym (add-one n)) ∙ next_power n in
    rw p (digits_lt (h n) (little-lt bs h n))

-- the first bytes decide the number in them
pub little-agree : (vs bs : List ℕ) (n : ℕ) → ((k : ℕ) → k < n → get_or vs k 0 ≡ get_or bs k 0) → little vs n ≡ little bs n
unfolding little
little-agree vs bs zero e = refl
little-agree vs bs (suc n) e = ap₂ (λ (a b : ℕ). a * 2 ^ (8 * n) + b) (e n (omega arith)) (little-agree vs bs n (λ k h. e k (omega arith)))

-- the bytes from n on, and those before them
pub little-append : (bs : List ℕ) (n j : ℕ) → little bs (n + j) ≡ little (drop n bs) j * 2 ^ (8 * n) + little bs n
unfolding little
little-append bs n zero = rw (add-zero n, zero-mul (2 ^ (8 * n))) (sym (zero-add (little bs n)))
little-append bs n (suc j) =
    let i = little-append bs n j in
    let e : 8 * (n + j) ≡ 8 * j + 8 * n = omega arith in
    let p : 2 ^ (8 * (n + j)) ≡ 2 ^ (8 * j) * 2 ^ (8 * n) = ap (λ k. 2 ^ k) e ∙ pow-add 2 (8 * j) (8 * n) in
    let g = get_or-drop n bs j 0 in
    little-more bs n j ∙ rw (p, i, g) (omega arith)

pub little-mod : (bs : List ℕ) → Bytes bs → (n j : ℕ) → little bs (n + j) % 2 ^ (8 * n) ≡ little bs n
little-mod bs h n j = ap (λ x. x % 2 ^ (8 * n)) (little-append bs n j) ∙ Pow.low (little (drop n bs) j) (8 * n) (little-lt bs h n)

pub bytes_drop : (bs : List ℕ) → Bytes bs → (n : ℕ) → Bytes (drop n bs)
bytes_drop bs h n k = rw (get_or-drop n bs k 0) (h (n + k))

-- bytes that do not overlap with the changed ones are as they were

pub row-kept-lower : (before after : List ℕ) (at n : ℕ) → Only at n before after → (p m : ℕ) → p + m ≤ at → little (drop p after) m ≡ little (drop p before) m
row-kept-lower before after at n o p m l = little-agree (drop p after) (drop p before) m (λ k h. get_or-drop p after k 0 ∙ o.lower (p + k) (omega arith) ∙ sym (get_or-drop p before k 0))

pub row-kept-upper : (before after : List ℕ) (at n : ℕ) → Only at n before after → (p m : ℕ) → at + n ≤ p → little (drop p after) m ≡ little (drop p before) m
row-kept-upper before after at n o p m l = little-agree (drop p after) (drop p before) m (λ k h. get_or-drop p after k 0 ∙ o.upper (p + k) (omega arith) ∙ sym (get_or-drop p before k 0))

-- q bytes after p bytes
pub little-from : (bs : List ℕ) (p q n : ℕ) → little (drop q (drop p bs)) n ≡ little (drop (p + q) bs) n
little-from bs p q n =
    little-agree (drop q (drop p bs)) (drop (p + q) bs) n
    (λ k h. let e : p + (q + k) ≡ p + q + k = omega arith in get_or-drop q (drop p bs) k 0 ∙ get_or-drop p bs (q + k) 0 ∙ ap (λ i. get_or bs i 0) e ∙ sym (get_or-drop (p + q) bs k 0))

no-product : (a n : ℕ) → a * 2 ^ n ≡ 0 → a ≡ 0
no-product zero n e = refl
no-product (suc a) n e = let p : 0 < 2 ^ n = pow_pos n in absurd (omega arith)

-- a row with eight zero bytes before it, read from b bytes earlier on
pub row_up : (bs : List ℕ) → Bytes bs → (p b n : ℕ) → b ≤ 8 → little (drop p bs) 8 ≡ 0 → little (drop (p + 8) bs) n * 2 ^ (8 * b) < 2 ^ (8 * n)
    → little (drop (p + 8 - b) bs) n ≡ little (drop (p + 8) bs) n * 2 ^ (8 * b)
row_up bs h p b n l z r =
    let q : ℕ = p + 8 - b in
    let x : ℕ = little (drop (p + 8) bs) n in
    let e : p + (8 - b) ≡ q = omega arith in
    let f : 8 - b + b ≡ 8 = omega arith in
    let g : q + b ≡ p + 8 = omega arith in
    let zeros : little (drop (8 - b) (drop p bs)) b * 2 ^ (8 * (8 - b)) + little (drop p bs) (8 - b) ≡ 0 =
    sym (little-append (drop p bs) (8 - b) b) ∙ ap (little (drop p bs)) f ∙ z in
    let below : little (drop q bs) b ≡ 0 =
    ap (λ i. little (drop i bs) b) (sym e) ∙ sym (little-from bs p (8 - b) b) ∙ no-product _ (8 * (8 - b)) (omega arith) in
    let whole : little (drop q bs) (b + n) ≡ x * 2 ^ (8 * b) =
    little-append (drop q bs) b n ∙ ap₂ (λ y w. y * 2 ^ (8 * b) + w) (little-from bs q b n ∙ ap (λ i. little (drop i bs) n) g) below ∙ add-zero (x * 2 ^ (8 * b)) in
    sym (little-mod (drop q bs) (bytes_drop bs h q) n b) ∙ ap (λ k. little (drop q bs) k % 2 ^ (8 * n)) (add_comm n b) ∙ ap (λ y. y % 2 ^ (8 * n)) whole ∙ mod-eq_of_lt r
