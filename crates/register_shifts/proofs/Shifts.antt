-- Laws of numbers in words of 64 bits that are moved up and down by digits, one word at a time.
use mathlib.Core.Path.{◌≡◌, sym, ap, ap₂, ◌∙◌}
use mathlib.Core.List.{List}
use Prim.Native.Nat.{ℕ, ◌+◌, ◌-◌, ◌*◌, ◌/◌, ◌%◌, ◌^◌, ◌<◌, ◌≤◌}
use native.Mathlib.Omega.{arith}
use native.Mathlib.Nat.{add-zero, add_comm, div-add-mod', mod-lt, mul-add-div_right, mul-add-mod_self_right, mul-le-mul_left, mul-mod_left, mod-eq_of_lt, zero-add, mul-one}
use lib.ListN.{length, get_or, set, drop, length-set}
use lib.Seq.{get_or-drop}
use lib.Pow as Pow
use lib.Pow.{split, mod-pow-add, shr_lt, shr-shr, shl-shr, pow_pos, pow-add}
use lib.Arith.{digits_lt}
use Rattle.code.specs.Register.{low, register}
use Rattle.remainder.proofs.Words.{Words, next_power, low-next, register-lt, low-above, register-short, low-store, low_first}

-- a word times 2^k, in two words
shift_word : (w k : ℕ) → k ≤ 64 → w * 2 ^ k % 18446744073709551616 + w / 2 ^ (64 - k) * 18446744073709551616 ≡ w * 2 ^ k
shift_word w k l =
    let e : k + (64 - k) ≡ 64 = omega arith in
    let q : w * 2 ^ k / 18446744073709551616 ≡ w / 2 ^ (64 - k) =
    ap (λ (n : ℕ). w * 2 ^ k / 2 ^ n) (sym e) ∙ sym (shr-shr (w * 2 ^ k) k (64 - k)) ∙ ap (λ (n : ℕ). n / 2 ^ (64 - k)) (shl-shr w k) in
    let s = split (w * 2 ^ k) 64 in
    rw (← q) (omega arith)

pub shift_fits : (w k c : ℕ) → k ≤ 64 → c < 2 ^ k → w * 2 ^ k % 18446744073709551616 + c < 18446744073709551616
shift_fits w k c l h =
    let e : 64 - k + k ≡ 64 = omega arith in
    let p : 2 ^ (64 - k) * 2 ^ k ≡ 18446744073709551616 = sym (pow-add 2 (64 - k) k) ∙ ap (λ (n : ℕ). 2 ^ n) e in
    let m : w * 2 ^ k % 18446744073709551616 ≡ w % 2 ^ (64 - k) * 2 ^ k + 0 =
    ap (λ (n : ℕ). w * 2 ^ k % 2 ^ n) (sym e) ∙ mod-pow-add (w * 2 ^ k) (64 - k) k
    ∙ ap₂ (λ (x y : ℕ). x % 2 ^ (64 - k) * 2 ^ k + y) (shl-shr w k) (mul-mod_left w (2 ^ k)) in
    let d = digits_lt (mod-lt w (pow_pos (64 - k))) h in
    omega arith

pub carry-below : (w k : ℕ) → k ≤ 64 → w < 18446744073709551616 → w / 2 ^ (64 - k) < 2 ^ k
carry-below w k l h = let e : k + (64 - k) ≡ 64 = omega arith in shr_lt k (64 - k) (rw e h)

-- a word is stored above the words that are done
pub store_below : (ws : List ℕ) (i v : ℕ) → i < length ws → v < 18446744073709551616 → low ws i < 2 ^ (64 * i) → low (set ws i v) (i + 1) < 2 ^ (64 * (i + 1))
store_below ws i v l f h = rw (low-store ws i v l, next_power i) (digits_lt f h)

-- a word w of a number, shifted and stored above those that are done
pub shift-store : (ws vs : List ℕ) (i k c b : ℕ) {w : ℕ} → k ≤ 64 → i < length ws → low ws i + c * 2 ^ (64 * i) ≡ low vs i * 2 ^ k + b → w ≡ get_or vs i 0
    → low (set ws i (w * 2 ^ k % 18446744073709551616 + c)) (i + 1) + w / 2 ^ (64 - k) * 2 ^ (64 * (i + 1)) ≡ low vs (i + 1) * 2 ^ k + b
shift-store ws vs i k c b {w} l h inv e =
    let P : ℕ = 2 ^ (64 * i) in
    let K : ℕ = 2 ^ k in
    let u : ℕ = w * K % 18446744073709551616 in
    let v : ℕ = w / 2 ^ (64 - k) in
    let d : (u + v * 18446744073709551616) * P ≡ w * K * P = ap (λ (x : ℕ). x * P) (shift_word w k l) in
    let s : low (set ws i (u + c)) (i + 1) ≡ (u + c) * P + low ws i = low-store ws i (u + c) h in
    let n : low vs (i + 1) ≡ w * P + low vs i = low-next vs i ∙ ap (λ (x : ℕ). x * P + low vs i) (sym e) in
    let q : v * 2 ^ (64 * (i + 1)) ≡ v * (18446744073709551616 * P) = ap (λ (x : ℕ). v * x) (next_power i) in
    let g : low vs (i + 1) * K ≡ (w * P + low vs i) * K = ap (λ (x : ℕ). x * K) n in
    omega arith

pub shift-next : (ws vs : List ℕ) (i k c b : ℕ) → k ≤ 64 → i < length ws → low ws i + c * 2 ^ (64 * i) ≡ low vs i * 2 ^ k + b → get_or ws i 0 ≡ get_or vs i 0
    → low (set ws i (get_or ws i 0 * 2 ^ k % 18446744073709551616 + c)) (i + 1) + get_or ws i 0 / 2 ^ (64 - k) * 2 ^ (64 * (i + 1)) ≡ low vs (i + 1) * 2 ^ k + b
shift-next ws vs i k c b l h inv e = shift-store ws vs i k c b l h inv e

-- what is left of a shifted number in as many words as it had
pub shift-end : (ws vs : List ℕ) (n k c b : ℕ) → n ≤ length vs → length ws ≡ length vs → low ws n < 2 ^ (64 * n) → low ws n + c * 2 ^ (64 * n) ≡ low vs n * 2 ^ k + b
    → ((j : ℕ) → n ≤ j → get_or ws j 0 ≡ get_or vs j 0) → register vs < 2 ^ (64 * n) → register ws ≡ (register vs * 2 ^ k + b) % 2 ^ (64 * n)
unfolding register
shift-end ws vs n k c b l es hw inv above h =
    let e : length vs ≡ n + (length vs - n) = omega arith in
    let s : low vs (length vs) ≡ low vs n = register-short vs n l h in
    let a : low ws (length vs) + low vs n ≡ low vs (length vs) + low ws n = rw e (low-above ws vs n above (length vs - n)) in
    let m : c * 2 ^ (64 * n) + low ws n ≡ low vs n * 2 ^ k + b = omega arith in
    rw (es, s, ← m) (omega arith ∙ sym (Pow.low c (64 * n) hw))

-- a number moved up by l digits, k of them first; what reaches N is lost
mod_times : (a b N : ℕ) → a % N * b % N ≡ a * b % N
mod_times a b N =
    let e : a * b ≡ a / N * b * N + a % N * b = ap (λ x. x * b) (sym (div-add-mod' a N)) ∙ omega arith in
    sym (ap (λ x. x % N) e ∙ mul-add-mod_self_right (a / N * b) N (a % N * b))

pub raise-step : (x l k N : ℕ) {y : ℕ} → k ≤ l → y ≡ (x * 2 ^ k + 0) % N → y * 2 ^ (l - k) % N ≡ x * 2 ^ l % N
raise-step x l k N {y} h ey =
    let e : l ≡ k + (l - k) = omega arith in
    let p : 2 ^ l ≡ 2 ^ k * 2 ^ (l - k) = ap (λ n. 2 ^ n) e ∙ pow-add 2 k (l - k) in
    let q : x * 2 ^ l ≡ x * 2 ^ k * 2 ^ (l - k) = ap (λ n. x * n) p ∙ omega arith in
    let z : y ≡ x * 2 ^ k % N = ey ∙ ap (λ n. n % N) (add-zero (x * 2 ^ k)) in
    ap (λ n. n * 2 ^ (l - k) % N) z ∙ mod_times (x * 2 ^ k) (2 ^ (l - k)) N ∙ ap (λ n. n % N) (sym q)

pub raise-end : (x l N : ℕ) {y : ℕ} → l ≡ 0 → x < N → x * 2 ^ l % N ≡ y → x ≡ y
raise-end x l N el h e = sym (ap (λ n. x * 2 ^ n % N) el ∙ ap (λ n. n % N) (mul-one x) ∙ mod-eq_of_lt h) ∙ e

pub raise-fits : (x l N : ℕ) → x * 2 ^ l < N → x < N
raise-fits x l N h = let m : x * 1 ≤ x * 2 ^ l = mul-le-mul_left x (pow_pos l) in omega arith

pub register-room : (ws : List ℕ) → Words ws → length ws ≡ 14 → register ws < 2 ^ 896
register-room ws h e = let l : register ws < 2 ^ (64 * length ws) = register-lt ws h in rw e at l

-- a number moved down by k digits, k below 64: the words of vs, each from two, are stored in ws
pub down_fits : (w v k : ℕ) → k ≤ 64 → w < 18446744073709551616 → w / 2 ^ k + v * 2 ^ (64 - k) % 18446744073709551616 < 18446744073709551616
down_fits w v k l h =
    let e : 64 - k + k ≡ 64 = omega arith in
    let c : w / 2 ^ k < 2 ^ (64 - k) = shr_lt (64 - k) k (rw e h) in
    let s = shift_fits v (64 - k) (w / 2 ^ k) (omega arith) c in
    omega arith

pub down-start : (ws vs : List ℕ) (k : ℕ) → low ws 0 + get_or vs 0 0 / 2 ^ k * 2 ^ (64 * 0) ≡ low vs (0 + 1) / 2 ^ k
unfolding low
down-start ws vs k = zero-add (get_or vs 0 0 / 2 ^ k * 1) ∙ mul-one (get_or vs 0 0 / 2 ^ k) ∙ ap (λ x. x / 2 ^ k) (sym (low_first vs))

pub down-next : (ws vs : List ℕ) (i k : ℕ) → k ≤ 64 → i < length ws → low ws i + get_or vs i 0 / 2 ^ k * 2 ^ (64 * i) ≡ low vs (i + 1) / 2 ^ k
    → low (set ws i (get_or vs i 0 / 2 ^ k + get_or vs (i + 1) 0 * 2 ^ (64 - k) % 18446744073709551616)) (i + 1) + get_or vs (i + 1) 0 / 2 ^ k * 2 ^ (64 * (i + 1)) ≡ low vs (i + 1 + 1) / 2 ^ k
down-next ws vs i k l h inv =
    let P : ℕ = 2 ^ (64 * i) in
    let w : ℕ = get_or vs (i + 1) 0 in
    let a : ℕ = get_or vs i 0 / 2 ^ k in
    let b : ℕ = w * 2 ^ (64 - k) % 18446744073709551616 in
    let L : ℕ = low vs (i + 1) in
    let e : 64 - (64 - k) ≡ k = omega arith in
    let f : 64 - k + k ≡ 64 = omega arith in
    let u : b + w / 2 ^ k * 18446744073709551616 ≡ w * 2 ^ (64 - k) = ap (λ n. b + w / 2 ^ n * 18446744073709551616) (sym e) ∙ shift_word w (64 - k) (omega arith) in
    let v : (b + w / 2 ^ k * 18446744073709551616) * P ≡ w * 2 ^ (64 - k) * P = ap (λ x. x * P) u in
    let t : 18446744073709551616 ≡ 2 ^ (64 - k) * 2 ^ k = sym (ap (λ n. 2 ^ n) f) ∙ pow-add 2 (64 - k) k in
    let n : low vs (i + 1 + 1) ≡ w * 2 ^ (64 - k) * P * 2 ^ k + L = low-next vs (i + 1) ∙ ap (λ x. w * x + L) (next_power i ∙ ap (λ x. x * P) t) ∙ omega arith in
    let d : low vs (i + 1 + 1) / 2 ^ k ≡ w * 2 ^ (64 - k) * P + L / 2 ^ k = ap (λ x. x / 2 ^ k) n ∙ mul-add-div_right (pow_pos k) (w * 2 ^ (64 - k) * P) L in
    let s : low (set ws i (a + b)) (i + 1) ≡ (a + b) * P + low ws i = low-store ws i (a + b) h in
    let p : w / 2 ^ k * 2 ^ (64 * (i + 1)) ≡ w / 2 ^ k * (18446744073709551616 * P) = ap (λ x. w / 2 ^ k * x) (next_power i) in
    omega arith

pub down-end : (ws vs : List ℕ) (n k : ℕ) → length ws ≡ n + 1 → length vs ≡ n + 1 → low ws n + get_or vs n 0 / 2 ^ k * 2 ^ (64 * n) ≡ low vs (n + 1) / 2 ^ k
    → register (set ws n (get_or vs n 0 / 2 ^ k)) ≡ register vs / 2 ^ k
unfolding register
down-end ws vs n k ew ev inv =
    let x : ℕ = get_or vs n 0 / 2 ^ k in
    let s = low-store ws n x (omega arith) in
    rw (length-set ws n x, ew, ev, s) (omega arith)

pub lower-end : (x k : ℕ) {y z : ℕ} → y ≡ x / 2 ^ (64 * (k / 64)) → z ≡ y / 2 ^ (k % 64) → z ≡ x / 2 ^ k
lower-end x k ey ez =
    let e : 64 * (k / 64) + k % 64 ≡ k = omega arith in
    ez ∙ ap (λ n. n / 2 ^ (k % 64)) ey ∙ shr-shr x (64 * (k / 64)) (k % 64) ∙ ap (λ n. x / 2 ^ n) e

pub lower-whole : (x k : ℕ) {y : ℕ} → k % 64 ≡ 0 → y ≡ x / 2 ^ (64 * (k / 64)) → y ≡ x / 2 ^ k
lower-whole x k z ey = let e : 64 * (k / 64) ≡ k = omega arith in ey ∙ ap (λ n. x / 2 ^ n) e

-- words moved down by q places
pub move-next : (ws vs : List ℕ) (q i : ℕ) → i < length ws → low ws i ≡ low (drop q vs) i → low (set ws i (get_or vs (i + q) 0)) (i + 1) ≡ low (drop q vs) (i + 1)
move-next ws vs q i h inv =
    let g : get_or vs (i + q) 0 ≡ get_or (drop q vs) i 0 = ap (λ k. get_or vs k 0) (add_comm i q) ∙ sym (get_or-drop q vs i 0) in
    low-store ws i (get_or vs (i + q) 0) h ∙ rw (g, inv) (sym (low-next (drop q vs) i))
