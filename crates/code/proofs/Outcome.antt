-- What a block gives, by `judge`, is what it should be: exactly `Repaired`, exactly `Erased` or exactly `Refused`.
use mathlib.Core.Path.{◌≡◌, refl, sym, ap, ap₂, ◌∙◌}
use Prim.Native.Nat.{ℕ, ◌+◌, ◌*◌, ◌≤◌, ◌<◌}
use native.Mathlib.Omega.{arith}
use native.Mathlib.Decide.{dec_le}
use mathlib.Core.Bool.{Bool, true, false}
use lib.ListN.{length, take, replicate, length-replicate}
use lib.Seq.{length-take-le}
use lib.Dec.{leb}
use borrow.Author.Tests.{le-leb, lt-leb, leb-true, leb-false}
use Rattle.field.specs.declared.Field.{Field}
use Rattle.code.specs.Word.{Word, distance, zeros}
use Rattle.code.specs.Code.{Codeword, Near, Ruined, Fits}
use Rattle.code.specs.Outcome.{nearest, good, erased, ruined, judge_by, judge, erased_count, Repaired, Erased, Gives, by-codeword, by-zeros, Refused}
use Rattle.code.proofs.Distance.{distance-comm, distance_self, distance-triangle}
use Rattle.code.proofs.Codeword.{codeword-distance, near-unique}

pub near-repairs : (f : Field) (t k : ℕ) (w c : Word) → Near f t w c → Repaired f t k w (take k c) (distance w c)
near-repairs f t k w c x = record { word = c; near = x; message = refl; count = refl }

pub near-gives : (f : Field) (t k : ℕ) (w c : Word) → Near f t w c → Gives f t k w (take k c) (distance w c)
near-gives f t k w c x = by-codeword (near-repairs f t k w c x)

pub gives-length : (f : Field) (t k : ℕ) (w m : Word) (n : ℕ) → k ≤ length w → Gives f t k w m n → length m ≡ k
gives-length f t k w m n l (by-codeword g) = rw g.message (length-take-le k g.word (omega (arith, g.near.same)))
gives-length f t k w m n l (by-zeros g) = rw g.message (length-replicate k true)

-- A block that gives a message is not refused.
pub gives-sound : (f : Field) (t k : ℕ) (w m : Word) (n : ℕ) → Gives f t k w m n → Refused f t w → ⊥
gives-sound f t k w m n (by-codeword g) h = h.none.none g.word g.near
gives-sound f t k w m n (by-zeros g) h = omega (arith, g.few, h.many)

pub judge-repaired : (f : Field) (t k : ℕ) (w m : Word) (n : ℕ) → Fits f t (length w) → Repaired f t k w m n → judge f t k w ≡ good m n
unfolding judge judge_by
judge-repaired f t k w m n h g = go (nearest f t w) (leb (zeros w) t)
  where
    go : (d : Dec ((c : Word) × Near f t w c)) (few : Bool) → judge_by k d few ≡ good m n
    go (yes (v, y)) few = ap₂ good
        (ap (take k) (near-unique f t w v g.word h y g.near) ∙ sym g.message)
        (ap (distance w) (near-unique f t w v g.word h y g.near) ∙ sym g.count)
    go (no r) few = absurd (r (g.word, g.near))

pub repaired-judge : (f : Field) (t k : ℕ) (w m : Word) (n : ℕ) → judge f t k w ≡ good m n → Repaired f t k w m n
unfolding judge judge_by
repaired-judge f t k w m n h = go (nearest f t w) (leb (zeros w) t) h
  where
    go : (d : Dec ((c : Word) × Near f t w c)) (few : Bool) → judge_by k d few ≡ good m n → Repaired f t k w m n
    go (yes (v, y)) few e = record { word = v; near = y; message = cc; count = cc }
    go (no q) true e = let z : ◌≡◌ {A = ℕ} 0 1 = cc in absurd (omega arith)
    go (no q) false e = let z : ◌≡◌ {A = ℕ} 0 1 = cc in absurd (omega arith)

pub judge-erased : (f : Field) (t k : ℕ) (w : Word) → Ruined f t w → zeros w ≤ t → judge f t k w ≡ erased (replicate k true) (zeros w)
unfolding judge judge_by
judge-erased f t k w h few = rw (le-leb (zeros w) t few) (go (nearest f t w))
  where
    go : (d : Dec ((c : Word) × Near f t w c)) → judge_by k d true ≡ erased (replicate k true) (zeros w)
    go (yes (v, y)) = absurd (h.none v y)
    go (no q) = refl

pub erased-judge : (f : Field) (t k : ℕ) (w m : Word) (n : ℕ) → judge f t k w ≡ erased m n → Erased f t k w m (erased_count n)
unfolding judge judge_by
erased-judge f t k w m n h = go (nearest f t w) (leb (zeros w) t) refl h
  where
    go : (d : Dec ((c : Word) × Near f t w c)) (few : Bool) → leb (zeros w) t ≡ few → judge_by k d few ≡ erased m n → Erased f t k w m (erased_count n)
    go (yes (v, y)) few l e = let z : ◌≡◌ {A = ℕ} 0 1 = cc in absurd (omega arith)
    go (no q) true l e =
        record { none = record { none = λ c x. q (c, x) }; few = leb-true (zeros w) t l; message = cc; count = ap erased_count (cc) }
    go (no q) false l e = let z : ◌≡◌ {A = ℕ} 0 1 = cc in absurd (omega arith)

pub judge-refused : (f : Field) (t k : ℕ) (w : Word) → Refused f t w → judge f t k w ≡ ruined
unfolding judge judge_by
judge-refused f t k w h = rw (lt-leb (zeros w) t h.many) (go (nearest f t w))
  where
    go : (d : Dec ((c : Word) × Near f t w c)) → judge_by k d false ≡ ruined
    go (yes (v, y)) = absurd (h.none.none v y)
    go (no n) = refl

pub refused-judge : (f : Field) (t k : ℕ) (w : Word) → judge f t k w ≡ ruined → Refused f t w
unfolding judge judge_by
refused-judge f t k w h = go (nearest f t w) (leb (zeros w) t) refl h
  where
    go : (d : Dec ((c : Word) × Near f t w c)) (few : Bool) → leb (zeros w) t ≡ few → judge_by k d few ≡ ruined → Refused f t w
    go (yes (v, y)) few l e = let z : ◌≡◌ {A = ℕ} 0 1 = cc in absurd (omega arith)
    go (no n) true l e = let z : ◌≡◌ {A = ℕ} 0 1 = cc in absurd (omega arith)
    go (no n) false l e = record { none = record { none = λ c x. n (c, x) }; many = leb-false (zeros w) t l }

-- A codeword gives its own message and no flips.
pub judge-codeword : (f : Field) (t k : ℕ) (w : Word) → Fits f t (length w) → Codeword f t w → judge f t k w ≡ good (take k w) 0
judge-codeword f t k w h c =
    judge-repaired f t k w _ _ h (near-repairs f t k w w (record { same = refl; code = c; close = omega (arith, distance_self w) }))
    ∙ ap (good (take k w)) (distance_self w)

-- A block damaged past its level, and read all the same, reports at least 2t + 1 less the number of its flips.
pub judge-worn : (f : Field) (t k : ℕ) (w c m : Word) (n : ℕ) → Fits f t (length w) → length c ≡ length w → Codeword f t c → t < distance w c
    → judge f t k w ≡ good m n → 2 * t + 1 ≤ n + distance w c
judge-worn f t k w c m n h l x far e = let g = repaired-judge f t k w m n e in let d = g.word in let y = g.near in let z = g.count in
    let r = distance-triangle c w d l (sym y.same) in let s = distance-comm c w l in
    elim (dec_le (distance c d) (2 * t)) [
      | no q ↦ omega arith
      | yes q ↦ (let i : c ≡ d = codeword-distance f t c d (record { short = λ p. omega (arith, h.short p); level = h.level }) (l ∙ sym y.same) x y.code q in
          let u : distance w c ≡ distance w d = ap (distance w) i in let v = y.close in absurd (omega arith))
    ]

-- At t = 0 every word is a codeword: no block is erased, and none is refused.
pub judge-plain : (f : Field) (k : ℕ) (w : Word) → judge f 0 k w ≡ good (take k w) 0
judge-plain f k w =
    judge-codeword f 0 k w (record { short = λ p. absurd (omega arith); level = omega arith }) (record { zeros = λ j l m. absurd (omega arith) })

-- A count below 128 is a number of flips, any other that of an erased block.
pub count-flips : (f : Field) (t k : ℕ) (w m : Word) (n : ℕ) → t ≤ 62 → Gives f t k w m n → n < 128 → Repaired f t k w m n
unfolding erased_count
count-flips f t k w m n h (by-codeword g) l = g
count-flips f t k w m n h (by-zeros g) l = absurd (omega (arith, g.count))

pub count_zeros : (f : Field) (t k : ℕ) (w m : Word) (n : ℕ) → t ≤ 62 → Gives f t k w m n → 128 ≤ n → Erased f t k w m n
count_zeros f t k w m n h (by-codeword g) l = absurd (omega (arith, g.count, g.near.close))
count_zeros f t k w m n h (by-zeros g) l = g

-- So every count fits a byte.
pub gives-count : (f : Field) (t k : ℕ) (w m : Word) (n : ℕ) → t ≤ 62 → Gives f t k w m n → n ≤ 190
unfolding erased_count
gives-count f t k w m n h (by-codeword g) = omega (arith, g.count, g.near.close)
gives-count f t k w m n h (by-zeros g) = omega (arith, g.count, g.few)
