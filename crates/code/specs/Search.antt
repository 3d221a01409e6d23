-- Searches over all words at most t places away, and over all numbers below n. They are never run: the types say what they find,
-- and a reader need not read how.
--
-- Close P t w c        c has the length of w, has the property P and differs from w in at most t places
-- search P d t w       such a c, or that there is none
-- all-below P d n      that every number below n has the property P, or that not
use Rattle.std.specs.Prelude.{◌≡◌, refl, Bool, true, false, [], ◌∷◌, ℕ, zero, suc, ◌≤◌, ◌<◌, length}
use Rattle.std.proofs.Common.{ap, arith}
use Rattle.std.proofs.Math.Decide.{dec_lt}
use Rattle.algebra.specs.Word.{flip}
use Rattle.code.specs.Word.{Word, apart, distance}

pub record Close (P : Word → Type 0) (t : ℕ) (w c : Word) : Type 0 where
  pub same : length c ≡ length w
  pub holds : P c
  pub close : distance w c ≤ t

keep : (P : Word → Type 0) (t : ℕ) (b : Bool) (w : Word) (c : Word) → Close (λ v. P (b ∷ v)) t w c → Close P t (b ∷ w) (b ∷ c)
unfolding distance apart
keep P t true w c h = record { same = ap suc h.same; holds = h.holds; close = omega (arith, h.close) }
keep P t false w c h = record { same = ap suc h.same; holds = h.holds; close = omega (arith, h.close) }

turn : (P : Word → Type 0) (t : ℕ) (b : Bool) (w : Word) (c : Word) → Close (λ v. P (flip b ∷ v)) t w c → Close P (suc t) (b ∷ w) (flip b ∷ c)
unfolding distance apart flip
turn P t true w c h = record { same = ap suc h.same; holds = h.holds; close = omega (arith, h.close) }
turn P t false w c h = record { same = ap suc h.same; holds = h.holds; close = omega (arith, h.close) }

-- The first bit was kept or turned over.
kept-or-turned : (P : Word → Type 0) (t : ℕ) (b : Bool) (w : Word) {A : Type 0}
    → ((c : Word) → Close (λ v. P (b ∷ v)) t w c → A) → ((c : Word) (s : ℕ) → t ≡ suc s → Close (λ v. P (flip b ∷ v)) s w c → A) → (c : Word)
    → Close P t (b ∷ w) c → A
unfolding distance apart flip
kept-or-turned P t b w f g [] h = absurd (omega (arith, h.same))
kept-or-turned P t true w f g (true ∷ c) h = f c (record { same = omega (arith, h.same); holds = h.holds; close = omega (arith, h.close) })
kept-or-turned P t false w f g (false ∷ c) h = f c (record { same = omega (arith, h.same); holds = h.holds; close = omega (arith, h.close) })
kept-or-turned P zero true w f g (false ∷ c) h = absurd (omega (arith, h.close))
kept-or-turned P zero false w f g (true ∷ c) h = absurd (omega (arith, h.close))
kept-or-turned P (suc t) true w f g (false ∷ c) h = g c t refl (record { same = omega (arith, h.same); holds = h.holds; close = omega (arith, h.close) })
kept-or-turned P (suc t) false w f g (true ∷ c) h = g c t refl (record { same = omega (arith, h.same); holds = h.holds; close = omega (arith, h.close) })

pub search : (P : Word → Type 0) → ((w : Word) → Dec (P w)) → (t : ℕ) (w : Word) → Dec ((c : Word) × Close P t w c)
unfolding distance
search P d t [] = elim (d []) [
  | yes h ↦ yes ([], record { same = refl; holds = h; close = omega arith })
  | no h ↦ no (λ (c, k). h (empty c k))
]
  where
    empty : (c : Word) → Close P t [] c → P []
    empty [] k = k.holds
    empty (x ∷ c) k = absurd (omega (arith, k.same))
search P d zero (b ∷ w) = elim (search (λ v. P (b ∷ v)) (λ v. d (b ∷ v)) zero w) [
  | yes (c, h) ↦ yes (b ∷ c, keep P zero b w c h)
  | no n ↦ no (λ (c, h). kept-or-turned P zero b w (λ v k. n (v, k)) (λ v s e k. omega arith) c h)
]
search P d (suc t) (b ∷ w) = elim (search (λ v. P (b ∷ v)) (λ v. d (b ∷ v)) (suc t) w) [
  | yes (c, h) ↦ yes (b ∷ c, keep P (suc t) b w c h)
  | no n ↦ elim (search (λ v. P (flip b ∷ v)) (λ v. d (flip b ∷ v)) t w) [
    | yes (c, h) ↦ yes (flip b ∷ c, turn P t b w c h)
    | no k ↦ no (λ (c, h). kept-or-turned P (suc t) b w (λ v l. n (v, l)) (λ v s e l. k (v, (let q : t ≡ s = omega arith in rw q l))) c h)
  ]
]

pub all-below : (P : ℕ → Type 0) → ((j : ℕ) → Dec (P j)) → (n : ℕ) → Dec ((j : ℕ) → j < n → P j)
all-below P d zero = yes (λ j l. absurd (omega arith))
all-below P d (suc n) = elim (all-below P d n) [
  | no h ↦ no (λ k. h (λ j l. k j (omega arith)))
  | yes h ↦ elim (d n) [
    | no q ↦ no (λ k. q (k n (omega arith)))
    | yes q ↦ yes (λ j l. elim (dec_lt j n) [ yes m ↦ h j m | no m ↦ (let e : j ≡ n = omega arith in rw e q) ])
  ]
]
