-- The listing `descending` descends, and a list that descends is the listing of its set.
--
-- Falling m ps    the list descends strictly, from below m on
use mathlib.Core.Path.{◌≡◌, refl, sym, ap₂, ◌∙◌}
use mathlib.Core.Bool.{true, false}
use mathlib.Core.List.{List, [], ◌∷◌}
use Prim.Native.Nat.{ℕ, zero, suc, ◌≤◌, ◌<◌}
use native.Mathlib.Omega.{arith}
use native.Mathlib.Decide.{dec_lt}
use lib.ListN.{length, get_or, replicate, length-replicate}
use Rattle.algebra.specs.Word.{differ}
use Rattle.code.specs.Word.{Word, flipped, descending}
use Rattle.code.proofs.Distance.{coefficient}
use Rattle.code.proofs.Codeword.{zeros-at}
use Rattle.code.proofs.Flips.{marks, marks-here, marks-other, marks-descending, marks-past, flipped-length, flipped-coefficient}

pub data Falling : ℕ → List ℕ → Type 0 where
  end : {m : ℕ} → Falling m []
  next : {m p : ℕ} {ps : List ℕ} → p < m → Falling p ps → Falling m (p ∷ ps)

pub each-falling : (m : ℕ) (ps : List ℕ) → (0 < length ps → get_or ps 0 0 < m) → ((i : ℕ) → suc i < length ps → get_or ps (suc i) 0 < get_or ps i 0) → Falling m ps
each-falling m [] h k = end
each-falling m (p ∷ ps) h k = next (h (omega arith)) (each-falling p ps (λ l. k 0 (omega arith)) (λ i l. k (suc i) (omega arith)))

pub falling-each : (m : ℕ) (ps : List ℕ) → Falling m ps → (i j : ℕ) → i < j → j < length ps → get_or ps j 0 < get_or ps i 0
falling-each m [] end i j l k = absurd (omega arith)
falling-each m (p ∷ ps) (next h r) i zero l k = absurd (omega arith)
falling-each m (p ∷ ps) (next h r) zero (suc j) l k = falling-from p ps r j (omega arith)
  where
    falling-from : (m : ℕ) (ps : List ℕ) → Falling m ps → (j : ℕ) → j < length ps → get_or ps j 0 < m
    falling-from m [] end j l = absurd (omega arith)
    falling-from m (p ∷ ps) (next h r) zero l = h
    falling-from m (p ∷ ps) (next h r) (suc j) l = let k = falling-from p ps r j (omega arith) in omega arith
falling-each m (p ∷ ps) (next h r) (suc i) (suc j) l k = falling-each p ps r i j (omega arith) (omega arith)

-- ---- a list that descends is known by its set

marks-above : (m : ℕ) (ps : List ℕ) (p : ℕ) → Falling m ps → m ≤ p → marks ps p ≡ false
marks-above m [] p end l = unfold marks in refl
marks-above m (q ∷ ps) p (next h r) l = marks-other q ps p (λ e. omega arith) ∙ marks-above q ps p r (omega arith)

marks-first : (p : ℕ) (ps : List ℕ) → Falling p ps → marks (p ∷ ps) p ≡ true
marks-first p ps r = marks-here p ps (marks-above p ps p r (omega arith))

marks-none : (p : ℕ) → marks [] p ≡ false
unfolding marks
marks-none p = refl

pub falling-ext : (m : ℕ) (ps qs : List ℕ) → Falling m ps → Falling m qs → ((p : ℕ) → marks ps p ≡ marks qs p) → ps ≡ qs
falling-ext m [] [] r s h = refl
falling-ext m [] (q ∷ qs) r (next l s) h =
    let e : false ≡ true = sym (marks-none q) ∙ h q ∙ marks-first q qs s in let z : ◌≡◌ {A = ℕ} 0 1 = cc in absurd (omega arith)
falling-ext m (p ∷ ps) [] (next l r) s h =
    let e : true ≡ false = sym (marks-first p ps r) ∙ h p ∙ marks-none p in let z : ◌≡◌ {A = ℕ} 0 1 = cc in absurd (omega arith)
falling-ext m (p ∷ ps) (q ∷ qs) (next k r) (next l s) h = go (dec_lt p q) (dec_lt q p) (falling-ext p ps qs r)
  where
    tail : p ≡ q → (x : ℕ) → Dec (x < p) → marks ps x ≡ marks qs x
    tail e x (yes i) = sym (marks-other p ps x (λ d. omega arith)) ∙ h x ∙ marks-other q qs x (λ d. omega arith)
    tail e x (no i) = marks-above p ps x r (omega arith) ∙ sym (marks-above q qs x s (omega arith))

    go : Dec (p < q) → Dec (q < p) → (Falling p qs → ((x : ℕ) → marks ps x ≡ marks qs x) → ps ≡ qs) → p ∷ ps ≡ q ∷ qs
    go (yes i) d c =
        let r' : Falling q (p ∷ ps) = next i r in
        let e : false ≡ true = sym (marks-above q (p ∷ ps) q r' (omega arith)) ∙ h q ∙ marks-first q qs s in
        let z : ◌≡◌ {A = ℕ} 0 1 = cc in absurd (omega arith)
    go (no i) (yes j) c =
        let s' : Falling p (q ∷ qs) = next j s in
        let e : true ≡ false = sym (marks-first p ps r) ∙ h p ∙ marks-above p (q ∷ qs) p s' (omega arith) in
        let z : ◌≡◌ {A = ℕ} 0 1 = cc in absurd (omega arith)
    go (no i) (no j) c = let e : p ≡ q = omega arith in ap₂ ◌∷◌ e (c (rw e s) (λ x. tail e x (dec_lt x p)))

-- ---- the listing of a set

falling-more : (m n : ℕ) (ps : List ℕ) → m ≤ n → Falling m ps → Falling n ps
falling-more m n [] l end = end
falling-more m n (p ∷ ps) l (next h r) = let k : p < n = omega arith in next k r

pub descending-falling : (w : Word) → Falling (length w) (descending w)
unfolding descending
descending-falling [] = end
descending-falling (true ∷ w) = let k : length w < suc (length w) = omega arith in next k (descending-falling w)
descending-falling (false ∷ w) = falling-more (length w) (suc (length w)) (descending w) (omega arith) (descending-falling w)

-- The sum of the powers of x with the exponents of a list that descends is listed as that list.
pub descending-flipped : (n : ℕ) (ps : List ℕ) → Falling n ps → descending (flipped (replicate n false) ps) ≡ ps
descending-flipped n ps r = falling-ext n _ ps (rw size at (descending-falling (flipped (replicate n false) ps))) r (λ p. each p (dec_lt p n))
  where
    size : length (flipped (replicate n false) ps) ≡ n
    size = flipped-length (replicate n false) ps ∙ length-replicate n false

    off : (p : ℕ) → coefficient (replicate n false) p ≡ false
    off p = unfold coefficient in zeros-at n _

    each : (p : ℕ) → Dec (p < n) → marks (descending (flipped (replicate n false) ps)) p ≡ marks ps p
    each p (yes l) = marks-descending _ p (rw size l) ∙ flipped-coefficient (replicate n false) ps p (rw (length-replicate n false) l)
        ∙ rw (off p) (unfold differ in refl)
    each p (no l) = marks-past _ p (rw size (omega arith)) ∙ sym (marks-above n ps p r (omega arith))
