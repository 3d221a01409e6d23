-- The positions at which two pages differ, as a list.
--
-- listed-differs        every position of the list is one of the page's, and the pages differ there
-- differs-listed        every such position is in the list
-- positions-ascending   the list is ascending
-- next-lists            one who asks for the next position, and then from behind it on, is told the list
use mathlib.Core.Path.{◌≡◌, refl, sym, ◌∙◌}
use mathlib.Core.Bool.{Bool, true, false, true≢false}
use mathlib.Core.Logic.{inl, inr}
use mathlib.Core.List.Memᴰ
use mathlib.Core.List.{List, [], ◌∷◌, Memᴰ}
use Prim.Native.Nat.{ℕ, zero, suc, ◌+◌, ◌-◌, ◌*◌, ◌<◌, ◌≤◌}
use native.Mathlib.Omega.{arith}
use native.Mathlib.Decide.{ℕ_discrete}
use Rattle.mark.specs.declared.Mark.{Mark}
use Rattle.std.specs.Prelude.{Some, None}
use Rattle.differences.specs.Differences.{differs, next_of, next, positions_of, positions_from, positions, followed, Ascending, none, below}

module _ (k : Mark) (first second : List ℕ) where
  -- the clauses of the list and of the next position
  list-end : (p : ℕ) → positions_of k first second p 0 ≡ []
  unfolding positions_of
  list-end p = refl

  list-here : (p n : ℕ) → differs k first second p ≡ true
      → positions_of k first second p (suc n) ≡ p ∷ positions_of k first second (suc p) n
  unfolding positions_of
  list-here p n e = rw e

  list-past : (p n : ℕ) → differs k first second p ≡ false → positions_of k first second p (suc n) ≡ positions_of k first second (suc p) n
  unfolding positions_of
  list-past p n e = rw e

  next-end : (p : ℕ) → next_of k first second p 0 ≡ None
  unfolding next_of
  next-end p = refl

  next_here : (p n : ℕ) → differs k first second p ≡ true → next_of k first second p (suc n) ≡ Some p
  unfolding next_of
  next_here p n e = rw e

  next_past : (p n : ℕ) → differs k first second p ≡ false → next_of k first second p (suc n) ≡ next_of k first second (suc p) n
  unfolding next_of
  next_past p n e = rw e

  -- q is one of the n positions from p on, and the pages differ there
  record Within (p n q : ℕ) : Type 0 where
    least : p ≤ q
    most : q < p + n
    unlike : differs k first second q ≡ true

  listed-within : (n p q : ℕ) → Memᴰ q (positions_of k first second p n) → Within p n q
  listed-within zero p q m = absurd (Memᴰ.not-nil (rw (list-end p) at m))
  listed-within (suc n) p q m = go (listed-within n (suc p) q) (differs k first second p) refl
    where
      wider : Within (suc p) n q → Within p (suc n) q
      wider w = let l = w.least in let u = w.most in record { least = omega arith; most = omega arith; unlike = w.unlike }

      go : (Memᴰ q (positions_of k first second (suc p) n) → Within (suc p) n q) → (x : Bool) → differs k first second p ≡ x → Within p (suc n) q
      go later true e = elim (Memᴰ.cases_cons (rw (list-here p n e) at m)) [
        | inl s ↦ record { least = omega arith; most = omega arith; unlike = rw s e }
        | inr d ↦ wider (later d)
      ]
      go later false e = wider (later (rw (list-past p n e) at m))

  within-listed : (n p q : ℕ) → Within p n q → Memᴰ q (positions_of k first second p n)
  within-listed zero p q w = absurd (let l = w.least in let u = w.most in omega arith)
  within-listed (suc n) p q w = go (within-listed n (suc p) q) (differs k first second p) refl (ℕ_discrete p q)
    where
      narrower : (p ≡ q → ⊥) → Within (suc p) n q
      narrower h = let l = w.least in let u = w.most in record { least = omega arith; most = omega arith; unlike = w.unlike }

      go : (Within (suc p) n q → Memᴰ q (positions_of k first second (suc p) n)) → (x : Bool) → differs k first second p ≡ x → Dec (p ≡ q)
          → Memᴰ q (positions_of k first second p (suc n))
      go later true e (yes s) = rw (list-here p n e) (Memᴰ.head (sym s))
      go later true e (no s) = rw (list-here p n e) (Memᴰ.tail (later (narrower s)))
      go later false e (yes s) = absurd (true≢false (sym w.unlike ∙ rw (← s) e))
      go later false e (no s) = rw (list-past p n e) (later (narrower s))

  ascending-of : (n p : ℕ) → Ascending (positions_of k first second p n)
  ascending-of zero p = rw (list-end p) none
  ascending-of (suc n) p = go (ascending-of n (suc p)) (differs k first second p) refl
    where
      go : Ascending (positions_of k first second (suc p) n) → (x : Bool) → differs k first second p ≡ x
          → Ascending (positions_of k first second p (suc n))
      go later true e = rw (list-here p n e) (below (λ q m. (listed-within n (suc p) q m).least) later)
      go later false e = rw (list-past p n e) later

  module _ (size : ℕ) where
    whole : positions k size first second ≡ positions_of k first second 0 (8 * size)
    unfolding positions positions_from
    whole = let e : 8 * size - 0 ≡ 8 * size = omega arith in rw e

    -- The list is complete and ascending.
    pub listed-differs : (q : ℕ) → Memᴰ q (positions k size first second) → (q < 8 * size) × (differs k first second q ≡ true)
    listed-differs q m = let w = listed-within (8 * size) 0 q (rw whole at m) in let u = w.most in (omega arith, w.unlike)

    pub differs-listed : (q : ℕ) → q < 8 * size → differs k first second q ≡ true → Memᴰ q (positions k size first second)
    differs-listed q l e = rw whole (within-listed (8 * size) 0 q (record { least = omega arith; most = omega arith; unlike = e }))

    pub positions-ascending : Ascending (positions k size first second)
    positions-ascending = rw whole (ascending-of (8 * size) 0)

    -- The list is what asking again and again gives.
    follows : (n p : ℕ) → 8 * size - p ≡ n → positions_of k first second p n ≡ followed k size first second (next_of k first second p n)
    unfolding followed positions_from
    follows zero p e = rw (list-end p, next-end p)
    follows (suc n) p e = go (follows n (suc p)) (differs k first second p) refl
      where
        go : (8 * size - suc p ≡ n → positions_of k first second (suc p) n ≡ followed k size first second (next_of k first second (suc p) n))
            → (x : Bool) → differs k first second p ≡ x
            → positions_of k first second p (suc n) ≡ followed k size first second (next_of k first second p (suc n))
        go later true d = let l : 8 * size - suc p ≡ n = omega arith in rw (list-here p n d, next_here p n d, l)
        go later false d = rw (list-past p n d, next_past p n d) (later (omega arith))

    pub next-lists : (p : ℕ) → positions_from k size first second p ≡ followed k size first second (next k size first second p)
    unfolding positions_from next
    next-lists p = follows (8 * size - p) p refl
