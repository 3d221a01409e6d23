-- Tables filled one entry after the other, and the two tables of a field.
use mathlib.Core.Path.{◌≡◌, sym, ap, ◌∙◌, subst}
use mathlib.Core.Logic.{◌≢◌}
use mathlib.Core.List.{List}
use Prim.Native.Nat.{ℕ, zero, ◌+◌, ◌^◌, ◌≤◌, ◌<◌}
use native.Mathlib.Nat.{pos_of_ne-zero}
use native.Mathlib.Decide.{ℕ_discrete}
use native.Mathlib.Omega.{arith}
use lib.ListN.{length, get_or, set, length-set}
use lib.Seq.{get_or-set_same, get_or-set_other}
use Rattle.field.specs.declared.Field.{Field}
use Rattle.field.specs.Field.{degree, longest, pow, a^}
use Rattle.field.specs.Tables.{Tables}
use Rattle.field.proofs.Order.{logarithm, order-positive}
use Rattle.field.proofs.Primitive.{primitive}
use Rattle.stored_tables.specs.Powers.{Powers}
use Rattle.stored_tables.specs.Logs.{Logs}
use Rattle.powers.specs.Begun.{Begun}

-- ---- powers

module _ {f : Field} where
  pub begun-start : (l : List ℕ) → length l ≡ 16384 → Begun f 0 l
  begun-start l e = record { size = e; at = λ j h. absurd (omega arith) }

  pub begun-next : {k : ℕ} {l : List ℕ} (v : ℕ) → Begun f k l → k < 16384 → v ≡ a^ f k → Begun f (k + 1) (set l k v)
  begun-next {k} {l} v B h e = record { size = length-set l k v ∙ B.size; at = λ j b. at j b (ℕ_discrete j k) }
    where
      at : (j : ℕ) → j < k + 1 → Dec (j ≡ k) → get_or (set l k v) j 0 ≡ a^ f j
      at j b (yes z) = ap (λ i. get_or (set l k v) i 0) z ∙ get_or-set_same l k v 0 (omega (arith, B.size)) ∙ e ∙ ap (a^ f) (sym z)
      at j b (no n) = get_or-set_other l k j v 0 n ∙ B.at j (let d : j ≢ k = n in omega arith)

  pub begun-less : {k n : ℕ} {l : List ℕ} → Begun f k l → n ≤ k → Begun f n l
  begun-less B h = record { size = B.size; at = λ j b. B.at j (omega arith) }

  pub begun-end : {k : ℕ} {l : List ℕ} → Begun f k l → longest f ≤ k → Powers f l
  begun-end B h = record { at = λ j b. B.at j (omega arith) }

-- ---- both tables

pub first-power : (f : Field) {powers : List ℕ} → Powers f powers → get_or powers 0 0 ≡ 1
unfolding pow
first-power f P = P.at 0 (order-positive (primitive f))

-- the powers of a are all elements but 0
pub both-tables : (f : Field) {powers logs : List ℕ} → Powers f powers → Logs f logs → Tables f powers logs
both-tables f {powers} {logs} P L = record { powers-at = P.at; logs-below = λ x l. below x l (ℕ_discrete x 0); logs_at = λ x p l. (log x p l).1 }
  where
    log : (x : ℕ) → zero < x → x < 2 ^ degree f → (get_or logs x 0 < longest f) × (a^ f (get_or logs x 0) ≡ x)
    log x p l =
        let r : (k : ℕ) × (k < longest f) × (a^ f k ≡ x) = logarithm (primitive f) x p l in
        let e : get_or logs x 0 ≡ r.0 = ap (λ n. get_or logs n 0) (sym r.2) ∙ L.at r.0 r.1 in
        (subst (λ n. n < longest f) (sym e) r.1, ap (a^ f) e ∙ r.2)

    below : (x : ℕ) → x < 2 ^ degree f → Dec (x ≡ 0) → get_or logs x 0 < longest f
    below x l (yes z) = subst (λ n. n < longest f) (sym (ap (λ n. get_or logs n 0) z ∙ L.zero-at)) (order-positive (primitive f))
    below x l (no n) = (log x (pos_of_ne-zero n) l).0
