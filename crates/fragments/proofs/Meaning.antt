-- What the calls promise, in the words of document 02, E9: which bit holds which coefficient, which bits are zero, which are refused.
use mathlib.Core.Path.{◌≡◌}
use mathlib.Core.Bool.{true, false}
use mathlib.Core.List.{List}
use Prim.Native.Nat.{ℕ, ◌+◌, ◌*◌, ◌^◌, ◌≤◌, ◌<◌}
use native.Mathlib.Omega.{arith}
use borrow.Author.Tests.{ne_eqb, le-ltb}
use lib.ListN.{length, get_or}
use Rattle.bits.specs.Bits.{bit}
use Rattle.replies.specs.Replies.{number}
use Rattle.remainder.specs.Remainder.{number_of, bytes_of}
use Rattle.register_fragments.specs.Fragments.{fragments_of, joined, Fragments}
use Rattle.fragments.specs.Calls.{offered, coefficients, fitting, ending, reply, export_of, import_of}
use Rattle.register_fragments.proofs.Numbers.{fragments-bit, fragments-unused, one-beyond, zeros-below}
use Rattle.fragments.proofs.Replies.{Right, offered-bits, right-reply, reply-right}

-- ---- refusals

-- A refusal changes nothing that was lent.
ending-keeps : (r : ℕ) (after before : List ℕ) → ¬ (r ≡ 0) → (ending r after before).lent ≡ before
unfolding ending
ending-keeps r after before n = rw (ne_eqb r 0 n)

module _ (field : ℕ) (remainder fragments : List ℕ) where
  pub export-keeps : ¬ ((export_of field remainder fragments).reply ≡ 0) → (export_of field remainder fragments).lent ≡ fragments
  unfolding export_of ending
  export-keeps n = ending-keeps _ _ _ n

  pub import-keeps : ¬ ((import_of field fragments remainder).reply ≡ 0) → (import_of field fragments remainder).lent ≡ remainder
  unfolding import_of ending
  import-keeps n = ending-keeps _ _ _ n

  -- Another level is 1 both ways, whatever else is wrong.
  pub export-level : offered field ≡ false → (export_of field remainder fragments).reply ≡ 1
  unfolding export_of ending reply number
  export-level h = rw h

  pub import-level : offered field ≡ false → (import_of field fragments remainder).reply ≡ 1
  unfolding import_of ending reply number
  import-level h = rw h

  -- Wrong lengths are 6, whatever the number.
  pub export-lengths : offered field ≡ true → fitting (coefficients field) (length remainder) (length fragments) ≡ false → (export_of field remainder fragments).reply ≡ 6
  unfolding export_of ending reply number
  export-lengths h l = rw (h, l)

  pub import-lengths : offered field ≡ true → fitting (coefficients field) (length remainder) (length fragments) ≡ false → (import_of field fragments remainder).reply ≡ 6
  unfolding import_of ending reply number
  import-lengths h l = rw (h, l)

-- ---- what is exported

module _ (field : ℕ) (remainder fragments : List ℕ) (done : (export_of field remainder fragments).reply ≡ 0) where
  pub export-right : Right field (length remainder) (length fragments) (number_of remainder)
  unfolding export_of ending
  export-right = reply-right _ _ _ _ done

  pub export-lent : (export_of field remainder fragments).lent ≡ fragments_of (number_of remainder)
  unfolding export_of ending
  export-lent = rw done

  -- Bit k of fragment i is the coefficient of x^(32 i + k): the lowest coefficient is in bit 0 of fragment 0.
  pub export-bit : (i k : ℕ) → i < 7 → k < 32 → bit (get_or (export_of field remainder fragments).lent i 0) k ≡ bit (number_of remainder) (32 * i + k)
  export-bit i k h l = rw export-lent (fragments-bit (number_of remainder) i k h l)

  -- Unused bits are zero.
  pub export-unused : (i k : ℕ) → i < 7 → k < 32 → coefficients field ≤ 32 * i + k → bit (get_or (export_of field remainder fragments).lent i 0) k ≡ 0
  export-unused i k h l u = rw export-lent (fragments-unused (number_of remainder) (coefficients field) i k export-right.low h l u)

  -- The start bit is zero.
  pub export-start : bit (get_or (export_of field remainder fragments).lent 6 0) 16 ≡ 0
  export-start = let b = offered-bits field export-right.level in export-unused 6 16 (omega arith) (omega arith) (omega arith)

-- ---- what is imported

module _ (field : ℕ) (fragments remainder : List ℕ) (done : (import_of field fragments remainder).reply ≡ 0) where
  pub import-right : Right field (length remainder) (length fragments) (joined fragments)
  unfolding import_of ending
  import-right = reply-right _ _ _ _ done

  pub import-lent : (import_of field fragments remainder).lent ≡ bytes_of (length remainder) (joined fragments)
  unfolding import_of ending
  import-lent = rw done

module _ (field : ℕ) (fragments remainder : List ℕ) (f : Fragments fragments) (level : offered field ≡ true)
    (lengths : fitting (coefficients field) (length remainder) (length fragments) ≡ true) where
  -- A one in an unused bit is 8.
  pub import-unused : (i k : ℕ) → i < 7 → k < 32 → coefficients field ≤ 32 * i + k → bit (get_or fragments i 0) k ≡ 1 → (import_of field fragments remainder).reply ≡ 8
  unfolding import_of ending reply number
  import-unused i k h l u e = rw (level, lengths, le-ltb (joined fragments) (2 ^ coefficients field) (one-beyond fragments (coefficients field) i k f h l u e))

  -- So is a one in the start bit, at every level.
  pub import-start : bit (get_or fragments 6 0) 16 ≡ 1 → (import_of field fragments remainder).reply ≡ 8
  import-start e = let b = offered-bits field level in import-unused 6 16 (omega arith) (omega arith) (omega arith) e

  -- Nothing else is refused.
  pub import-accepts : ((i k : ℕ) → i < 7 → k < 32 → coefficients field ≤ 32 * i + k → bit (get_or fragments i 0) k ≡ 0) → (import_of field fragments remainder).reply ≡ 0
  unfolding import_of ending
  import-accepts z = right-reply _ _ _ _ (record { level = level; lengths = lengths; low = zeros-below fragments (coefficients field) f z })
