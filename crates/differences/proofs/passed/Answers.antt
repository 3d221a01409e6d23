use mathlib.Core.Path.{◌≡◌, sym, ◌∙◌}
use Prim.Native.Nat.{◌%◌}
use native.Mathlib.Omega.{arith}
use borrow.Author.Tests.{eqb-true}
use Rattle.differences.proofs.Passing.{byte-free, one_free}
use Rattle.differences.proofs.passed.Goals as goal

pub returns-then-same_byte : goal.returns-then-same_byte
returns-then-same_byte c = let a = c.args in
    let start : a.p % 8 ≡ 0 = c.if-p-eq0.true in
    record {
      here = λ e. absurd (omega arith);
      free = λ i l. byte-free a.mark a.first.now a.second.now a.p i start (eqb-true _ _ (sym c.same_byte.ensures ∙ c.if-same_byte.true)) l;
      whole = λ l. start;
      short = omega arith;
    }

pub returns-then-differs_at : goal.returns-then-differs_at
returns-then-differs_at c = record {
  here = λ e. sym c.differs_at.ensures ∙ c.if-differs_at.true;
  free = λ i l. absurd (omega arith);
  whole = λ l. absurd (omega arith);
  short = omega arith;
}

pub returns : goal.returns
returns c = record {
  here = λ e. absurd (omega arith);
  free = λ i l. one_free _ _ _ c.args.p i l (sym c.differs_at.ensures ∙ c.if-differs_at.false);
  whole = λ l. absurd (omega arith);
  short = omega arith;
}
