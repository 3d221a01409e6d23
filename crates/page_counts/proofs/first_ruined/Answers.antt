use native.Mathlib.Omega.{arith}
use borrow.Author.Count.{below_more}
use borrow.Author.Rules.{rules}
use Rattle.page_counts.proofs.first_ruined.Goals as goal

pub loop-b-init : goal.loop-b-init
loop-b-init c = λ k l. absurd (omega arith)

pub returns-then-counts-b : goal.returns-then-counts-b
returns-then-counts-b c = record {
  found = (search rules, record { inside = search rules; ruined = λ l. c.if-counts-b.true; lower = c.loop-b.invariant });
  none = search rules;
}

pub loop-b-preserved : goal.loop-b-preserved
loop-b-preserved c = below_more _ _ c.loop-b.invariant c.if-counts-b.false

pub returns : goal.returns
returns c = record {
  found = search rules;
  none = record { inside = search rules; ruined = λ l. absurd (omega arith); lower = λ k l. c.loop-b.invariant k (omega arith) };
}
