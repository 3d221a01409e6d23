use mathlib.Core.Path.{◌≡◌, ap}
use mathlib.Core.List.{List, ◌++◌}
use Prim.Native.Nat.{ℕ}
use native.Mathlib.Omega.{arith}
use borrow.Author.Rules.{rules}
use lib.ListN.{length, drop}
use Rattle.bch.proofs.Replies.{report-list, report-none}
use Rattle.bch.proofs.request.report.Goals as goal

pub returns-then-not-found : goal.returns-then-not-found
returns-then-not-found c = report-none _ _ c.if-not-found.true

pub returns : goal.returns
returns c = let room : length c.args.found.exponents ≡ 64 = search rules in
    report-list _ _ c.if-not-found.false (omega arith) (ap (λ (l : List ℕ). l ++ drop c.args.found.count c.args.places.now) c.copy_from_slice.ensures.after)
