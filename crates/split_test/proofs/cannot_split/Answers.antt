use mathlib.Core.Path.{◌≡◌}
use Prim.Native.Nat.{ℕ, suc, ◌-◌}
use native.Mathlib.Omega.{arith}
use Rattle.split_test.proofs.cannot_split.Goals as goal

pub returns-then-len-lt2 : goal.returns-then-len-lt2
returns-then-len-lt2 c = λ e g. let z : ◌≡◌ {A = ℕ} 0 1 = cc in omega arith

pub may_split-requires : goal.may_split-requires
may_split-requires c = let p = c.requires in
    let q : c.args.len ≡ suc (suc (c.args.len - 2)) = omega arith in
    record { tables = p.tables; d_bound = (omega arith, rw q at p.len_bound.1) }

pub returns-then-may_split : goal.returns-then-may_split
returns-then-may_split c = λ e g. let z : ◌≡◌ {A = ℕ} 0 1 = cc in omega arith

pub returns : goal.returns
returns c = let q : c.args.len ≡ suc (suc (c.args.len - 2)) = omega arith in
    λ e g. c.may_split.ensures c.if-may_split.false (rw q at g)
