use mathlib.Core.Path.{sym}
use Prim.Native.Nat.{◌≤◌}
use native.Mathlib.Omega.{arith}
use Rattle.store.specs.Answers.{listed}
use Rattle.version_list.specs.Places.{vacant}
use Rattle.version_list.proofs.Lookups.{held_small}
use Rattle.version_list.proofs.Steps.{looked-none, looked-found}
use Rattle.store.proofs.Store.find_version.Goals as goal

pub index_of-at-requires : goal.index_of-at-requires
index_of-at-requires c = rw c.held-count.ensures.0 (held_small _)

pub returns-then-count-at : goal.returns-then-count-at
unfolding listed
returns-then-count-at c = let h = c.held-count in
    sym (looked-none _ _ _ h.ensures.1 h.ensures.0 _ _ c.index_of-at.ensures c.if-count-at.true)

pub offset_bounds-self-at : goal.offset_bounds-self-at
offset_bounds-self-at c = let h : c.held-count.result ≤ 32 = rw c.held-count.ensures.0 (held_small _) in omega arith

pub bounds-self-at : goal.bounds-self-at
bounds-self-at c = let h : c.held-count.result ≤ 32 = rw c.held-count.ensures.0 (held_small _) in omega arith

pub returns : goal.returns
unfolding listed
returns c = let h = c.held-count in
    sym (looked-found _ _ _ h.ensures.1 h.ensures.0 _ _ c.index_of-at.ensures vacant c.if-count-at.false)
