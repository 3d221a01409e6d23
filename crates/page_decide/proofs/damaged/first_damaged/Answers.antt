use native.Mathlib.Omega.{arith}
use Rattle.page_decide.proofs.Scanning.{scanned-found, clean-next, scanned-first}
use Rattle.page_decide.proofs.damaged.first_damaged.Goals as goal

pub returns-then-not-clean : goal.returns-then-not-clean
returns-then-not-clean c = let p = c.requires in
    let z = p.block_value.0 in
    scanned-found _ _ _ (omega arith) p.ready.1 (λ k l m. absurd (omega arith)) c.is_zero-clean.ensures c.if-not-clean.true-raw

pub next_damaged-requires : goal.next_damaged-requires
next_damaged-requires c = let p = c.requires in
    let z = p.block_value.0 in
    record { ready = p.ready; block_lt_blocks = (let l = p.ready.0.plan.some in omega arith, p.block_value.1) }

pub returns : goal.returns
returns c = let p = c.requires in
    let z = p.block_value.0 in
    let h = rw z at (p.ready.1.left (let l = p.ready.0.plan.some in omega arith)) in
    scanned-first _ _ (clean-next _ _ _ (λ k l m. absurd (omega arith)) h c.is_zero-clean.ensures c.if-not-clean.false-raw) (rw z at c.next_damaged.ensures)
