use Prim.Native.Nat.{◌+◌, ◌*◌, ◌/◌, ◌%◌}
use mathlib.Core.Path.{◌≡◌, refl, ◌∙◌}
use native.Mathlib.Omega.{arith}
use Rattle.division_steps.proofs.Steps.{parity-parts}
use Rattle.division.proofs.feed.feed_run.Goals as goal

pub start_run-first-requires : goal.start_run-first-requires
start_run-first-requires c = let p = c.requires in (p.0.wide, p.1, omega arith)

pub feed_words-all-requires : goal.feed_words-all-requires
feed_words-all-requires c = let p = c.requires in (p.0, c.start_run-first.ensures.0, omega arith)

pub finish_run-requires : goal.finish_run-requires
finish_run-requires c = let p = c.requires in (p.0, c.feed_words-all.ensures.0)

pub returns : goal.returns
returns c = let n = c.args.n in
    let f : n ≡ n % 64 + 64 * (n / 64) = omega arith in
    c.finish_run.ensures ∙ parity-parts _ _ _ _ _ (n % 64) (64 * (n / 64)) f refl (c.start_run-first.ensures.1 _) c.feed_words-all.ensures.1
