use Prim.Native.Nat.{◌-◌}
use mathlib.Core.Path.{◌∙◌}
use native.Mathlib.Omega.{arith}
use native.Mathlib.Nat.{le_refl}
use lib.Pow.{pow_pos}
use borrow.Author.Rules.{rules}
use Rattle.register_shifts.proofs.Shifts.{raise-step, raise-end, register-room}
use Rattle.register_shifts.proofs.raised.Goals as goal

pub loop-left-init : goal.loop-left-init
loop-left-init c = (search rules, search rules, register-room c.args.state.words (λ k. search rules) (search rules))

pub pushed-r-requires : goal.pushed-r-requires
pushed-r-requires c = let s = c.loop-left in
    (search rules, search rules, search rules, search rules, s.invariant.2)

pub loop-left-preserved : goal.loop-left-preserved
loop-left-preserved c = let s = c.loop-left in
    (omega arith, raise-step _ s.left 63 _ (omega arith) c.pushed-r.ensures ∙ s.invariant.1, register-room c.pushed-r.result.words (λ k. search rules) (search rules))

pub returns-then-left-eq0 : goal.returns-then-left-eq0
returns-then-left-eq0 c = let s = c.loop-left in
    raise-end _ s.left _ (omega arith) s.invariant.2 s.invariant.1

pub pushed-requires : goal.pushed-requires
pushed-requires c = let s = c.loop-left in
    (search rules, omega arith, omega arith, pow_pos _, s.invariant.2)

pub returns : goal.returns
returns c = let s = c.loop-left in
    raise-end _ (s.left - s.left) _ (omega arith) (register-room c.pushed.result.words (λ k. search rules) (search rules))
    (raise-step _ s.left s.left _ (le_refl s.left) c.pushed.ensures ∙ s.invariant.1)
