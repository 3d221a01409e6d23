use mathlib.Core.Path.{◌≡◌, sym, ap, ◌∙◌}
use mathlib.Core.List.{List}
use Prim.Native.Nat.{ℕ, ◌+◌, ◌-◌, ◌<◌}
use native.Mathlib.Omega.{arith}
use lib.ListN.{length, get_or}
use Rattle.std.specs.Prelude.{reverse}
use borrow.Author.Rules.{rules}
use Rattle.std.proofs.lemmas.Grind.{get_or_default_zero}
use Rattle.std.proofs.lemmas.Iterator.Adapters.{YieldsList-from_rev_slice}
use Rattle.std.proofs.lemmas.Iterator.Consumers.{YieldsList-turn}
use Rattle.std.proofs.lemmas.List.{get_or-reverse, length-reverse, length_push}
use Rattle.register_fragments.proofs.Numbers.{joined_end, joined-next, joined-room}
use Rattle.register_fragments.proofs.from_fragments.Goals as goal

-- a fragment that is read from the end on
from_end : (fs : List ℕ) (k x : ℕ) → length fs ≡ 7 → (k < length (reverse fs)) × (x ≡ get_or (reverse fs) k x) → (k < 7) × (x ≡ get_or fs (6 - k) 0)
from_end fs k x n t =
    let l : k < length fs = omega (arith, t.0, length-reverse fs) in
    let e : length fs - 1 - k ≡ 6 - k = omega arith in
    (omega arith, t.1 ∙ get_or-reverse fs k x l ∙ ap (λ i. get_or fs i x) e ∙ get_or_default_zero fs (6 - k) x (omega arith))

pub loop-fragment-init : goal.loop-fragment-init
loop-fragment-init c = c.zero-r.ensures ∙ sym (joined_end c.args.l.now 7 (omega arith))

pub shifted-r-requires : goal.shifted-r-requires
shifted-r-requires c = let s = c.loop-fragment in
    let t = YieldsList-turn (YieldsList-from_rev_slice c.args.l.now cc) s.yielded _ s.yielded_by _ _ c.in-Some.fragment c.in-Some.is c.next.ensures.steps in
    let f = from_end c.args.l.now (length s.yielded) _ c.requires t in
    let i = 6 - length s.yielded in
    let known = c.type_inv.l in (
      search rules,
      search rules,
      search rules,
      rw f.1 (known i).fits,
      rw f.1 (joined-room _ i (7 - length s.yielded) (λ k. (known k).fits) c.requires (omega arith) (omega (arith, f.0)) s.invariant),
    )

pub loop-fragment-preserved : goal.loop-fragment-preserved
loop-fragment-preserved c = let s = c.loop-fragment in
    let t = YieldsList-turn (YieldsList-from_rev_slice c.args.l.now cc) s.yielded _ s.yielded_by _ _ c.in-Some.fragment c.in-Some.is c.next.ensures.steps in
    let f = from_end c.args.l.now (length s.yielded) _ c.requires t in
    let n = length_push s.yielded c.in-Some.fragment in
    let e : 7 - (length s.yielded + 1) ≡ 6 - length s.yielded = omega arith in
    rw (n, e) (joined-next _ (6 - length s.yielded) (7 - length s.yielded) (omega arith) (omega (arith, f.0)) s.invariant (c.shifted-r.ensures ∙ rw f.1))
