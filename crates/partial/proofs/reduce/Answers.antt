use Prim.Native.Nat.{ℕ, ◌+◌, ◌-◌, ◌*◌}
use mathlib.Core.Path.{◌≡◌, refl, sym, ◌∙◌}
use native.Mathlib.Omega.{arith}
use Rattle.code.specs.Register.{register}
use Rattle.partial.proofs.Partial.{reduced-small}
use Rattle.partial.proofs.reduce.Goals as goal

pub loop-b-init : goal.loop-b-init
loop-b-init c = let h = c.requires.3 in (h, λ g rows monic. (h, refl))

pub loop-b-preserved : goal.loop-b-preserved
loop-b-preserved c = let s = c.loop-b in
    let u = c.args.used in
    let b : ℕ = s.b - 1 in
    let e : 64 * u + (8 * b + 4) + 4 ≡ 64 * u + 8 * s.b = omega arith in
    let f : 64 * u + (8 * b + 0) + 4 ≡ 64 * u + (8 * b + 4) = omega arith in
    let z : 64 * u + 8 * b ≡ 64 * u + (8 * b + 0) = omega arith in (
      c.cleared-r.ensures.0,
      λ g rows monic.
          let i = s.invariant.1 g rows monic in
          let o = c.cleared-odd.ensures.1 g rows monic refl refl (rw e i.0) in
          let v = c.cleared-r.ensures.1 g rows monic refl refl (rw f o.0) in
          (rw z v.0, v.1 ∙ o.1 ∙ i.1),
    )

pub returns : goal.returns
returns c g rows monic = let s = c.loop-b in
    let u = c.args.used in
    let i = s.invariant.1 g rows monic in
    let z : 64 * u + 8 * s.b ≡ 64 * u = omega arith in
    sym (reduced-small (64 * u) g (register s.r.words) (rw z at i.0)) ∙ i.1
