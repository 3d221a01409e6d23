use Prim.Native.Nat.{ℕ, ◌*◌, ◌^◌, ◌<◌}
use mathlib.Core.Path.{◌≡◌, sym, ap, ◌∙◌, subst}
use native.Mathlib.Omega.{arith}
use lib.ListN.{length}
use lib.Bits.{bit_xor}
use borrow.Author.Rules.{rules}
use Rattle.code.specs.Register.{low, register}
use Rattle.remainder.proofs.Words.{register-lt}
use Rattle.remainder.proofs.add.added.Goals as goal

pub row_added-requires : goal.row_added-requires
row_added-requires c = let v = c.args.state.words in
    let l : length v ≡ 14 = search rules in
    let m : length c.args.other.words ≡ 14 = search rules in
    (search rules, omega arith, subst (λ (n : ℕ). register v < 2 ^ (64 * n)) l (register-lt v (λ k. search rules)))

pub returns : goal.returns
unfolding register
returns c = let a = c.args in
    let v = a.other.words in
    let l : length v ≡ 14 = search rules in
    c.row_added.ensures ∙ ap (λ n. bit_xor (low v n) (register a.state.words)) (sym l)
