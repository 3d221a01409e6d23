use Rattle.piece_states.specs.State.{after}
use Rattle.piece_states.proofs.Words.{words-number}
use Rattle.piece_rules.proofs.Replies.{usable-going, usable-level, piece-short}
use native.Mathlib.Omega.{arith}
use borrow.Author.Rules.{rules}
use Rattle.piece_states.proofs.advanced.Goals as goal

pub carried-next-requires : goal.carried-next-requires
carried-next-requires c = let l = usable-level _ _ c.requires.0 in
    (omega arith, (usable-going _ _ c.requires.0).below, λ l. piece-short _ _ c.requires.0 _ c.requires.1 l)

pub returns : goal.returns
unfolding after
returns c = let r = c.carried-next.ensures in
    rw (words-number c.carried-next.result.words (search rules) (λ k. search rules) r)
