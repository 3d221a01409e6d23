use borrow.Author.Rules.{rules}
use Rattle.page_copy.proofs.Flipping.{restored-flips, restored-ones}
use Rattle.page_copy.proofs.copy.restore_block.Goals as goal

pub flip_block-requires : goal.flip_block-requires
flip_block-requires c = let p = c.requires in
    record { planned = (p.planned.0, p.planned.1, p.planned.2 (search rules), p.planned.3 (search rules), p.planned.4); metadata_len = p.metadata_len }

pub returns-then-n-lt128 : goal.returns-then-n-lt128
returns-then-n-lt128 c = restored-flips _ _ _ (search rules) c.flip_block.ensures

pub returns : goal.returns
returns c = restored-ones _ _ _ (search rules) c.fill_block.ensures
