use Prim.Native.Nat.{ℕ}
use borrow.Author.Rules.{rules}
use lib.ListN.{length-replicate}
use Rattle.replies.specs.Replies.{number, block, verdict_number, verdict_block}
use Rattle.page_keep.specs.Keeping.{PageDecided}
use Rattle.page_keep.proofs.Keeping.{underway-start, zeros-at}
use Rattle.page_take.proofs.Ends.{take-ruined}
use Rattle.page_take.proofs.take.take_placed.Goals as goal

pub keep_damaged-requires : goal.keep_damaged-requires
keep_damaged-requires c = let p = c.requires in
    record {
      pending = record {
        ready = p.ready.0;
        table = p.scanned.1;
        underway = underway-start _ _ p.ready.0.plan _ _ _ p.scanned.0 p.scanned.3 (length-replicate {A = ℕ} 256 0) (zeros-at 256);
      };
      block_lt_blocks = p.scanned.2;
    }

pub copy_decided-requires : goal.copy_decided-requires
unfolding PageDecided
copy_decided-requires c = let p = c.requires in
    record { ready = p.ready; all_decided = (rw c.in-None.is at c.keep_damaged.ensures, search rules) }

pub returns-in-Some : goal.returns-in-Some
unfolding PageDecided verdict_number verdict_block number block
returns-in-Some c = let p = c.requires in
    take-ruined _ _ p.ready.0 _ _ p.ready.1 p.ready.2 _ (rw c.in-Some.is at c.keep_damaged.ensures)

pub returns-in-None : goal.returns-in-None
unfolding verdict_number verdict_block
returns-in-None c = c.copy_decided.ensures
