use mathlib.Core.Path.{◌≡◌}
use lib.ListN.{length}
use native.Mathlib.Omega.{arith}
use borrow.Author.Rules.{rules}
use Rattle.layout_plan.specs.Record.{record_length}
use Rattle.layout_record.proofs.words.fields_of.Goals as goal

pub fields_in-requires : goal.fields_in-requires
unfolding record_length
fields_in-requires c = let twelve : length c.args.words.now ≡ 12 = search rules in
    record { right = rw twelve; long = omega arith }
