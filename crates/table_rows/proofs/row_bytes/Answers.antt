use borrow.Author.Rules.{rules}
use Rattle.table_rows.specs.Rows.{row_bytes}
use Rattle.table_rows.proofs.row_bytes.Goals as goal

pub returns : goal.returns
unfolding row_bytes
returns c = search rules
