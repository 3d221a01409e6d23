use Rattle.page_plan.proofs.Tables.{table_same}
use Rattle.page_plan.proofs.later_table.Goals as goal

pub returns-then-same_generator : goal.returns-then-same_generator
returns-then-same_generator c = let q = c.args.plan in
    table_same q.first q.later c.same_generator.ensures c.if-same_generator.true c.requires.2
