use Rattle.bch.proofs.request.locate_by_tables.Goals as goal

pub returns : goal.returns
returns c = rw (← c.find_errors-found.ensures.is) c.report.ensures
