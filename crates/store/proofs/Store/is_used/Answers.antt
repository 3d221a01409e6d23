use Rattle.std.proofs.Common.{rules, tests}
use Rattle.std.proofs.lemmas.Iterator.{YieldsList-from_slice}
use Rattle.std.proofs.lemmas.Iterator.Search.{any_from_yields_List}
use lib.Dec.{eqb}
use Rattle.store.proofs.Searches.{among-any}
use Rattle.store.proofs.Store.is_used.Goals as goal

pub returns : goal.returns
returns c = among-any c.args.version _ (any_from_yields_List (eqb c.args.version) _ _ _ c.any.ensures.ran (YieldsList-from_slice _ cc) (λ x b q k. search (rules, tests)))
