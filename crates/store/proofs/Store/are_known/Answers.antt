use Rattle.std.proofs.Common.{rules, tests}
use Rattle.std.proofs.lemmas.Iterator.{YieldsList-from_slice}
use Rattle.std.proofs.lemmas.Iterator.Search.{all_from_yields_List}
use Rattle.version_list.specs.Plain.{known}
use Rattle.store.specs.Answers.{listed}
use Rattle.store.proofs.Searches.{known-all}
use Rattle.store.proofs.Store.are_known.Goals as goal

pub returns : goal.returns
returns c = known-all _ _ (all_from_yields_List (known (listed c.args.self.now).layouts) _ _ _ c.all.ensures.ran (YieldsList-from_slice _ cc) (λ x b q k. search (rules, tests)))
