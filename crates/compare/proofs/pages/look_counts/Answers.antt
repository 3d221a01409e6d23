use mathlib.Core.Path.{ap}
use Rattle.page_theory.specs.Calls.{Looked}
use Rattle.compare.proofs.pages.look_counts.Goals as goal

pub returns : goal.returns
returns c = ap (λ (l : Looked). l.counts) c.look_page.ensures
