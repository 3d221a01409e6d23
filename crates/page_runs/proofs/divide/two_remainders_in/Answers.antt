use mathlib.Core.Path.{ap, ◌∙◌}
use Rattle.code.specs.Generator.{remainder}
use Rattle.page_runs.proofs.divide.two_remainders_in.Goals as goal

pub returns-in-Some-run_place : goal.returns-in-Some-run_place
returns-in-Some-run_place c = let a = c.args in
    record {
      words_value = c.two_remainders.ensures.words_value ∙ ap (remainder a.f a.t) (c.in-Some.ensures.1 a.page.now);
      words_value_2 = c.two_remainders.ensures.words_value_2 ∙ ap (remainder a.f a.t) (c.in-Some-run_place.ensures.1 a.page.now);
    }
