use Rattle.page_decide.proofs.Deciding.{one-field-serves}
use Rattle.page_decide.proofs.decide.fill_serving.Goals as goal

pub returns : goal.returns
returns c = one-field-serves _ _ c.higher_level-t.ensures.1 c.fill_decoding.ensures.decoding
