use Rattle.syndromes.proofs.PowerSums.{syndromes-made}
use Rattle.syndromes.proofs.Spreading.{spread-elements, lanes-summed}
use Rattle.syndromes.proofs.power_sums.syndromes.Goals as goal

pub lane_values-lanes-requires : goal.lane_values-lanes-requires
lane_values-lanes-requires c = record { tables = (c.requires.decoding.tables, c.requires.decoding.lanes); t_bound = (c.requires.t_bound.0, c.requires.t_bound.1) }

pub add_squares-requires : goal.add_squares-requires
add_squares-requires c = record { tables = c.requires.decoding.tables; t_bound = (c.requires.t_bound.0, spread-elements _ _ _ _ c.lane_values-lanes.ensures c.spread-sums.ensures) }

pub returns : goal.returns
returns c = syndromes-made _ _ _ (lanes-summed _ _ _ _ c.lane_values-lanes.ensures c.spread-sums.ensures) c.add_squares.ensures
