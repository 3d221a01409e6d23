-- `field::power` ends: the exponent is halved at each call.
use Rattle.field.proofs.+power.Given as goal

abbrev pub decreases-power : goal.decreases-power
decreases-power l = l.n
