use Rattle.bmp_specs.specs.MessageEffects.{strict}
use Rattle.station_core.proofs.Growing.{askers_remember, histories_grow, replies_fronts}
use Rattle.station_core.proofs.laws.schedules_grow.Goals as goal

pub returns-clause-histories : goal.returns-clause-histories
returns-clause-histories c = histories_grow strict

pub returns-clause-replies : goal.returns-clause-replies
returns-clause-replies c = replies_fronts strict

pub returns-clause-askers : goal.returns-clause-askers
returns-clause-askers c = askers_remember strict
