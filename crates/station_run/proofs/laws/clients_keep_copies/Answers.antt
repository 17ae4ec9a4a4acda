use Rattle.bmp_specs.specs.LenientBody.{lenient}
use Rattle.bmp_specs.specs.MessageEffects.{strict}
use Rattle.ask_specs.proofs.LiveLaws.{lenient_lives, strict_lives}
use Rattle.station_run.proofs.CopiesKept.{clients_told, copies_exact}
use Rattle.station_run.proofs.laws.clients_keep_copies.Goals as goal

pub returns-clause-told : goal.returns-clause-told
returns-clause-told c = (clients_told strict strict_lives, clients_told lenient lenient_lives)

pub returns-clause-exact : goal.returns-clause-exact
returns-clause-exact c = (copies_exact strict strict_lives, copies_exact lenient lenient_lives)
