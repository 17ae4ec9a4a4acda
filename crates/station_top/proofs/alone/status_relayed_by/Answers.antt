use Rattle.station_top.proofs.Statuses.{unwritable_by}
use Rattle.station_top.proofs.alone.status_relayed_by.Goals as goal

pub returns-in-Err-Unwritable : goal.returns-in-Err-Unwritable
returns-in-Err-Unwritable c = unwritable_by c.args.relay c.in-Err-Unwritable.field-0 c.args.cause c.in-Err-Unwritable.is (rw c.in-Err-Unwritable.is at c.in-Err-Unwritable.field-0-is)
