use Rattle.router_tables.proofs.ChangesMade.{all_after}
use Rattle.router_tables.proofs.changed.change_views.Goals as goal

pub returns : goal.returns
returns c = rw (← c.changes.view_is, ← c.views.view_is) (all_after _ _ _ c.renew-5.result c.in_ok-renew.ensures c.in_ok-renew-2.ensures c.in_ok-renew-3.ensures c.in_ok-renew-4.ensures c.renew-5.ensures)
