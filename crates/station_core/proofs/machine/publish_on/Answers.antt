use Rattle.std.proofs.Common.{ℕ, arith, ap, subst, sym, ◌∙◌}
use Rattle.router_tables.specs.Tables.{TablesValue}
use Rattle.station_core.specs.declared.lane.Lane.{Lane}
use Rattle.station_core.specs.Standing.{ShowsNext}
use Rattle.station_core.proofs.Publishing.{shows_at, shows_none}
use Rattle.station_core.proofs.machine.publish_on.Goals as goal

pub offset_bounds-lanes-at : goal.offset_bounds-lanes-at
offset_bounds-lanes-at g c = omega (arith, c.if-at-lanes.false)

pub bounds-lanes-at : goal.bounds-lanes-at
bounds-lanes-at g c = omega (arith, c.if-at-lanes.false)

pub offset_bounds-shown-at : goal.offset_bounds-shown-at
offset_bounds-shown-at g c = omega (arith, c.ranges.number)

pub bounds-shown-at : goal.bounds-shown-at
bounds-shown-at g c = omega (arith, c.if-at-lanes.false, c.requires.count)

pub offset_bounds-shown-at-2 : goal.offset_bounds-shown-at-2
offset_bounds-shown-at-2 g c = omega (arith, c.ranges.number)

pub bounds-shown-at-2 : goal.bounds-shown-at-2
bounds-shown-at-2 g c = omega (arith, c.if-at-lanes.false, c.requires.count)

pub shown_next-requires : goal.shown_next-requires
shown_next-requires g c = rw c.as_slice.ensures (c.requires.due c.index-lanes-at.result c.index-shown-at.result (omega (arith, c.if-at-lanes.false)))

pub returns-then-at-lanes : goal.returns-then-at-lanes
returns-then-at-lanes g c = shows_none c.args.lanes.now c.args.shown.now c.args.number (omega (arith, c.if-at-lanes.true))

pub returns : goal.returns
returns g c =
    shows_at c.args.lanes.now c.args.shown.now c.args.number c.index-lanes-at.result c.index-shown-at.result c.in_ok-next.next c.as_slice.result.now (omega (arith, c.if-at-lanes.false)) c.requires.count c.index-lanes-at.is c.index-shown-at.is
    (c.as_slice.ensures ∙ ap (λ (l : Lane g.row.B.Denot). l.due) (sym c.index-lanes-at.is))
    (subst (λ (x : TablesValue × ℕ). ShowsNext c.as_slice.result.now x c.in_ok-next.next) (sym c.index-shown-at.is) c.in_ok-next.ensures)
