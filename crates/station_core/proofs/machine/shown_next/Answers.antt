use Rattle.std.proofs.Common.{◌≡◌, ◌-◌, ◌++◌, ℕ, ap, drop, length, subst, sym, take, ◌∙◌}
use Rattle.std.specs.Arc.{arc_value}
use Rattle.rib_model.specs.Entries.{entry_values}
use Rattle.router_tables.specs.Tables.{TablesValue, StandsFor}
use Rattle.station_core.proofs.Publishing.{shows_next}
use Rattle.station_core.proofs.machine.shown_next.Goals as goal

pub returns : goal.returns
returns c =
    let due = c.args.due.now in
    let from = c.shown.inside.count in
    let view = c.shown.view_is in
    let old : c.args.shown.now.0 ≡ c.deref.result.now = sym (ap (λ (z : TablesValue × ℕ). z.0) view) ∙ sym c.deref.ensures in
    let value = arc_value c.in_ok-new.field-0 in
    let new : value ≡ c.in_ok-with.field-0 = c.in_ok-new.ensures.ok in
    let more = entry_values (take c.count_next.result (take (length due - from) (drop from due))) in
    shows_next due c.args.shown.now from c.count_next.result value (ap (λ (z : TablesValue × ℕ). z.1) view) c.count_next.ensures.within c.count_next.ensures.next
    (λ so_far stands. subst (λ (t : TablesValue). StandsFor t (so_far ++ more)) (sym new) (c.in_ok-with.ensures so_far (subst (λ (t : TablesValue). StandsFor t so_far) old stands)))
