use Rattle.std.proofs.Common.{◌++◌, List, sym, subst}
use Rattle.std.proofs.lemmas.List.{map-append}
use Rattle.bmp_specs.specs.Values.{EntryValue}
use Rattle.rib_model.specs.Entries.{entry_value, entry_values}
use Rattle.router_tables.specs.Tables.{TablesValue, StandsFor}
use Rattle.feed_worker.proofs.publishing.publish_entries.Goals as goal

pub publish_unnoted-requires-clause-value : goal.publish_unnoted-requires-clause-value
publish_unnoted-requires-clause-value g c =
    let before = c.args.pass.now.entries in
    let more = c.args.entries.now in
    subst (λ (t : TablesValue). StandsFor t (entry_values (before ++ more))) (sym c.in_ok-tables.ensures.ok)
    (subst (λ (l : List EntryValue). StandsFor c.in_ok-with.field-0 l) (sym (map-append entry_value before more)) (c.in_ok-with.ensures (entry_values before) c.value.ensures))
