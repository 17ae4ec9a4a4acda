use Rattle.std.proofs.Common.{List, sym, ap, subst}
use Rattle.std.proofs.lemmas.Result.{on_ok_weaker}
use Rattle.rib_model.specs.declared.entry.Entry.{Entry}
use Rattle.rib_model.specs.Entries.{entry_values}
use Rattle.router_tables.specs.Building.{BuilderValue, Builds}
use Rattle.router_tables.proofs.Builders.{built_more}
use Rattle.router_tables.proofs.builder.TablesBuilder.take.Goals as goal

pub returns-then-self-lt-GATHERED : goal.returns-then-self-lt-GATHERED
returns-then-self-lt-GATHERED c so_far h =
    built_more _ _ c.take_entries.new.rows (entry_values c.as_slice-given.result.now) (entry_values c.args.entries) (ap (λ (l : List Entry). entry_values l) c.as_slice-given.ensures)
    c.in_ok-take_entries.ensures (λ effects rows. rows) c.in_ok-take.ensures so_far (subst (λ (b : BuilderValue). Builds b so_far) (sym c.self.view_is) h)

pub returns : goal.returns
returns c = on_ok_weaker c.settle.result (λ settles so_far h.
    built_more _ _ c.take_entries.new.rows (entry_values c.as_slice-given.result.now) (entry_values c.args.entries) (ap (λ (l : List Entry). entry_values l) c.as_slice-given.ensures)
    c.in_ok-take_entries.ensures settles c.in_ok-take.ensures so_far (subst (λ (b : BuilderValue). Builds b so_far) (sym c.self.view_is) h)) c.settle.ensures
