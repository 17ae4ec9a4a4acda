use Rattle.std.proofs.Common.{◌∙◌, ap, sym}
use Rattle.route_runs.specs.Rows.{sets_of, set_at}
use Rattle.route_runs.specs.Gathering.{gathered}
use Rattle.route_runs.proofs.Renaming.{keeps_same}
use Rattle.route_runs.proofs.tidy.next_handle.Goals as goal

pub returns-then-given-last : goal.returns-then-given-last
returns-then-given-last g c = record {
  keeps = keeps_same (gathered c.args.out.now.packs.items c.args.out.now.now.items);
  handle = c.requires.handle;
  names = c.requires.same ∙ ap (set_at (sets_of c.args.packs.now)) (sym c.if-given-last.true);
}
