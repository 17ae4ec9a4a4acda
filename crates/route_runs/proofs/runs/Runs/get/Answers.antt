use Rattle.std.proofs.Common.{◌∙◌, map, ap, sym, subst}
use Rattle.std.specs.Arc.{arc_value}
use Rattle.std.specs.List.Sorted.{IsStrictlySortedBy}
use Rattle.std.specs.Map.{keys_of}
use Rattle.route_runs.specs.Override.{value_at}
use Rattle.route_runs.specs.Runs.{latest, seen}
use Rattle.route_runs.proofs.Contents.{value-contents, rising-contents}
use Rattle.route_runs.proofs.runs.Runs.get.Goals as goal

pub returns : goal.returns
returns g c = record {
  value = c.live_in.ensures ∙ ap (λ l. seen (latest g.K.Ord.cmp c.args.key.now (map arc_value l))) c.as_slice.ensures.value
      ∙ sym (value-contents g.K.Ord.cmp g.met.K.Ord.total g.met.K.RunKey.exact c.args.key.now (map arc_value c.self.inside.runs.items))
      ∙ ap (value_at g.K.Ord.cmp c.args.key.now) c.self.view_is;
  ordered = subst (λ l. IsStrictlySortedBy g.K.Ord.cmp (keys_of l)) c.self.view_is (rising-contents g.K.Ord.cmp g.met.K.Ord.total g.met.K.RunKey.exact (map arc_value c.self.inside.runs.items));
}
