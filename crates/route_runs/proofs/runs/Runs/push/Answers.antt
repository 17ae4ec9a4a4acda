use Rattle.std.proofs.Common.{◌∙◌, map, ap, sym, subst}
use Rattle.std.specs.Arc.{arc_value}
use Rattle.route_runs.specs.Runs.{IsChanged, IsSettled, contents}
use Rattle.route_runs.proofs.Contents.{pushed}
use Rattle.std.proofs.lemmas.Result.{on_ok_weaker, on_err_weaker}
use Rattle.route_runs.proofs.runs.Runs.push.Goals as goal

pub returns : goal.returns
returns g c =
    let old = map arc_value c.self.inside.runs.items in
    let new = map arc_value c.replace.new.runs.items in
    let s : IsSettled g.K.Ord.cmp old c.args.run (arc_value c.in-Ok.own) c.in_ok-own.kept =
    subst (λ own. IsSettled g.K.Ord.cmp old c.args.run own c.in_ok-own.kept) (sym c.in-Ok.ensures.ok)
    (subst (λ l. IsSettled g.K.Ord.cmp (map arc_value l) c.args.run c.in_ok-own.own c.in_ok-own.kept) c.as_slice.ensures.value c.in_ok-own.ensures) in
    record {
      ok = on_ok_weaker c.replace.result (λ e. subst (λ l. IsChanged g.K.Ord.cmp l c.args.run (contents g.K.Ord.cmp new)) c.self.view_is
          (pushed g.K.Ord.cmp g.met.K.Ord.total g.met.K.RunKey.exact old new c.args.run (arc_value c.in-Ok.own) c.in_ok-own.kept s e)) c.replace.ensures.ok;
      err = on_err_weaker c.replace.result (λ e. ap (contents g.K.Ord.cmp) e ∙ c.self.view_is) c.replace.ensures.err;
    }
