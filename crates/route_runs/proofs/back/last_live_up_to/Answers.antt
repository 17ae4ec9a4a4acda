use Rattle.std.proofs.Common.{map, subst}
use Rattle.std.specs.Arc.{arc_value}
use Rattle.std.specs.Option.{option_map}
use Rattle.route_runs.specs.Places.{shown, turned, is_from, IsFirstPair}
use Rattle.route_runs.specs.Runs.{latest, shared}
use Rattle.route_runs.proofs.Searching.{turned_total, turned_exact}
use Rattle.route_runs.proofs.UpTo.{seen_beyond}
use Rattle.route_runs.proofs.back.last_live_up_to.Goals as goal

pub returns-in-None : goal.returns-in-None
returns-in-None g c =
    let cmp = g.K.Ord.cmp in
    let gone = subst (λ o. IsFirstPair (turned cmp) (is_from (turned cmp) c.args.place.now) (λ q. latest cmp q (map arc_value c.args.runs.now)) (c.in-Some.row.0, option_map shared o)) c.in-None.is c.in-Some.ensures in
    seen_beyond (turned cmp) (turned_total cmp g.met.K.Ord.total g.met.K.RunKey.exact) (turned_exact cmp g.met.K.RunKey.exact) (λ q. latest cmp q (map arc_value c.args.runs.now)) c.args.place.now c.in-Some.row.0 gone (option_map shown c.last_live.result) c.last_live.ensures
