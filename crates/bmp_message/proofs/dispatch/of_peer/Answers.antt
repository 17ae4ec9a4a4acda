use Rattle.std.proofs.Common.{refl}
use Rattle.std.proofs.lemmas.Result.{IfOk-weaker}
use Rattle.bmp_specs.specs.MessageBody.{peer_down_notification, peer_up_notification, route_mirroring, statistics_report}
use Rattle.rib_model.specs.Effects.{effect_values}
use Rattle.bmp_message.proofs.Making.{made_broken, made_ok}
use Rattle.bmp_message.proofs.dispatch.of_peer.Goals as goal

pub returns-in-StatisticsReport-clause-ok : goal.returns-in-StatisticsReport-clause-ok
returns-in-StatisticsReport-clause-ok g c =
    let r = g.R.PeerReading in
    let old = r.state c.args.reading.now in
    rw c.in-StatisticsReport.is
    (made_ok g.M.Makes.is_of (r.meaning.Means statistics_report old c.args.head.now c.args.key.now c.args.rest.now) old c.statistics.result c.made_of.result c.made_of.ensures (c.statistics.ensures.ok c.args.head.now))

pub returns-in-StatisticsReport-clause-broken : goal.returns-in-StatisticsReport-clause-broken
returns-in-StatisticsReport-clause-broken g c = rw c.in-StatisticsReport.is (made_broken g.M.Makes.is_of c.statistics.result c.made_of.result c.made_of.ensures (c.statistics.ensures.broken c.args.head.now))

pub returns-in-PeerDown-clause-ok : goal.returns-in-PeerDown-clause-ok
returns-in-PeerDown-clause-ok g c =
    let r = g.R.PeerReading in
    rw c.in-PeerDown.is
    (made_ok g.M.Makes.is_of (r.meaning.Means peer_down_notification (r.state c.args.reading.now) c.args.head.now c.args.key.now c.args.rest.now) (r.state c.peer_down.new.self) c.peer_down.result c.made_of-in-PeerDown.result c.made_of-in-PeerDown.ensures (c.peer_down.ensures.ok c.args.head.now))

pub returns-in-PeerDown-clause-broken : goal.returns-in-PeerDown-clause-broken
returns-in-PeerDown-clause-broken g c = rw c.in-PeerDown.is (made_broken g.M.Makes.is_of c.peer_down.result c.made_of-in-PeerDown.result c.made_of-in-PeerDown.ensures (c.peer_down.ensures.broken c.args.head.now))

pub returns-in-PeerUp-clause-ok : goal.returns-in-PeerUp-clause-ok
returns-in-PeerUp-clause-ok g c =
    let r = g.R.PeerReading in
    rw c.in-PeerUp.is
    (made_ok g.M.Makes.is_of (r.meaning.Means peer_up_notification (r.state c.args.reading.now) c.args.head.now c.args.key.now c.args.rest.now) (r.state c.peer_up.new.self) c.peer_up.result c.made_of-in-PeerUp.result c.made_of-in-PeerUp.ensures c.peer_up.ensures.ok)

pub returns-in-PeerUp-clause-broken : goal.returns-in-PeerUp-clause-broken
returns-in-PeerUp-clause-broken g c = rw c.in-PeerUp.is (made_broken g.M.Makes.is_of c.peer_up.result c.made_of-in-PeerUp.result c.made_of-in-PeerUp.ensures c.peer_up.ensures.broken)

pub returns-in-RouteMirroring-clause-ok : goal.returns-in-RouteMirroring-clause-ok
returns-in-RouteMirroring-clause-ok g c =
    let r = g.R.PeerReading in
    let old = r.state c.args.reading.now in
    rw c.in-RouteMirroring.is
    (made_ok g.M.Makes.is_of (r.meaning.Means route_mirroring old c.args.head.now c.args.key.now c.args.rest.now) old c.mirroring.result c.made_of-in-RouteMirroring.result c.made_of-in-RouteMirroring.ensures
    (IfOk-weaker c.mirroring.result _ _ (λ effects p. (g.met.R.PeerReading.mirrors old old c.args.head.now c.args.key.now c.args.rest.now (effect_values effects)).1 (p, refl)) c.mirroring.ensures.ok))

pub returns-in-RouteMirroring-clause-broken : goal.returns-in-RouteMirroring-clause-broken
returns-in-RouteMirroring-clause-broken g c =
    let old = g.R.PeerReading.state c.args.reading.now in
    rw c.in-RouteMirroring.is
    (made_broken g.M.Makes.is_of c.mirroring.result c.made_of-in-RouteMirroring.result c.made_of-in-RouteMirroring.ensures
    (λ broken effects next q. let p = (g.met.R.PeerReading.mirrors old next c.args.head.now c.args.key.now c.args.rest.now effects).0 q in c.mirroring.ensures.broken broken p.0.0 p.0.1))
