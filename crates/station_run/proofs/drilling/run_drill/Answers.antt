use Rattle.std.proofs.Common.{◌∙◌, sym, ap, subst}
use Rattle.std.specs.Arc.{arc_value}
use Rattle.cut_publisher.specs.History.{Site}
use Rattle.cut_publisher.specs.Opening.{AreFreshFeeds}
use Rattle.station_run.proofs.Ends.{asks_are_of}
use Rattle.station_run.proofs.Drilled.{drill_cut, feeds_of, seated_of}
use Rattle.station_run.proofs.drilling.run_drill.Goals as goal

pub do_works-requires-clause-begin : goal.do_works-requires-clause-begin
do_works-requires-clause-begin g c κs within = (
  c.args.seed,
  c.args.messages,
  c.args.lanes,
  c.in-Ok.ensures g.J.Naming.site c.args.lanes (subst (λ (b : Site). AreFreshFeeds b c.args.lanes c.args.station.feeds) c.requires.named c.requires.opened.feeds_are)
      (seated_of g.J.Naming.site _ _ c.name-publisher.ensures (asks_are_of _ _ _ _ c.requires.opened.asks_are c.requires.named)),
)

pub finish-requires-clause-feeds : goal.finish-requires-clause-feeds
finish-requires-clause-feeds g c =
    let begin = c.in-Ok.ensures g.J.Naming.site c.args.lanes (subst (λ (b : Site). AreFreshFeeds b c.args.lanes c.args.station.feeds) c.requires.named c.requires.opened.feeds_are)
    (seated_of g.J.Naming.site _ _ c.name-publisher.ensures (asks_are_of _ _ _ _ c.requires.opened.asks_are c.requires.named)) in
    feeds_of c.args.seed c.args.messages g.J.Naming.site c.args.lanes _ _ (c.in-Ok-do_works.ensures c.args.seed c.args.messages c.args.lanes begin)

pub finish-requires-clause-asks : goal.finish-requires-clause-asks
finish-requires-clause-asks g c =
    let begin = c.in-Ok.ensures g.J.Naming.site c.args.lanes (subst (λ (b : Site). AreFreshFeeds b c.args.lanes c.args.station.feeds) c.requires.named c.requires.opened.feeds_are)
    (seated_of g.J.Naming.site _ _ c.name-publisher.ensures (asks_are_of _ _ _ _ c.requires.opened.asks_are c.requires.named)) in
    (c.in-Ok-do_works.ensures c.args.seed c.args.messages c.args.lanes begin).asks_each

pub returns-in-Ok-finish : goal.returns-in-Ok-finish
returns-in-Ok-finish g c =
    let begin = c.in-Ok.ensures g.J.Naming.site c.args.lanes (subst (λ (b : Site). AreFreshFeeds b c.args.lanes c.args.station.feeds) c.requires.named c.requires.opened.feeds_are)
    (seated_of g.J.Naming.site _ _ c.name-publisher.ensures (asks_are_of _ _ _ _ c.requires.opened.asks_are c.requires.named)) in
    drill_cut c.args.seed c.args.messages c.args.lanes g.J.Naming.site (arc_value c.in-Ok-finish.ending.cut) _ _ _ _ (sym (ap (λ (b : Site). b.lanes) c.requires.named) ∙ c.requires.opened.wide)
    (c.in-Ok-do_works.ensures c.args.seed c.args.messages c.args.lanes begin) c.in-Ok-finish.ensures
