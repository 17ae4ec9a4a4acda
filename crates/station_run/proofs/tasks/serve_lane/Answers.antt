use Rattle.std.proofs.Common.{◌≡◌, List, [], ap, inl}
use Rattle.rib_model.specs.declared.entry.Entry.{Entry}
use Rattle.rib_model.specs.Entries.{entry_values}
use Rattle.feed_worker.proofs.Untold.{ends_untold}
use Rattle.station_run.proofs.tasks.serve_lane.Goals as goal

pub serve_feed-work-requires-clause-at_rest : goal.serve_feed-work-requires-clause-at_rest
serve_feed-work-requires-clause-at_rest g c = inl (ap (λ (l : List Entry). entry_values l) c.requires.none)

pub returns : goal.returns
returns g c = record { serves = ends_untold g.B.BodyReading.meaning _ _ _ _ _ _ _ c.serve_feed-work.ensures.ends }
