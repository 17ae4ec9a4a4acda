use Rattle.std.proofs.Common.{ℕ, List, refl, subst}
use Rattle.bmp_specs.specs.LenientBody.{meaning_of}
use Rattle.station_words.specs.declared.words.Command.TheVariants.{Recall}
use Rattle.station_top.specs.ArchiveRuns.{ArchiveConcludes}
use Rattle.station_top.specs.RecallRuns.{RecallConcludes}
use Rattle.station_top.specs.Station.{IsReplyTo, RovConcludes}
use Rattle.station_top.proofs.alone.run_call.Goals as goal

pub returns-in-Replay-clause-concludes : goal.returns-in-Replay-clause-concludes
returns-in-Replay-clause-concludes g c = rw c.in-Replay.is (c.run_replay.ensures.calls, c.run_replay.ensures.concludes)

pub returns-in-Check-clause-concludes : goal.returns-in-Check-clause-concludes
returns-in-Check-clause-concludes g c = rw c.in-Check.is (c.run_by.ensures.calls, c.run_by.ensures.concludes)

pub returns-in-Relay-clause-concludes : goal.returns-in-Relay-clause-concludes
returns-in-Relay-clause-concludes g c = rw c.in-Relay.is (c.run_relay_by.ensures.calls, c.run_relay_by.ensures.concludes)

pub returns-in-Rov-clause-concludes : goal.returns-in-Rov-clause-concludes
returns-in-Rov-clause-concludes g c = rw c.in-Rov.is (subst (λ (path : List ℕ). RovConcludes (meaning_of c.args.call.lenient) path c.in-Rov.prefix (g.Y.Yard.seen c.args.yard.now).told (g.Y.Yard.seen c.run_rov.new.yard).told (g.Y.Yard.seen c.args.yard.now).calls (g.Y.Yard.seen c.run_rov.new.yard).calls (g.O.Sink.told c.args.out.now) (g.O.Sink.told c.run_rov.new.out) c.run_rov.result) c.file_word-path.ensures c.run_rov.ensures.concludes)

pub returns-in-Recall-clause-concludes : goal.returns-in-Recall-clause-concludes
returns-in-Recall-clause-concludes g c =
    rw c.in-Recall.is (c.run_recall_of.ensures.calls, subst (λ (path : List ℕ). RecallConcludes (meaning_of c.args.call.lenient) (IsReplyTo (Recall c.in-Recall.ask)) path (g.Y.Yard.seen c.args.yard.now).told (g.Y.Yard.seen c.run_recall_of.new.yard).told (g.Y.Yard.seen c.args.yard.now).calls (g.O.Sink.told c.args.out.now) (g.O.Sink.told c.run_recall_of.new.out) c.run_recall_of.result) c.file_word-path.ensures c.run_recall_of.ensures.concludes)

pub returns-in-Archive-clause-concludes : goal.returns-in-Archive-clause-concludes
returns-in-Archive-clause-concludes g c =
    rw c.in-Archive.is (subst (λ (path : List ℕ). ArchiveConcludes (meaning_of c.args.call.lenient) path (g.Y.Yard.seen c.args.yard.now).told (g.Y.Yard.seen c.run_archive_by.new.yard).told (g.Y.Yard.seen c.args.yard.now).calls (g.Y.Yard.seen c.run_archive_by.new.yard).calls (g.O.Sink.told c.args.out.now) (g.O.Sink.told c.run_archive_by.new.out) c.run_archive_by.result) c.file_word-path.ensures c.run_archive_by.ensures.concludes)
