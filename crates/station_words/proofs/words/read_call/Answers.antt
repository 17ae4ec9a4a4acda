use Rattle.std.proofs.Common.{codes, map}
use Rattle.std.specs.String.{string_bytes}
use Rattle.station_words.proofs.Commands.{no_other}
use Rattle.station_words.proofs.Readings.{neither, reads_at, reads_check, reads_help, reads_none, reads_relay, reads_version}
use Rattle.station_words.proofs.words.read_call.Goals as goal

pub returns-in-replay : goal.returns-in-replay
returns-in-replay c = reads_at c.args.first.now (codes "replay") (map string_bytes c.args.given.now) c.read_replay.result c.in-replay.is c.read_replay.ensures

pub returns-in-serve : goal.returns-in-serve
returns-in-serve c = reads_at c.args.first.now (codes "serve") (map string_bytes c.args.given.now) c.read_served.result c.in-serve.is c.read_served.ensures

pub returns-in-drill : goal.returns-in-drill
returns-in-drill c = reads_at c.args.first.now (codes "drill") (map string_bytes c.args.given.now) c.read_drilled.result c.in-drill.is c.read_drilled.ensures

pub returns-in-rov : goal.returns-in-rov
returns-in-rov c = reads_at c.args.first.now (codes "rov") (map string_bytes c.args.given.now) c.read_rov.result c.in-rov.is c.read_rov.ensures

pub returns-in-archive : goal.returns-in-archive
returns-in-archive c = reads_at c.args.first.now (codes "archive") (map string_bytes c.args.given.now) c.read_archive.result c.in-archive.is c.read_archive.ensures

pub returns-in-recall : goal.returns-in-recall
returns-in-recall c = reads_at c.args.first.now (codes "recall") (map string_bytes c.args.given.now) c.read_recall.result c.in-recall.is c.read_recall.ensures

pub returns-in-check : goal.returns-in-check
returns-in-check c = reads_check c.args.first.now (map string_bytes c.args.given.now) c.in-check.is c.read_plain.result c.read_plain.ensures

pub returns-in-relay : goal.returns-in-relay
returns-in-relay c = reads_relay c.args.first.now (map string_bytes c.args.given.now) c.in-relay.is c.read_plain-in-relay.result c.read_plain-in-relay.ensures

pub returns-in-text : goal.returns-in-text
returns-in-text c = reads_help c.args.first.now (map string_bytes c.args.given.now) c.in-text.is c.read_lone.result c.read_lone.ensures

pub returns-in-text-2 : goal.returns-in-text-2
returns-in-text-2 c = reads_version c.args.first.now (map string_bytes c.args.given.now) c.in-text-2.is c.read_lone-in-text-2.result c.read_lone-in-text-2.ensures

pub returns-in_default : goal.returns-in_default
returns-in_default c =
    let given = map string_bytes c.args.given.now in
    let no = c.in_default in
    reads_none c.args.first.now given (no_other c.args.first.now given no.not-replay no.not-serve no.not-check no.not-drill no.not-relay no.not-rov no.not-archive no.not-recall
    (neither no.not-text no.not-text-2) (neither no.not-text-3 no.not-text-4))
