use Rattle.std.proofs.Common.{codes, sym}
use Rattle.station_words.proofs.Settings.{ports_none, ports_only, ports_some, ports_usual, ports_usual_only}
use Rattle.station_words.proofs.OptionServe.{told_never, told_once}
use Rattle.station_words.proofs.serve_words.find_ports.Goals as goal

pub returns-in-Some-clause-some : goal.returns-in-Some-clause-some
returns-in-Some-clause-some c = λ words are.
    ports_some words _ (told_once words c.args.matches.now (codes "ports") _ are (sym c.in-Some.ensures)) c.ports_of.result c.ports_of.ensures.some

pub returns-in-Some-clause-only : goal.returns-in-Some-clause-only
returns-in-Some-clause-only c = λ words are.
    ports_only words _ (told_once words c.args.matches.now (codes "ports") _ are (sym c.in-Some.ensures)) c.ports_of.result c.ports_of.ensures.some

pub returns-in-Some-clause-none : goal.returns-in-Some-clause-none
returns-in-Some-clause-none c = λ words are.
    ports_none words _ (told_once words c.args.matches.now (codes "ports") _ are (sym c.in-Some.ensures)) c.ports_of.result c.ports_of.ensures.none

pub returns-in-None-clause-some : goal.returns-in-None-clause-some
returns-in-None-clause-some c = λ words are. ports_usual words (told_never words c.args.matches.now (codes "ports") are (sym c.in-None.ensures)) _ (c.usual_ports.ensures words are)

pub returns-in-None-clause-only : goal.returns-in-None-clause-only
returns-in-None-clause-only c = λ words are. ports_usual_only words (told_never words c.args.matches.now (codes "ports") are (sym c.in-None.ensures)) _ (c.usual_ports.ensures words are)
