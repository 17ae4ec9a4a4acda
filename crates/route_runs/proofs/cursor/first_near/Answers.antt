use Rattle.std.proofs.Common.{◌≡◌, None, Option, Some, map, ap, ◌∙◌}
use Rattle.std.specs.Arc.{arc_value}
use Rattle.std.specs.Option.{option_map}
use Rattle.route_runs.specs.Places.{told}
use Rattle.route_runs.specs.Runs.{latest, seen, shared}
use Rattle.route_runs.proofs.Onward.{next_of, none_next}
use Rattle.route_runs.proofs.Searching.{first_at, passed_none, none_first, passed_more, fewer_left}
use Rattle.route_runs.proofs.cursor.first_near.Goals as goal

pub loop-row-init : goal.loop-row-init
loop-row-init g c = passed_none g.K.Ord.cmp g.met.K.Ord.total g.met.K.RunKey.exact (λ q. latest g.K.Ord.cmp q (map arc_value c.args.runs.now)) c.args.place

pub loop-row-smaller : goal.loop-row-smaller
loop-row-smaller g c =
    fewer_left g.K.Ord.cmp g.met.K.RunKey.exact g.K.Ord.cmp g.met.K.Ord.total g.met.K.RunKey.exact (map arc_value c.args.runs.now) c.loop-row.at c.in-Some.row.0
    (next_of g.K.Ord.cmp (λ q. latest g.K.Ord.cmp q (map arc_value c.args.runs.now)) c.loop-row.at (told c.in-Some.row) c.in-Some.ensures)

pub loop-row-preserved : goal.loop-row-preserved
loop-row-preserved g c =
    passed_more g.K.Ord.cmp g.met.K.Ord.total g.met.K.RunKey.exact (λ q. latest g.K.Ord.cmp q (map arc_value c.args.runs.now)) c.args.place c.loop-row.at c.loop-row.invariant c.in-Some.row.0
    (next_of g.K.Ord.cmp (λ q. latest g.K.Ord.cmp q (map arc_value c.args.runs.now)) c.loop-row.at (told c.in-Some.row) c.in-Some.ensures)
    (ap seen c.in-Some.ensures.there ∙ ap (option_map shared) c.in_default-1₀.is)

pub returns-in-Some-1₀ : goal.returns-in-Some-1₀
returns-in-Some-1₀ g c =
    first_at g.K.Ord.cmp g.met.K.Ord.total g.met.K.RunKey.exact (λ q. latest g.K.Ord.cmp q (map arc_value c.args.runs.now)) c.args.place c.loop-row.at c.loop-row.invariant c.in-Some.row.0 (shared c.in-Some-1₀.set)
    (next_of g.K.Ord.cmp (λ q. latest g.K.Ord.cmp q (map arc_value c.args.runs.now)) c.loop-row.at (told c.in-Some.row) c.in-Some.ensures)
    (ap seen c.in-Some.ensures.there ∙ ap (option_map shared) c.in-Some-1₀.is)

pub returns-in_default : goal.returns-in_default
returns-in_default g c =
    none_first g.K.Ord.cmp g.met.K.Ord.total g.met.K.RunKey.exact (λ q. latest g.K.Ord.cmp q (map arc_value c.args.runs.now)) c.args.place c.loop-row.at c.loop-row.invariant
    (none_next g.K.Ord.cmp (λ q. latest g.K.Ord.cmp q (map arc_value c.args.runs.now)) c.loop-row.at c.in_default.ensures)
