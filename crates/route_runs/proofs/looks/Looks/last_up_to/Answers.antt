use Rattle.std.proofs.Common.{◌++◌, sym, subst}
use Rattle.std.specs.Option.{option_map}
use Rattle.route_runs.specs.Longest.{row_prefix, IsLastUpTo}
use Rattle.route_runs.specs.Nlri.{AreNlri}
use Rattle.route_runs.specs.Places.{shown}
use Rattle.route_runs.proofs.Nearer.{last_or_none}
use Rattle.route_runs.proofs.looks.Looks.last_up_to.Goals as goal

pub returns-clause-last : goal.returns-clause-last
returns-clause-last g c = subst (IsLastUpTo c.args.self.now c.args.place.now) (sym c.prefix_of.ensures)
    (subst (λ es. IsLastUpTo es c.args.place.now (option_map row_prefix (option_map shown c.last_in_both-found.result))) c.self.view_is
    (last_or_none (c.self.inside.ipv4.now ++ c.self.inside.ipv6.now) (subst (λ es. AreNlri es) (sym c.self.view_is) c.requires) c.args.place.now (option_map shown c.last_in_both-found.result) c.last_in_both-found.ensures))
