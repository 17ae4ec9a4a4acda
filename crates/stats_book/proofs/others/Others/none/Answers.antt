use Rattle.std.proofs.Common.{ap, List}
use Rattle.ask_specs.specs.Connection.{FamilyCountValue, first_others}
use Rattle.stats_book.proofs.others.Others.none.Goals as goal

pub returns : goal.returns
unfolding first_others
returns c = ap (λ (l : List FamilyCountValue). record { families = 0; named = l; more = 0 }) c.new.ensures.items
