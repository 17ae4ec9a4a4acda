use Rattle.std.proofs.Common.{ℕ, sym, ap, ◌∙◌}
use Rattle.std.specs.Prelude.{slice_set}
use Rattle.ask_specs.specs.Connection.{FamilyCountValue, same_family}
use Rattle.stats_book.proofs.CountedNames.{none_placed, uncounted, with_one, counted_placed}
use Rattle.stats_book.proofs.others.count_named.Goals as goal

pub returns-in-None-clause-found : goal.returns-in-None-clause-found
returns-in-None-clause-found c = sym (none_placed (λ (o : FamilyCountValue). same_family c.args.family o.family) c.args.named.now c.in-None.ensures)

pub returns-in-None-clause-counted : goal.returns-in-None-clause-counted
returns-in-None-clause-counted c = uncounted c.args.family c.args.named.now (none_placed (λ (o : FamilyCountValue). same_family c.args.family o.family) c.args.named.now c.in-None.ensures)

pub returns-in-Some-clause-found : goal.returns-in-Some-clause-found
returns-in-Some-clause-found c = (counted_placed c.args.family c.args.named.now c.in-Some.at c.index-named-at.result c.in-Some.ensures c.index-named-at.is).1

pub returns-in-Some-clause-counted : goal.returns-in-Some-clause-counted
returns-in-Some-clause-counted c =
    ap (λ (n : ℕ). slice_set c.args.named.now c.in-Some.at (record { family = c.known.inside.family; count = n })) c.saturating_add-known-inside.ensures
    ∙ ap (λ (o : FamilyCountValue). slice_set c.args.named.now c.in-Some.at (with_one o)) (c.known.view_is ∙ sym c.index-named-at.is)
    ∙ (counted_placed c.args.family c.args.named.now c.in-Some.at c.index-named-at.result c.in-Some.ensures c.index-named-at.is).0
