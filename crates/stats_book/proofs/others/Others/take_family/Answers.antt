use Rattle.std.proofs.Common.{◌≡◌, [], ◌∷◌, ◌++◌, List, ap, ◌∙◌, arith}
use Rattle.std.proofs.lemmas.List.{with_items_is}
use Rattle.ask_specs.specs.Connection.{FamilyCountValue}
use Rattle.stats_book.specs.contracts.others.Others.{the_view}
use Rattle.stats_book.proofs.OtherSteps.{takes_known, takes_new, takes_later}
use Rattle.stats_book.proofs.others.Others.take_family.Goals as goal

pub returns-then-count_named : goal.returns-then-count_named
returns-then-count_named c = λ all was.
    let named = with_items_is c.self.inside.named c.count_named.new.named (omega (arith, c.count_named.auto.named, c.deref_mut.ensures.len)) in
    ap (λ (l : List FamilyCountValue). record { families = c.saturating_add-self-inside.result; named = l; more = c.self.inside.more }) named
    ∙ takes_known (the_view c.self.inside) c.args.family c.saturating_add-self-inside.result c.deref_mut.result.now c.count_named.new.named c.saturating_add-self-inside.ensures c.deref_mut.ensures.value
    c.if-count_named.ensures.found c.count_named.ensures.counted all (c.self.view_is ∙ was)

pub returns-in_ok-push : goal.returns-in_ok-push
returns-in_ok-push c = λ all was.
    let named = with_items_is c.self.inside.named c.count_named.new.named (omega (arith, c.count_named.auto.named, c.deref_mut.ensures.len)) in
    let pushed : c.push.new.self.items ≡ c.count_named.new.named ++ record { family = c.args.family; count = 1 } ∷ [] = c.in_ok-push.ensures.items ∙ ap (λ (l : List FamilyCountValue). l ++ record { family = c.args.family; count = 1 } ∷ []) named in
    ap (λ (l : List FamilyCountValue). record { families = c.saturating_add-self-inside.result; named = l; more = c.self.inside.more }) pushed
    ∙ takes_new (the_view c.self.inside) c.args.family c.saturating_add-self-inside.result c.deref_mut.result.now c.count_named.new.named c.saturating_add-self-inside.ensures c.deref_mut.ensures.value
    c.if-count_named.ensures.found c.count_named.ensures.counted (omega (arith, c.self.inside.named.ok.0)) all (c.self.view_is ∙ was)

pub returns-else-len-lt-MOST_NAMED : goal.returns-else-len-lt-MOST_NAMED
returns-else-len-lt-MOST_NAMED c = λ all was.
    let named = with_items_is c.self.inside.named c.count_named.new.named (omega (arith, c.count_named.auto.named, c.deref_mut.ensures.len)) in
    let later = c.saturating_add-self-inside-else-len-lt-MOST_NAMED in
    ap (λ (l : List FamilyCountValue). record { families = c.saturating_add-self-inside.result; named = l; more = later.result }) named
    ∙ takes_later (the_view c.self.inside) c.args.family c.saturating_add-self-inside.result c.deref_mut.result.now c.count_named.new.named later.result c.saturating_add-self-inside.ensures c.deref_mut.ensures.value
    c.if-count_named.ensures.found c.count_named.ensures.counted (omega (arith, c.self.inside.named.ok.0)) later.ensures all (c.self.view_is ∙ was)
