use Rattle.std.proofs.Common.{◌≡◌, ◌<◌, arith, sym, ap, subst, ◌∙◌}
use Rattle.std.proofs.lemmas.Result.{on_ok_weaker}
use Rattle.rib_model.specs.Effects.{effect_values}
use Rattle.rib_model.specs.Entries.{head_value}
use Rattle.stats_book.specs.declared.passed.Passed.TheInside.{Inside}
use Rattle.stats_book.specs.contracts.passed.Passed.{the_view}
use Rattle.stats_book.proofs.PassedSteps.{CountsParts, counts_routes, counts_stats, counts_tlvs, passed_more}
use Rattle.stats_book.proofs.passed.Passed.take.Goals.{in-0, in-1, in_default}
use Rattle.stats_book.proofs.passed.Passed.take.Goals as goal

pub returns : goal.returns
returns c =
    let old = c.self.inside in
    let parts = c.count_parts-parts.result in
    let kind = c.args.head.now.kind in
    let counts : CountsParts kind parts (the_view old) (the_view c.match-head.self-inside) = elim c.match-head.branch [
      | in-0 w ↦ subst (λ (s : Inside). CountsParts kind parts (the_view old) (the_view s)) (sym w.self-inside-is) (counts_routes parts (the_view old) kind _ w.in-0.is w.saturating_add-self-inside.ensures)
      | in-1 w ↦ subst (λ (s : Inside). CountsParts kind parts (the_view old) (the_view s)) (sym w.self-inside-is) (counts_stats parts (the_view old) kind _ w.in-1.is w.saturating_add-self-inside-in-1.ensures)
      | in_default w ↦ subst (λ (s : Inside). CountsParts kind parts (the_view old) (the_view s)) (sym w.self-inside-is)
          (let above : 1 < c.args.head.now.kind = omega arith in counts_tlvs parts (the_view old) kind _ (λ e. omega (arith, e, above)) (λ e. omega (arith, e, above)) w.saturating_add-self-inside-in_default.ensures)
    ] in
    let same : c.match-head.self-inside.others ≡ old.others = elim c.match-head.branch [
      | in-0 w ↦ ap (λ (s : Inside). s.others) w.self-inside-is
      | in-1 w ↦ ap (λ (s : Inside). s.others) w.self-inside-is
      | in_default w ↦ ap (λ (s : Inside). s.others) w.self-inside-is
    ] in
    on_ok_weaker c.take.result (λ others messages was.
    passed_more (the_view old) (the_view (record { tlvs = c.match-head.self-inside.tlvs; stats = c.match-head.self-inside.stats; routes = c.match-head.self-inside.routes; others = c.take.new.self })) parts
    (head_value c.args.head.now) (effect_values c.args.effects.now) (record { tlvs = counts.tlvs; stats = counts.stats; routes = counts.routes }) c.count_parts-parts.ensures (λ all told. others all (same ∙ told)) messages (c.self.view_is ∙ was))
    c.take.ensures
