use Rattle.std.proofs.Common.{[], sym, ap, ◌∙◌}
use Rattle.bmp_specs.specs.Counts.{CountsValue}
use Rattle.bmp_specs.specs.Sums.{sum_of, message_counts}
use Rattle.bmp_specs.proofs.LaneLaws.{counts_after_message}
use Rattle.rib_model.specs.Effects.{effect_values}
use Rattle.rib_model.specs.Entries.{head_value}
use Rattle.router_tables.proofs.counting.count_message.Goals as goal

pub returns : goal.returns
returns c entries is_live was =
    let effects = effect_values c.args.effects.now in
    let one = ap (λ (v : CountsValue). record { messages = 1; bytes = c.args.head.now.length; orphans = v.orphans; unread = v.unread; mirrored = v.mirrored; passed = v.passed }) (c.add.view_is ∙ c.none.ensures) in
    c.count_effects.ensures c.args.counts.now c.args.head.now.length [] (c.add-2.ensures.sums ∙ ap (sum_of c.args.counts.now) one)
    ∙ ap (λ (a : CountsValue). sum_of a (message_counts c.args.head.now.length effects)) was
    ∙ sym (counts_after_message entries (head_value c.args.head.now) effects is_live)
