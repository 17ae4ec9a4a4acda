use Rattle.std.proofs.Common.{sym, ◌∙◌}
use Rattle.std.proofs.lemmas.Result.{IfOk-weaker}
use Rattle.rib_model.specs.Effects.{effect_values}
use Rattle.bmp_message.specs.State.{reading_state}
use Rattle.bmp_message.proofs.Meanings.{known_statistics, no_statistics, orphan_statistics}
use Rattle.bmp_message.proofs.reading.ReadingPeerReading.statistics.Goals as goal

pub returns-then-not-is_up-clause-ok : goal.returns-then-not-is_up-clause-ok
returns-then-not-is_up-clause-ok c h =
    IfOk-weaker c.orphan.result _ _ (λ made is. orphan_statistics (reading_state c.args.self.now) h c.args.key.now c.args.rest.now (effect_values made) (sym c.is_up.ensures ∙ c.if-not-is_up.true) (sym is)) c.orphan.ensures.ok

pub returns-clause-ok : goal.returns-clause-ok
returns-clause-ok c h =
    IfOk-weaker c.statistics.result _ _ (λ effects. known_statistics (reading_state c.args.self.now) h c.args.key.now c.args.rest.now (sym c.is_up.ensures ∙ c.if-not-is_up.false) (effect_values effects)) c.statistics.ensures.ok

pub returns-clause-broken : goal.returns-clause-broken
returns-clause-broken c h broken =
    no_statistics (reading_state c.args.self.now) h c.args.key.now c.args.rest.now (sym c.is_up.ensures ∙ c.if-not-is_up.false) (c.statistics.ensures.broken broken)
