use Rattle.std.proofs.Common.{◌≡◌, List, ◌++◌, append_assoc, subst, ap, ◌∙◌}
use Rattle.std.specs.Prelude.{OnOk}
use Rattle.std.proofs.lemmas.Result.{on_ok_weaker}
use Rattle.bmp_specs.specs.MessageEffects.{effects_of}
use Rattle.bmp_specs.specs.Values.{EffectValue, UpdateValue, routes}
use Rattle.rib_model.specs.Effects.{effect_values}
use Rattle.bmp_message.proofs.routes.add_routes.Goals as goal

regroup : (e w p m k n : List EffectValue) → ((((e ++ w) ++ p) ++ m) ++ k) ++ n ≡ e ++ ((((w ++ p) ++ m) ++ k) ++ n)
regroup e w p m k n = simp append_assoc

joined : (first second third fourth fifth last w p m k n : List EffectValue) → second ≡ first ++ w → third ≡ second ++ p → fourth ≡ third ++ m → fifth ≡ fourth ++ k → last ≡ fifth ++ n
    → last ≡ first ++ ((((w ++ p) ++ m) ++ k) ++ n)
joined first second third fourth fifth last w p m k n a b c d e =
    let two : third ≡ (first ++ w) ++ p = b ∙ ap (λ (l : List EffectValue). l ++ p) a in
    let three : fourth ≡ ((first ++ w) ++ p) ++ m = c ∙ ap (λ (l : List EffectValue). l ++ m) two in
    let four : fifth ≡ (((first ++ w) ++ p) ++ m) ++ k = d ∙ ap (λ (l : List EffectValue). l ++ k) three in
    e ∙ ap (λ (l : List EffectValue). l ++ n) four ∙ regroup first w p m k n

pub returns-clause-effects : goal.returns-clause-effects
returns-clause-effects c =
    subst (λ (u : UpdateValue). OnOk c.add_unread.result (effect_values c.add_unread.new.effects ≡ effect_values c.args.effects.now ++ effects_of (routes c.args.key.now c.args.view u))) c.update.view_is
    (on_ok_weaker c.add_unread.result
    (λ last. joined _ _ _ _ _ _ _ _ _ _ _ c.in_ok-add_withdrawals.ensures.effects c.in_ok-add_announcements.ensures.effects c.in_ok-add_announcements-2.ensures.effects c.in_ok-add_mark.ensures.effects last) c.add_unread.ensures.effects)
