use Rattle.std.proofs.Common.{◌≡◌, List, None, Some, Err, sym, ap, subst, ◌∙◌}
use Rattle.std.proofs.lemmas.Result.{IfOk-weaker}
use Rattle.bmp_specs.specs.LenientBody.{OfPeerLeniently}
use Rattle.bmp_specs.specs.MessageBody.{statistics_report}
use Rattle.bmp_specs.specs.Values.{EffectValue}
use Rattle.bmp_message.specs.Lenient.{KnownPeers, known_at, lenient_state}
use Rattle.bmp_message.proofs.LenientRoutes.{down_report, first_report, known_broken_report, known_no_report}
use Rattle.bmp_message.proofs.lenient.LenientReadingPeerReading.statistics.Goals as goal

pub returns-in_default-clause-ok : goal.returns-in_default-clause-ok
returns-in_default-clause-ok c h =
    let there : known_at c.args.self.now c.args.key.now ≡ None = sym (ap (λ (v : KnownPeers). known_at v c.args.key.now) c.self.view_is) ∙ sym c.in_default.ensures.value in
    IfOk-weaker c.orphan.result _ _
    (λ made is. subst (λ (es : List EffectValue). OfPeerLeniently statistics_report (lenient_state c.args.self.now) h c.args.key.now c.args.rest.now es (lenient_state c.args.self.now)) is
    (first_report c.args.self.now h c.args.key.now c.args.rest.now there))
    c.orphan.ensures.ok

pub returns-in_default-known-clause-ok : goal.returns-in_default-known-clause-ok
returns-in_default-known-clause-ok c h =
    let there : known_at c.args.self.now c.args.key.now ≡ Some None = sym (ap (λ (v : KnownPeers). known_at v c.args.key.now) c.self.view_is) ∙ sym c.in-Some.ensures.value ∙ ap Some c.in_default-known.is in
    IfOk-weaker c.orphan-in_default-known.result _ _
    (λ made is. subst (λ (es : List EffectValue). OfPeerLeniently statistics_report (lenient_state c.args.self.now) h c.args.key.now c.args.rest.now es (lenient_state c.args.self.now)) is
    (down_report c.args.self.now h c.args.key.now c.args.rest.now there))
    c.orphan-in_default-known.ensures.ok

pub returns-then-is_untold-clause-ok : goal.returns-then-is_untold-clause-ok
returns-then-is_untold-clause-ok c h =
    let there : known_at c.args.self.now c.args.key.now ≡ Some (Some c.in-Some-known.peer) = sym (ap (λ (v : KnownPeers). known_at v c.args.key.now) c.self.view_is) ∙ sym c.in-Some.ensures.value ∙ ap Some c.in-Some-known.is in
    IfOk-weaker c.orphan-then-is_untold.result _ _
    (λ made is. subst (λ (es : List EffectValue). OfPeerLeniently statistics_report (lenient_state c.args.self.now) h c.args.key.now c.args.rest.now es (lenient_state c.args.self.now)) is
    (known_no_report c.args.self.now h c.args.key.now c.args.rest.now c.in-Some-known.peer there (sym c.is_untold.ensures ∙ c.if-is_untold.true) (c.in-Err-Broken.ensures.broken (ap Err c.in-Err-Broken.field-0-is))))
    c.orphan-then-is_untold.ensures.ok

pub returns-else-is_untold-clause-broken : goal.returns-else-is_untold-clause-broken
returns-else-is_untold-clause-broken c h _ =
    let there : known_at c.args.self.now c.args.key.now ≡ Some (Some c.in-Some-known.peer) = sym (ap (λ (v : KnownPeers). known_at v c.args.key.now) c.self.view_is) ∙ sym c.in-Some.ensures.value ∙ ap Some c.in-Some-known.is in
    known_broken_report c.args.self.now h c.args.key.now c.args.rest.now c.in-Some-known.peer there (sym c.is_untold.ensures ∙ c.if-is_untold.false) (c.in-Err-Broken.ensures.broken (ap Err c.in-Err-Broken.field-0-is))
