use Rattle.std.proofs.Common.{◌≡◌, Bool, not, true, ap, sym, subst, ◌∙◌}
use Rattle.std.specs.Option.{is_some}
use Rattle.bmp_specs.specs.Values.{AttrsValue}
use Rattle.bmp_writer.specs.WrittenUpdate.{AreShort}
use Rattle.bmp_writer.proofs.Announcing.{announced}
use Rattle.bmp_writer.proofs.limits.can_announce.Goals as goal

pub returns-then-can_be_given : goal.returns-then-can_be_given
returns-then-can_be_given c = λ t.
    let m = c.attrs.inside in
    let inside : AttrsValue = record { origin = m.origin; path = m.path; hop = m.hop; med = m.med; pref = m.pref; atomic = m.atomic; aggregator = m.aggregator; communities = m.communities; others = m.others } in
    let same : inside ≡ c.args.attrs.now = c.attrs.view_is in
    let there : is_some c.args.attrs.now.hop ≡ true = ap (λ (a : AttrsValue). is_some a.hop) (sym same) ∙ c.is_none.ensures ∙ ap not c.if-is_none.false in
    let short : AreShort c.args.attrs.now.path = subst (λ (a : AttrsValue). AreShort a.path) same (c.are_short.ensures.0 c.if-not-are_short.false) in
    announced c.args.attrs.now there short (c.can_be_given.ensures.0 c.if-can_be_given.true) (c.fit_with_any.ensures t)
