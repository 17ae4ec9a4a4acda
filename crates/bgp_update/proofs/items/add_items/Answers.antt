use Rattle.std.proofs.Common.{◌≡◌, ◌++◌, Bool, List, false, rules, sym, subst}
use Rattle.std.specs.Prelude.{OnOk}
use Rattle.bmp_specs.specs.declared.wire.Family.{Family}
use Rattle.bmp_specs.specs.declared.wire.Family.TheVariants.{V4}
use Rattle.bmp_specs.specs.Nlri.{AreNlri}
use Rattle.bmp_specs.specs.Values.{NlriValue}
use Rattle.bgp_update.proofs.Reading.{items_more, items_end}
use Rattle.bgp_update.proofs.items.add_items.Goals as goal

pub loop-nlri-preserved : goal.loop-nlri-preserved
loop-nlri-preserved c = items_more _ _ _ _ _ _ _ _ _ _ c.loop-nlri.invariant c.in-Some.ensures.found c.split_at.ensures.back c.in_ok-push.ensures.ok

pub returns : goal.returns
returns c = items_end _ _ _ _ _ _ c.loop-nlri.invariant c.in_default.ensures.none

-- IPv4 prefixes without identifiers
pub returns-then-not-identified : goal.returns-then-not-identified
returns-then-not-identified c =
    let v4 : c.args.family ≡ V4 = search rules in
    let bare : c.args.identified ≡ false = search rules in
    let Added : Family → Bool → Type 0 = λ f b. OnOk c.add_plain_v4.result ((ns : List NlriValue) → AreNlri f b c.args.bytes.now ns → c.add_plain_v4.new.list ≡ c.args.list.now ++ ns) in
    subst (λ (f : Family). Added f c.args.identified) (sym v4) (subst (λ (b : Bool). Added V4 b) (sym bare) c.add_plain_v4.ensures)
