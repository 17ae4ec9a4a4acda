use Rattle.bmp_specs.specs.declared.wire.Family.TheVariants.{V4}
use Rattle.bgp_update.proofs.Reading.{bare_found, bare_none, items_more, items_end}
use Rattle.bgp_update.proofs.items.add_plain_v4.Goals as goal

pub loop-prefix-preserved : goal.loop-prefix-preserved
loop-prefix-preserved c =
    items_more _ _ _ _ _ _ _ _ _ _ c.loop-prefix.invariant (bare_found V4 _ _ _ c.in-Some.ensures.found) c.split_at.ensures.back c.in_ok-push.ensures.ok

pub returns : goal.returns
returns c = items_end _ _ _ _ _ _ c.loop-prefix.invariant (bare_none V4 _ c.in_default.ensures.none)
