use Rattle.std.proofs.Common.{◌∙◌}
use Rattle.ip_prefix.proofs.OctetsOrder.{by_front, by_back}
use Rattle.ip_prefix.proofs.address.octets_cmp.Goals as goal

pub returns-then-x-y : goal.returns-then-x-y
returns-then-x-y c =
    c.cmp.ensures ∙ by_front c.args.a.now c.args.b.now c.told-a c.told-b c.fits-a c.fits-b _ _ c.word_at-x.ensures c.word_at-y.ensures c.if-x-y.true

pub returns : goal.returns
returns c =
    c.cmp-2.ensures
    ∙ by_back c.args.a.now c.args.b.now c.told-a c.told-b c.fits-a c.fits-b _ _ c.word_at-x.ensures c.word_at-y.ensures _ _ c.if-x-y.false c.word_at.ensures c.word_at-2.ensures
