use Rattle.std.proofs.Common.{◌≡◌, true, false, sym, ◌∙◌}
use Rattle.bmp_writer.proofs.Carrying.{alike_join, alike_part}
use Rattle.bmp_writer.proofs.limits.are_all_alike.Goals as goal

pub returns-then-are_alike : goal.returns-then-are_alike
returns-then-are_alike c = (
  λ t. alike_join c.family_of-family.result c.has_ids-ids.result c.args.withdrawn.now c.args.announced.now c.family_of-family.ensures c.has_ids-ids.ensures (c.are_alike.ensures.0 c.if-are_alike.true) (c.are_alike-then-are_alike.ensures.0 t),
  λ a. c.are_alike-then-are_alike.ensures.1 (alike_part c.family_of-family.result c.has_ids-ids.result c.args.withdrawn.now c.args.announced.now c.family_of-family.ensures c.has_ids-ids.ensures a).1,
)

pub returns-else-are_alike : goal.returns-else-are_alike
returns-else-are_alike c = (
  λ t.
      let both : true ≡ false = sym t ∙ c.if-are_alike.false in
      absurd cc,
  λ a. c.are_alike.ensures.1 (alike_part c.family_of-family.result c.has_ids-ids.result c.args.withdrawn.now c.args.announced.now c.family_of-family.ensures c.has_ids-ids.ensures a).0,
)
