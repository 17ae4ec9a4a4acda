use Rattle.std.specs.Prelude.{◌≡◌, MatchResult}
use Rattle.std.proofs.Common.{subst}
use Rattle.std.specs.Arc.{arc_value}
use Rattle.cut_publisher.specs.Publication.{Published}
use Rattle.cut_publisher.specs.Refusals.{handed_back}
use Rattle.cut_publisher.proofs.publication.Desk+S+J+CellWriter+S.publish_unnoted.Goals as goal

pub returns-in-Ok : goal.returns-in-Ok
returns-in-Ok g c =
    let new = c.publish-desk.result.1.0 in
    let p : Published c.args.pass c.args.entries.now new c.in-Ok.field-0 = subst (λ r. MatchResult r (λ n. Published c.args.pass c.args.entries.now new n) (λ r. (new ≡ c.args.pass) × (handed_back r ≡ arc_value c.args.value))) c.in-Ok.is c.publish-desk.ensures in
    subst (λ n. Published c.args.pass c.args.entries.now new n) p.note_is p
