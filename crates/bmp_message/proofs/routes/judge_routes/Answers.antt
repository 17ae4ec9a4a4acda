use Rattle.std.proofs.lemmas.Bool.{iff_false, true_from_ne_false}
use Rattle.bmp_message.proofs.UpdateOf.{no_body, no_update, routes_are}
use Rattle.bmp_message.proofs.routes.judge_routes.Goals as goal

pub returns-in-None : goal.returns-in-None
returns-in-None c = (λ h. absurd (cc h), λ p. absurd (no_update _ _ _ c.in-None.ensures.none p.0 p.1))

pub returns-in-Some : goal.returns-in-Some
returns-in-Some c = (
  λ yes. routes_are _ _ _ _ _ _ c.in-Some.ensures.found c.width_of.ensures c.id_use.ensures (c.judge_update.ensures.0 yes),
  λ p. true_from_ne_false _ (λ no. no_body _ _ _ _ _ _ c.in-Some.ensures.found c.width_of.ensures c.id_use.ensures (λ u is. iff_false c.judge_update.ensures no (u, is)) p.0 p.1),
)
