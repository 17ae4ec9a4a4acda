use Rattle.std.proofs.Common.{refl}
use Rattle.bgp_update.proofs.Judging.{found_is}
use Rattle.bgp_update.proofs.judge.judge_update.Goals as goal

pub returns-in-Some : goal.returns-in-Some
returns-in-Some c = (λ _. found_is _ _ _ _ c.in-Some.ensures.some, λ _. refl)

pub returns-in-None : goal.returns-in-None
returns-in-None c = (λ h. absurd (cc h), λ p. absurd (c.in-None.ensures.none p.0 p.1))
