use Rattle.bgp_update.proofs.frame.fits_place.Goals as goal

pub returns-in-None : goal.returns-in-None
returns-in-None c = (λ yes. absurd (cc yes), λ fits. let found = fits (c.same_family.ensures.0 c.if-not-same_family.false) in absurd (c.in-None.ensures.none found.0 found.1))
