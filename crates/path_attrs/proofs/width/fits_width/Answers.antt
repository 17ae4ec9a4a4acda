use Rattle.path_attrs.proofs.Fitting.{framed_somehow, value_told}
use Rattle.path_attrs.proofs.width.fits_width.Goals as goal

pub returns-in-None : goal.returns-in-None
returns-in-None c = (λ yes. absurd (cc yes), λ v. absurd (c.in-None.ensures.none v.read v.are))

pub returns-in-None-frame_attrs : goal.returns-in-None-frame_attrs
returns-in-None-frame_attrs c = (λ yes. absurd (cc yes), λ v. absurd (framed_somehow _ _ v.read v.are c.in-None-frame_attrs.ensures.none))

pub returns-in-Some-frame_attrs : goal.returns-in-Some-frame_attrs
returns-in-Some-frame_attrs c = value_told _ _ _ c.in-true.is _ c.in-Some.ensures.some _ c.in-Some-frame_attrs.ensures.some _ c.path_has_no_zero.ensures
