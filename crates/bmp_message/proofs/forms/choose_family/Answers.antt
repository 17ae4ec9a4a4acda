use Rattle.std.proofs.Common.{Bool, not, ◌&&◌, sym, subst}
use Rattle.std.proofs.lemmas.Bool.{iff_false}
use Rattle.bmp_specs.specs.FramedUpdate.{FitsFamily}
use Rattle.bgp_update.specs.Framed.{framed_value}
use Rattle.bmp_message.proofs.Choosing.{identified, no_form, no_other, takes_last, takes_other}
use Rattle.bmp_message.proofs.forms.choose_family.Goals as goal

pub returns-then-fits_family-clause-some : goal.returns-then-fits_family-clause-some
returns-then-fits_family-clause-some c =
    takes_last (λ bare. FitsFamily (framed_value c.args.framed.now) c.args.family (not bare && c.args.agreed)) c.args.last
    (subst (λ (b : Bool). FitsFamily (framed_value c.args.framed.now) c.args.family b) c.identified.ensures (c.fits_family.ensures.0 c.if-fits_family.true))

pub returns-then-not-agreed-clause-none : goal.returns-then-not-agreed-clause-none
returns-then-not-agreed-clause-none c bare =
    no_other (λ b. FitsFamily (framed_value c.args.framed.now) c.args.family b) c.args.last c.args.agreed c.if-not-agreed.true
    (λ fits. iff_false c.fits_family.ensures c.if-fits_family.false (subst (λ (b : Bool). FitsFamily (framed_value c.args.framed.now) c.args.family b) (sym c.identified.ensures) fits)) bare

pub returns-then-fits_family-2-clause-some : goal.returns-then-fits_family-2-clause-some
returns-then-fits_family-2-clause-some c =
    takes_other (λ bare. FitsFamily (framed_value c.args.framed.now) c.args.family (not bare && c.args.agreed)) c.args.last
    (λ fits. iff_false c.fits_family.ensures c.if-fits_family.false (subst (λ (b : Bool). FitsFamily (framed_value c.args.framed.now) c.args.family b) (sym c.identified.ensures) fits))
    (identified (λ b. FitsFamily (framed_value c.args.framed.now) c.args.family b) c.args.last c.args.agreed c.if-not-agreed.false (c.fits_family-2.ensures.0 c.if-fits_family-2.true))

pub returns-clause-none : goal.returns-clause-none
returns-clause-none c bare =
    no_form (λ b. FitsFamily (framed_value c.args.framed.now) c.args.family b) c.args.last c.args.agreed c.if-not-agreed.false
    (λ fits. iff_false c.fits_family.ensures c.if-fits_family.false (subst (λ (b : Bool). FitsFamily (framed_value c.args.framed.now) c.args.family b) (sym c.identified.ensures) fits))
    (iff_false c.fits_family-2.ensures c.if-fits_family-2.false) bare
