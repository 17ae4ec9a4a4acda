use Rattle.bmp_message.specs.State.{opens_of}
use Rattle.bmp_message.proofs.Choosing.{fits_in, has_in}
use Rattle.bmp_message.proofs.forms.fits.Goals as goal

pub returns : goal.returns
returns c = (
  λ yes. fits_in (opens_of c.args.peer.now) c.args.head.now c.args.attributes.now _ _ c.args.two_octets c.width_in-width.ensures c.departs.ensures (c.fits_width.ensures.0 yes),
  λ fits. c.fits_width.ensures.1 (has_in (opens_of c.args.peer.now) c.args.head.now c.args.attributes.now _ _ c.args.two_octets c.width_in-width.ensures c.departs.ensures fits),
)
