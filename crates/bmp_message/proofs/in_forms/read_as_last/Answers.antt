use Rattle.std.proofs.Common.{sym, ap, ◌∙◌}
use Rattle.bmp_specs.specs.UpdateForms.{FormsValue, departs}
use Rattle.bmp_message.specs.State.{opens_of}
use Rattle.bmp_message.proofs.InForms.{in_last}
use Rattle.bmp_message.proofs.in_forms.read_as_last.Goals as goal

pub returns-in-Ok : goal.returns-in-Ok
returns-in-Ok c =
    in_last (opens_of c.args.peer.now) c.args.head.now c.args.body.now c.args.last.now _ _ _
    (ap (λ (f : FormsValue). departs (opens_of c.args.peer.now) c.args.head.now f.two_octets) (sym c.last.view_is) ∙ sym c.departs.ensures ∙ c.if-departs.false) c.width_of.ensures c.id_use.ensures c.ids-ids.ensures
    _ c.in-Ok.ensures.ok
