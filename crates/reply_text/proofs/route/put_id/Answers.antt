use Rattle.std.proofs.Common.{◌≡◌, ◌∙◌, None, ap, sym}
use Rattle.bmp_specs.specs.Values.{NlriValue}
use Rattle.reply_text.proofs.route.put_id.Goals as goal

pub returns-in-None : goal.returns-in-None
returns-in-None g c =
    let none : c.args.nlri.now.id ≡ None = sym (ap (λ (n : NlriValue). n.id) c.nlri.view_is) ∙ c.in-None.is in
    rw none c.write_all.ensures
