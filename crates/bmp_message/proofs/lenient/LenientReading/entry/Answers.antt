use Rattle.std.proofs.lemmas.Result.{IfOk-weaker}
use Rattle.bmp_specs.proofs.LenientViews.{lenient_views}
use Rattle.rib_model.specs.Entries.{entry_value}
use Rattle.bmp_message.specs.Lenient.{lenient_state}
use Rattle.bmp_message.proofs.lenient.LenientReading.entry.Goals as goal

pub returns-clause-views : goal.returns-clause-views
returns-clause-views c =
    IfOk-weaker c.entry.result _ _
    (λ entry p. lenient_views (lenient_state c.args.self.now) (lenient_state c.entry.new.self) c.args.kind c.args.body.now (entry_value entry) p) c.entry.ensures.ok
