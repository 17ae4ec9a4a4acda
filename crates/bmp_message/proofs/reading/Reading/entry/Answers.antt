use Rattle.std.proofs.Common.{sym, subst, All}
use Rattle.std.proofs.lemmas.Result.{IfOk-weaker}
use Rattle.bmp_specs.specs.MessageEffects.{HasViewOfKey}
use Rattle.bmp_specs.specs.Session.{effects_in}
use Rattle.bmp_specs.specs.Values.{EntryValue}
use Rattle.bmp_specs.proofs.MessageViews.{IsMessage-views}
use Rattle.bmp_message.specs.State.{reading_state}
use Rattle.bmp_message.proofs.reading.Reading.entry.Goals as goal

pub returns-clause-views : goal.returns-clause-views
returns-clause-views c =
    IfOk-weaker c.entry.result _ _
    (λ entry p. subst (λ (e : EntryValue). All HasViewOfKey (effects_in e)) (sym p.entry_is) (IsMessage-views (reading_state c.args.self.now) (reading_state c.entry.new.self) c.args.kind c.args.body.now p.value p.means))
    c.entry.ensures.ok
