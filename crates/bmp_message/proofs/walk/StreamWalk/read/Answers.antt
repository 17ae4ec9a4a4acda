use Rattle.std.proofs.Common.{ℕ, List, refl, sym, ap, ◌∙◌, subst}
use Rattle.bmp_specs.specs.declared.causes.Why.TheVariants.{Body}
use Rattle.bmp_specs.specs.Values.{EntryValue}
use Rattle.bmp_message.specs.StreamWalk.{WalkValue, HasReached, fed_of}
use Rattle.bmp_message.proofs.Reaching.{reached_entry, reached_end, ends_body}
use Rattle.bmp_message.proofs.walk.StreamWalk.read.Goals as goal

pub returns-in-Ok-clause-run : goal.returns-in-Ok-clause-run
returns-in-Ok-clause-run g c fed given r =
    let meaning = g.R.BodyReading.meaning in
    let state = g.R.BodyReading.state in
    let i = c.self.inside in
    let old : WalkValue _ = record { reading = i.reading; cutter = i.cutter; offset = i.offset; stage = i.stage } in
    let reached = subst (λ (w : WalkValue _). HasReached meaning state fed given w) (sym c.self.view_is) r in
    let found = c.in-Ok.ensures.ok in
    let means = subst (λ (b : List ℕ). meaning.Means (state i.reading) c.args.kind b found.0 (state c.read.new.reading)) c.body.ensures found.2 in
    (found.0, found.1, reached_entry _ meaning state old fed given reached c.args.kind c.read.new.reading c.offset-self-inside.result c.stage_after-self-inside.result found.0 (ap (λ (w : WalkValue _). w.stage) c.self.view_is ∙ c.requires) means c.offset-self-inside.ensures c.stage_after-self-inside.ensures)

pub returns-in-Err-Broken-clause-run : goal.returns-in-Err-Broken-clause-run
returns-in-Err-Broken-clause-run g c fed given r =
    let meaning = g.R.BodyReading.meaning in
    let state = g.R.BodyReading.state in
    let i = c.self.inside in
    let old : WalkValue _ = record { reading = i.reading; cutter = i.cutter; offset = i.offset; stage = i.stage } in
    let reached = subst (λ (w : WalkValue _). HasReached meaning state fed given w) (sym c.self.view_is) r in
    let at = ap (λ (w : WalkValue _). w.stage) c.self.view_is ∙ c.requires in
    let none = rw c.in-Err-Broken.field-0-is at c.in-Err-Broken.ensures.broken in
    let nothing = subst (λ (b : List ℕ). (e : EntryValue) (next : meaning.State) → meaning.Means (state i.reading) c.args.kind b e next → ⊥) c.body.ensures (none refl) in
    let ends = ends_body _ meaning state old fed given reached c.args.kind at nothing in
    (reached_end _ meaning state old fed given reached Body c.read.new.reading ends, ends)

pub returns-in-Err-Broken-clause-advances : goal.returns-in-Err-Broken-clause-advances
returns-in-Err-Broken-clause-advances g c = (ap (λ (w : WalkValue _). fed_of w) c.self.view_is, ap (λ (w : WalkValue _). w.offset) c.self.view_is, refl)
