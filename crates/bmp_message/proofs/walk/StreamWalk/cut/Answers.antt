use Rattle.std.proofs.Common.{sym, ap, ◌∙◌, subst}
use Rattle.bmp_specs.specs.Life.{EndsAt}
use Rattle.bmp_specs.specs.Meaning.{WalksBy}
use Rattle.bmp_specs.specs.Walk.{broken}
use Rattle.bmp_frames.specs.Cutter.{CutterValue}
use Rattle.bmp_message.specs.StreamWalk.{WalkValue, HasReached, FitsStage, verdict_with, rest_of}
use Rattle.bmp_message.specs.declared.walk.Stage.{Stage}
use Rattle.bmp_message.specs.declared.walk.Stage.TheVariants.{Broken}
use Rattle.bmp_message.proofs.Reaching.{reached_end, ends_bad, walks_more}
use Rattle.bmp_message.proofs.walk.StreamWalk.cut.Goals as goal

pub returns-in-More-clause-run : goal.returns-in-More-clause-run
returns-in-More-clause-run g c fed given r =
    let meaning = g.R.BodyReading.meaning in
    let state = g.R.BodyReading.state in
    let i = c.self.inside in
    let old : WalkValue _ = record { reading = i.reading; cutter = i.cutter; offset = i.offset; stage = i.stage } in
    let reached = subst (λ (w : WalkValue _). HasReached meaning state fed given w) (sym c.self.view_is) r in
    let at = ap (λ (w : WalkValue _). w.stage) c.self.view_is ∙ c.requires in
    let place = subst (λ (s : Stage). FitsStage i.offset i.cutter s) at c.self.invariant.here in
    let walks = walks_more _ meaning state old fed given reached at place c.in-More.ensures.front in
    subst (λ (k : CutterValue). HasReached meaning state fed given (record old { cutter = k }) × WalksBy meaning fed given i.offset (verdict_with (rest_of (record old { cutter = k })))) (sym c.in-More.ensures.moves) (reached, walks)

pub returns-in-Bad-clause-run : goal.returns-in-Bad-clause-run
returns-in-Bad-clause-run g c fed given r =
    let meaning = g.R.BodyReading.meaning in
    let state = g.R.BodyReading.state in
    let i = c.self.inside in
    let old : WalkValue _ = record { reading = i.reading; cutter = i.cutter; offset = i.offset; stage = i.stage } in
    let reached = subst (λ (w : WalkValue _). HasReached meaning state fed given w) (sym c.self.view_is) r in
    let at = ap (λ (w : WalkValue _). w.stage) c.self.view_is ∙ c.requires in
    let ends = ends_bad _ meaning state old fed given reached c.in-Bad.why at c.in-Bad.ensures.front in
    subst (λ (k : CutterValue). HasReached meaning state fed given (record old { cutter = k; stage = Broken c.in-Bad.why }) × EndsAt meaning fed given i.offset (broken c.in-Bad.why)) (sym c.in-Bad.ensures.moves) (reached_end _ meaning state old fed given reached c.in-Bad.why i.reading ends, ends)
