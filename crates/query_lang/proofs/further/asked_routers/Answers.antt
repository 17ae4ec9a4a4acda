use Rattle.std.proofs.Common.{sym, ◌∙◌}
use Rattle.std.proofs.lemmas.Bool.{true≢false}
use Rattle.query_lang.specs.Reading.{further_words}
use Rattle.query_lang.proofs.AskWords.{routers_none}
use Rattle.query_lang.proofs.LineWords.{something_follows}
use Rattle.query_lang.proofs.further.asked_routers.Goals as goal
use Rattle.query_lang.proofs.further.asked_routers.Goals.{then-steps-via-then-steps, then-steps-via-else-steps+then-not-full, then-steps-via-else-steps+else-not-full+then-not-is_empty}

pub returns-then-steps-clause-none : goal.returns-then-steps-clause-none
returns-then-steps-clause-none c =
    routers_none c.args.steps c.args.full (further_words c.args.rest.now) (λ no_steps is_full none.
    elim c.then-steps.branch [
      | then-steps-via-then-steps w ↦ true≢false (sym w.if-steps.true ∙ no_steps)
      | then-steps-via-else-steps+then-not-full w ↦ true≢false (sym is_full ∙ w.if-not-full.true)
      | then-steps-via-else-steps+else-not-full+then-not-is_empty w ↦ something_follows c.args.rest.now w.is_empty.result w.is_empty.ensures w.if-not-is_empty.true none
    ])
