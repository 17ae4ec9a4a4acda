use Rattle.std.proofs.Common.{List, ℕ, sym, subst}
use Rattle.bmp_specs.specs.NumberText.{IsNumberText}
use Rattle.station_words.proofs.Settings.{far_time, no_time}
use Rattle.station_words.proofs.serve_words.seconds_of.Goals as goal

pub returns-else-may_be_seconds-clause-none : goal.returns-else-may_be_seconds-clause-none
returns-else-may_be_seconds-clause-none c =
    far_time c.args.value.now _ (subst (λ (l : List ℕ). IsNumberText l c.in-Some.number) c.as_bytes.ensures.value c.in-Some.ensures.some) (λ h. cc (c.may_be_seconds.ensures.1 h, c.if-may_be_seconds.false))

pub returns-in-None-clause-none : goal.returns-in-None-clause-none
returns-in-None-clause-none c =
    no_time c.args.value.now (λ n is. c.in-None.ensures.none n (subst (λ (l : List ℕ). IsNumberText l n) (sym c.as_bytes.ensures.value) is))
