use Rattle.std.proofs.Common.{List, ℕ, sym, subst}
use Rattle.bmp_specs.specs.NumberText.{IsNumberText}
use Rattle.station_words.proofs.Settings.{far_rounds, no_rounds}
use Rattle.station_words.proofs.serve_words.rounds_of.Goals as goal

pub returns-else-may_be_rounds-clause-none : goal.returns-else-may_be_rounds-clause-none
returns-else-may_be_rounds-clause-none c =
    far_rounds c.args.value.now _ (λ is. cc (c.is_forever.ensures.1 is, c.if-is_forever.false)) (subst (λ (l : List ℕ). IsNumberText l c.in-Some.number) c.as_bytes.ensures.value c.in-Some.ensures.some) (λ h. cc (c.may_be_rounds.ensures.1 h, c.if-may_be_rounds.false))

pub returns-in-None-clause-none : goal.returns-in-None-clause-none
returns-in-None-clause-none c =
    no_rounds c.args.value.now (λ is. cc (c.is_forever.ensures.1 is, c.if-is_forever.false)) (λ n is. c.in-None.ensures.none n (subst (λ (l : List ℕ). IsNumberText l n) (sym c.as_bytes.ensures.value) is))
