use Rattle.std.proofs.Common.{List, ℕ, inl, inr, refl, subst, sym}
use Rattle.bmp_specs.specs.NumberText.{IsNumberText}
use Rattle.station_words.proofs.SoundWords.{given_value}
use Rattle.station_words.proofs.serve_ports.number_of.Goals as goal

pub returns-in-Some-parse_number : goal.returns-in-Some-parse_number
returns-in-Some-parse_number c = λ settings are sound.
    inl (c.in-Some.value.now, c.in-Some.ensures.some settings are sound, subst (λ (t : List ℕ). IsNumberText t c.in-Some-parse_number.number) c.as_bytes.ensures.value c.in-Some-parse_number.ensures.some)

pub returns-in-None-parse_number : goal.returns-in-None-parse_number
returns-in-None-parse_number c = λ settings are sound.
    let is = given_value settings sound c.args.option c.in-Some.value.now (c.in-Some.ensures.some settings are sound) in
    let number = c.requires.is_number c.in-Some.value.now is in
    absurd (c.in-None-parse_number.ensures.none number.0 (subst (λ (t : List ℕ). IsNumberText t number.0) (sym c.as_bytes.ensures.value) number.1))

pub returns-in-None : goal.returns-in-None
returns-in-None c = λ settings are sound. inr (c.in-None.ensures.none settings are sound, refl)
