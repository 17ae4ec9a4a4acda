use Rattle.std.proofs.Common.{inl, inr}
use Rattle.station_words.specs.declared.serve_options.ServeOption.TheVariants.{Ports}
use Rattle.station_words.proofs.SoundWords.{given_value}
use Rattle.station_words.proofs.serve_ports.are_shared.Goals as goal

pub returns-in-Some-ports_of : goal.returns-in-Some-ports_of
returns-in-Some-ports_of c = λ settings are sound. inl (c.in-Some.value.now, c.in-Some.ensures.some settings are sound, c.in-Some-ports_of.ensures.some)

pub returns-in-None-ports_of : goal.returns-in-None-ports_of
returns-in-None-ports_of c = λ settings are sound.
    let is = given_value settings sound Ports c.in-Some.value.now (c.in-Some.ensures.some settings are sound) in
    absurd (c.in-None-ports_of.ensures.none is.0 is.1)

pub returns-in-None : goal.returns-in-None
returns-in-None c = λ settings are sound. inr (c.in-None.ensures.none settings are sound, c.are_usually_shared.ensures settings are sound)
