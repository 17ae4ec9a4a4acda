use Rattle.std.proofs.Common.{◌∙◌, [], map, sym, ap, arith}
use Rattle.std.specs.String.{string_bytes}
use Rattle.std.proofs.lemmas.List.{get_or-map, get_or_past, length-map}
use Rattle.station_words.proofs.words.word_at.Goals as goal

pub returns-in-Some : goal.returns-in-Some
returns-in-Some c =
    let found = c.in-Some.ensures.lookup in
    c.as_str.ensures.value ∙ ap string_bytes found.1 ∙ sym (get_or-map string_bytes c.args.words.now c.args.place c.in-Some.word.now [] found.3.0)

pub returns-in-None : goal.returns-in-None
returns-in-None c = sym (get_or_past (map string_bytes c.args.words.now) c.args.place [] (omega (arith, c.in-None.ensures.lookup.3, length-map c.args.words.now string_bytes)))
