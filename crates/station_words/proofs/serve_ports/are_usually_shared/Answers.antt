use Rattle.std.proofs.Common.{sym}
use Rattle.station_words.proofs.serve_ports.are_usually_shared.Goals as goal

pub returns : goal.returns
returns c = λ settings are sound.
    let one = sym (c.gives.ensures settings are sound) in
    let two = sym (c.gives-2.ensures settings are sound) in
    let three = sym (c.gives-3.ensures settings are sound) in
    let four = sym (c.gives-4.ensures settings are sound) in
    let five = sym (c.gives-5.ensures settings are sound) in
    rw (one, two, three, four, five) c.is_short.ensures
