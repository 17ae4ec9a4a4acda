use Rattle.std.proofs.Common.{◌<◌, ◌-◌, length, map, take, drop, arith}
use Rattle.std.specs.String.{string_bytes}
use Rattle.station_words.proofs.Commands.{a_file, asks_none, asks_of}
use Rattle.station_words.proofs.words.read_kept.Goals as goal

pub returns-in-len1-up-clause-ok : goal.returns-in-len1-up-clause-ok
returns-in-len1-up-clause-ok c =
    let words = c.args.words.now in
    let some : 0 < length words = omega (arith, c.in-len1-up.len_at_least) in
    let split = a_file string_bytes words some in
    asks_of (map string_bytes words) (map string_bytes (take (length words - 1) (drop 1 words))) split.0 split.1 c.read_asked.result c.read_asked.ensures.ok

pub returns-in-len1-up-clause-usage : goal.returns-in-len1-up-clause-usage
returns-in-len1-up-clause-usage c = λ usage.
    let words = c.args.words.now in
    let some : 0 < length words = omega (arith, c.in-len1-up.len_at_least) in
    let split = a_file string_bytes words some in
    asks_none (map string_bytes words) (map string_bytes (take (length words - 1) (drop 1 words))) split.0 split.1 (c.read_asked.ensures.usage usage)
