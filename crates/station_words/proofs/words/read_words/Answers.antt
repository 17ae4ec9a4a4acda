use Rattle.std.proofs.Common.{◌≡◌, ℕ, ◌-◌, ◌<◌, ◌∷◌, ◌∙◌, List, length, map, take, drop, ap, sym, arith}
use Rattle.std.specs.String.{string_bytes}
use Rattle.station_words.proofs.Commands.{first_word}
use Rattle.station_words.proofs.Readings.{call_read, memory_read, no_words, none_read}
use Rattle.station_words.proofs.words.read_words.Goals as goal

-- the first of the words, as it was read, and the others
split : (c : goal.After-read_call) → map string_bytes c.args.words.now ≡ c.as_str.result.now ∷ map string_bytes (take (length c.args.words.now - 1) (drop 1 c.args.words.now))
split c =
    let words = c.args.words.now in
    let given = map string_bytes (take (length words - 1) (drop 1 words)) in
    let some : 0 < length words = omega (arith, c.in-len1-up.len_at_least) in
    first_word string_bytes words c.first-item.result some c.first-item.is ∙ ap (λ (l : List ℕ). l ∷ given) (sym c.as_str.ensures.value)

pub returns-in-len1-up-clause-ok : goal.returns-in-len1-up-clause-ok
returns-in-len1-up-clause-ok c = call_read _ _ _ (split c) c.read_call.result c.read_call.ensures

pub returns-in-len1-up-clause-usage : goal.returns-in-len1-up-clause-usage
returns-in-len1-up-clause-usage c = none_read _ _ _ (split c) c.read_call.result c.read_call.ensures

pub returns-in-len1-up-clause-memory : goal.returns-in-len1-up-clause-memory
returns-in-len1-up-clause-memory c = memory_read _ _ _ (split c) c.read_call.result c.read_call.ensures

pub returns-in-empty-clause-usage : goal.returns-in-empty-clause-usage
returns-in-empty-clause-usage c = λ usage. no_words string_bytes c.args.words.now (omega (arith, c.in-empty.len_below))
