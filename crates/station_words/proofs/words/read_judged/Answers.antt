use Rattle.std.proofs.Common.{◌≡◌, ◌∙◌, ℕ, ◌<◌, ◌≤◌, List, [], ◌∷◌, length, map, sym, ap, arith}
use Rattle.std.specs.String.{string_bytes}
use Rattle.station_words.proofs.Commands.{two_named, two_unnamed, two_words}
use Rattle.station_words.proofs.words.read_judged.Goals as goal

pub returns-in-len2-clause-some : goal.returns-in-len2-clause-some
returns-in-len2-clause-some c =
    let words = c.args.words.now in
    let least : 2 ≤ length words = omega (arith, c.in-len2.len_at_least) in
    let most : length words < 3 = omega (arith, c.in-len2.len_below) in
    let texts = two_words string_bytes words c.prefix-item.result least most c.prefix-item.is in
    let split : map string_bytes words ≡ texts.0 ∷ c.as_str.result.now ∷ [] = texts.1 ∙ ap (λ (l : List ℕ). texts.0 ∷ l ∷ []) (sym c.as_str.ensures.value) in
    two_named (map string_bytes words) texts.0 c.as_str.result.now split c.read_prefix.result c.read_prefix.ensures.some

pub returns-in-len2-clause-none : goal.returns-in-len2-clause-none
returns-in-len2-clause-none c =
    let words = c.args.words.now in
    let least : 2 ≤ length words = omega (arith, c.in-len2.len_at_least) in
    let most : length words < 3 = omega (arith, c.in-len2.len_below) in
    let texts = two_words string_bytes words c.prefix-item.result least most c.prefix-item.is in
    let split : map string_bytes words ≡ texts.0 ∷ c.as_str.result.now ∷ [] = texts.1 ∙ ap (λ (l : List ℕ). texts.0 ∷ l ∷ []) (sym c.as_str.ensures.value) in
    two_unnamed (map string_bytes words) texts.0 c.as_str.result.now split c.read_prefix.result c.read_prefix.ensures.none
