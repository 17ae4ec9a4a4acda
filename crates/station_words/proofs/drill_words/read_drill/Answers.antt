use Rattle.std.proofs.Common.{◌≡◌, ℕ, ◌<◌, ◌≤◌, List, [], ◌∷◌, IfNone, length, map, subst, arith}
use Rattle.std.specs.String.{string_bytes}
use Rattle.station_words.specs.DrillWords.{IsDrill}
use Rattle.station_words.specs.declared.drill_words.DrillWords.{DrillWords}
use Rattle.station_words.proofs.ThreeNumbers.{three_words}
use Rattle.station_words.proofs.drill_words.read_drill.Goals as goal

pub returns-in-len3-clause-none : goal.returns-in-len3-clause-none
returns-in-len3-clause-none c =
    let words = c.args.words.now in
    let least : 3 ≤ length words = omega (arith, c.in-len3.len_at_least) in
    let most : length words < 4 = omega (arith, c.in-len3.len_below) in
    let texts = three_words string_bytes words c.seed-item.result c.lanes-item.result c.messages-item.result least most c.seed-item.is c.lanes-item.is c.messages-item.is in
    let seed = c.as_str.ensures.value in
    let lanes = c.as_str-in-len3.ensures.value in
    let messages = c.as_str-in-len3-2.ensures.value in
    let same : c.as_str.result.now ∷ c.as_str-in-len3.result.now ∷ c.as_str-in-len3-2.result.now ∷ [] ≡ map string_bytes words = cc (texts, seed, lanes, messages) in
    subst (λ (l : List (List ℕ)). IfNone c.drill_of.result ((drill : DrillWords) → IsDrill drill l → ⊥)) same c.drill_of.ensures.none
