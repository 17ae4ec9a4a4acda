use Rattle.std.proofs.Common.{◌≡◌, ◌≤◌, [], ◌∷◌, ◌++◌, ◌∙◌, ℕ, List, ap, length, arith}
use Rattle.std.proofs.lemmas.Fmt.{length-decimal-le}
use Rattle.bmp_specs.specs.NumberText.{number_text}
use Rattle.drill_streams.proofs.opening.name_of.Goals as goal

pub put_number-requires : goal.put_number-requires
put_number-requires c =
    let digits : length (number_text c.args.lane) ≤ 10 = length-decimal-le 10 c.args.lane (omega arith) (omega (arith, c.ranges.lane.fits)) (omega (arith, c.ranges.lane.fits)) in
    let front : length c.extend.new.self ≡ 6 = ap (λ (l : List ℕ). length l) c.extend.ensures ∙ ap (λ (l : List ℕ). length (l ++ (100 ∷ 114 ∷ 105 ∷ 108 ∷ 108 ∷ 45 ∷ []))) c.new-name.ensures in
    omega (arith, digits, front)
