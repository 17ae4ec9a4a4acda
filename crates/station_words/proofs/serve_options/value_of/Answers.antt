use Rattle.std.proofs.Common.{◌≡◌, [], ◌∷◌, ◌++◌, List, ℕ, length, map, refl, ap, subst, ◌∙◌, arith, length-append}
use Rattle.std.specs.String.{string_bytes}
use Rattle.std.proofs.lemmas.List.{length-map}
use Rattle.station_words.specs.Complaints.{StandInFront, name_of}
use Rattle.station_words.specs.ServeWords.{IsInFront, Setting, values_of}
use Rattle.station_words.specs.declared.serve_options.ServeOption.{ServeOption}
use Rattle.station_words.proofs.ComplaintLaws.{values_behind}
use Rattle.station_words.proofs.ComplaintSteps.{none_left, other_values, stand_all, stand_more, takes_words}
use Rattle.station_words.proofs.SoundWords.{all_values, no_fault, value_is}
use Rattle.station_words.proofs.serve_options.value_of.Goals as goal

pub loop-init : goal.loop-init
loop-init c = ([], refl, refl, refl)

pub returns-in_default-clause-none : goal.returns-in_default-clause-none
returns-in_default-clause-none c = λ settings are sound.
    let inv = c.loop.invariant in
    let given = map string_bytes c.args.given.now in
    let left = map string_bytes c.loop.left.now in
    all_values settings given are sound inv.0 left inv.1 (name_of c.args.option) (stand_all inv.0 given left inv.1 c.in_default.ensures.none) ∙ inv.2

pub returns-in-Err-clause-none : goal.returns-in-Err-clause-none
returns-in-Err-clause-none c = λ settings are sound.
    let inv = c.loop.invariant in
    let given = map string_bytes c.args.given.now in
    let stand = subst (λ (l : List (List ℕ)). StandInFront inv.0 given l) c.in-Some.ensures.some inv.1 in
    absurd (no_fault settings given are sound inv.0 c.in-Some.word.now (map string_bytes c.in-Some.more.now) stand c.in-Err.field-0 c.in-Err.ensures.err)

pub returns-then-equals-clause-some : goal.returns-then-equals-clause-some
returns-then-equals-clause-some c = λ settings are sound.
    let inv = c.loop.invariant in
    let given = map string_bytes c.args.given.now in
    let words = c.in-Some.word.now ∷ map string_bytes c.in-Some.more.now in
    let others = map string_bytes c.in-Ok.rest.now in
    let stand = subst (λ (l : List (List ℕ)). StandInFront inv.0 given l) c.in-Some.ensures.some inv.1 in
    let here = subst (λ (o : ServeOption). IsInFront (name_of o, c.in-Ok.value.now) words others) (c.equals.ensures.yes c.if-equals.true) c.in-Ok.ensures.ok in
    (value_is settings given are sound inv.0 words stand others c.args.option c.in-Ok.value.now here).1

pub loop-preserved : goal.loop-preserved
loop-preserved c =
    let inv = c.loop.invariant in
    let given = map string_bytes c.args.given.now in
    let words = c.in-Some.word.now ∷ map string_bytes c.in-Some.more.now in
    let others = map string_bytes c.in-Ok.rest.now in
    let next : Setting = (name_of c.in-Ok.other, c.in-Ok.value.now) in
    let stand = subst (λ (l : List (List ℕ)). StandInFront inv.0 given l) c.in-Some.ensures.some inv.1 in
    let name = name_of c.args.option in (
      inv.0 ++ next ∷ [],
      stand_more inv.0 next given words others stand c.in-Ok.ensures.ok,
      values_behind name inv.0 (next ∷ []) ∙ ap (λ (l : List (List ℕ)). l ++ values_of name (next ∷ [])) inv.2 ∙ other_values c.in-Ok.other c.args.option c.in-Ok.value.now (c.equals.ensures.no c.if-equals.false),
      omega (arith, inv.3, length-append inv.0 (next ∷ [])),
    )

pub returns-clause-none : goal.returns-clause-none
returns-clause-none c = λ settings are sound.
    let inv = c.loop.invariant in
    let given = map string_bytes c.args.given.now in
    let left = map string_bytes c.loop.left.now in
    let end : left ≡ [] = none_left left (omega (arith, takes_words inv.0 given left inv.1, inv.3, c.loop-test.false, length-map c.args.given.now string_bytes)) in
    all_values settings given are sound inv.0 left inv.1 (name_of c.args.option) (stand_all inv.0 given left inv.1 end) ∙ inv.2
