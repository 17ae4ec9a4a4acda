use Rattle.std.proofs.Common.{◌≡◌, [], ◌∷◌, ◌++◌, List, ℕ, length, map, refl, subst, arith, length-append}
use Rattle.std.specs.String.{string_bytes}
use Rattle.std.proofs.lemmas.List.{length-map}
use Rattle.station_words.specs.Complaints.{StandInFront}
use Rattle.station_words.proofs.ComplaintSteps.{known_sound, knows_nothing, none_left, stand_all, takes_words}
use Rattle.station_words.proofs.serve_options.words_complaint.Goals as goal

pub loop-init : goal.loop-init
loop-init c = ([], refl, knows_nothing c.none-seen.result.given c.none-seen.ensures, refl)

pub returns-in_default-clause-none : goal.returns-in_default-clause-none
returns-in_default-clause-none c =
    let inv = c.loop.invariant in
    (inv.0, stand_all inv.0 (map string_bytes c.args.given.now) (map string_bytes c.loop.left.now) inv.1 c.in_default.ensures.none, known_sound c.loop.seen.given inv.0 inv.2)

pub returns-in-Err-clause-some : goal.returns-in-Err-clause-some
returns-in-Err-clause-some c =
    let inv = c.loop.invariant in
    let given = map string_bytes c.args.given.now in
    c.in-Err.ensures.err inv.0 given (subst (λ (l : List (List ℕ)). StandInFront inv.0 given l) c.in-Some.ensures.some inv.1) inv.2

pub loop-preserved : goal.loop-preserved
loop-preserved c =
    let inv = c.loop.invariant in
    let given = map string_bytes c.args.given.now in
    let more = c.in-Ok.ensures.ok inv.0 given (subst (λ (l : List (List ℕ)). StandInFront inv.0 given l) c.in-Some.ensures.some inv.1) inv.2 in
    (inv.0 ++ more.0 ∷ [], more.1, more.2, omega (arith, inv.3, length-append inv.0 (more.0 ∷ [])))

pub returns-clause-none : goal.returns-clause-none
returns-clause-none c =
    let inv = c.loop.invariant in
    let given = map string_bytes c.args.given.now in
    let left = map string_bytes c.loop.left.now in
    let end : left ≡ [] = none_left left (omega (arith, takes_words inv.0 given left inv.1, inv.3, c.loop-test.false, length-map c.args.given.now string_bytes)) in
    (inv.0, stand_all inv.0 given left inv.1 end, known_sound c.loop.seen.given inv.0 inv.2)
