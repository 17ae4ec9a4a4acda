use Rattle.std.proofs.Common.{◌≡◌, ℕ, ◌<◌, List, length, take, sym, subst, ◌∙◌, arith, length-take-le}
use Rattle.std.proofs.lemmas.List.{length-set, take_more_set}
use Rattle.ask_specs.specs.TraitText.{IsThroughText}
use Rattle.query_lang.proofs.AsnsReading.{Seen, asns_are, asns_some, left_of, no_last, seen_more, two_left}
use Rattle.query_lang.proofs.trait_texts.parse_asns.Goals as goal

pub returns-in_default-parse_number-clause-none : goal.returns-in_default-parse_number-clause-none
returns-in_default-parse_number-clause-none c ns is =
    let seen = take c.loop-count.count c.loop-count.numbers in
    no_last c.loop-count.left.now (length seen) c.in_default.ensures.none c.in_default-parse_number.ensures.none (left_of seen c.args.text.now c.loop-count.left.now ns c.loop-count.invariant.seen is)

pub returns-in_default-clause-some : goal.returns-in_default-clause-some
returns-in_default-clause-some c =
    let at = c.loop-count.count in
    let numbers = c.loop-count.numbers in
    let here : at < length numbers = omega (arith, c.loop-count-test.true, c.loop-count.invariant.long) in
    let seen : length (take at numbers) ≡ at = length-take-le at numbers (omega (arith, here)) in
    asns_some c.new.result _ c.args.text.now c.new.ensures.some
    (subst (IsThroughText c.args.text.now) (sym (take_more_set numbers at c.in-Some-parse_number.number here))
    (asns_are (take at numbers) c.args.text.now c.loop-count.left.now c.in-Some-parse_number.number (omega (arith, seen, c.loop-count-test.true)) c.loop-count.invariant.seen c.in-Some-parse_number.ensures.some))

pub returns-in_default-parse_number-2-clause-none : goal.returns-in_default-parse_number-2-clause-none
returns-in_default-parse_number-2-clause-none c ns is =
    let seen = take c.loop-count.count c.loop-count.numbers in
    let two = two_left c.loop-count.left.now c.in-Some.piece.now c.in-Some.rest.now (length seen) c.in-Some.ensures.some (left_of seen c.args.text.now c.loop-count.left.now ns c.loop-count.invariant.seen is) in
    c.in_default-parse_number-2.ensures.none two.n two.is

pub loop-count-preserved : goal.loop-count-preserved
loop-count-preserved c =
    let at = c.loop-count.count in
    let numbers = c.loop-count.numbers in
    let here : at < length numbers = omega (arith, c.loop-count-test.true, c.loop-count.invariant.long) in
    record {
      seen = subst (λ (l : List ℕ). Seen l c.args.text.now c.in-Some.rest.now) (sym (take_more_set numbers at c.in-Some-parse_number-2.number here))
          (seen_more (take at numbers) c.args.text.now c.loop-count.left.now c.in-Some.piece.now c.in-Some.rest.now c.in-Some-parse_number-2.number c.loop-count.invariant.seen c.in-Some.ensures.some c.in-Some-parse_number-2.ensures.some);
      long = length-set numbers at c.in-Some-parse_number-2.number ∙ c.loop-count.invariant.long;
    }

pub returns-clause-none : goal.returns-clause-none
returns-clause-none c ns is =
    let at = c.loop-count.count in
    let numbers = c.loop-count.numbers in
    let seen = take at numbers in
    let long : length seen ≡ at = length-take-le at numbers (omega (arith, c.loop-count.auto.count-end, c.loop-count.invariant.long)) in
    let left = left_of seen c.args.text.now c.loop-count.left.now ns c.loop-count.invariant.seen is in
    omega (arith, long, c.loop-count-test.false, left.size_is)
