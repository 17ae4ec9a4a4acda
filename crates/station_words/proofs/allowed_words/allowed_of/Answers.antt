use Rattle.std.proofs.Common.{◌∷◌, [], List, ℕ, Option, length, ap, subst, sym, ◌∙◌, arith, length-append}
use Rattle.std.specs.Borrow.{Bor}
use Rattle.bmp_specs.specs.Values.{PrefixValue}
use Rattle.station_words.specs.AllowedTexts.{further_texts}
use Rattle.station_words.specs.ServeWords.{IsAllowed}
use Rattle.station_words.proofs.AllowedText.{AreRead, all_read, not_read, read_more, too_many}
use Rattle.station_words.proofs.allowed_words.allowed_of.Goals as goal

pub returns-in_default-clause-none : goal.returns-in_default-clause-none
returns-in_default-clause-none c = not_read c.args.value.now c.loop.left.now c.split_comma.result.0.now _ c.loop.allowed c.loop.invariant.0 c.split_comma.ensures c.in_default.ensures.none

pub returns-in-None-clause-some : goal.returns-in-None-clause-some
returns-in-None-clause-some c =
    let front = c.split_comma.result.0.now in
    let last = c.split_comma.ensures ∙ ap (λ (r : Option (Bor (List ℕ))). front ∷ further_texts r) c.in-None.is in
    subst (IsAllowed c.args.value.now) (sym c.add.ensures) (all_read c.args.value.now c.loop.left.now front c.loop.allowed c.in-Some.prefix c.loop.invariant.0 last c.in-Some.ensures.some (omega (arith, c.loop.invariant.1, c.loop-test.true)))

pub loop-preserved : goal.loop-preserved
loop-preserved c =
    let front = c.split_comma.result.0.now in
    let cut = c.split_comma.ensures ∙ ap (λ (r : Option (Bor (List ℕ))). front ∷ further_texts r) c.in-Some-others.is in
    let read = read_more c.args.value.now c.loop.left.now front c.in-Some-others.text.now c.loop.allowed c.in-Some.prefix c.loop.invariant.0 cut c.in-Some.ensures.some in (
      subst (λ (l : List PrefixValue). AreRead c.args.value.now c.in-Some-others.text.now l) (sym c.add.ensures) read,
      omega (arith, ap length c.add.ensures, length-append c.loop.allowed (c.in-Some.prefix ∷ []), c.loop.invariant.1),
    )

pub returns-clause-none : goal.returns-clause-none
returns-clause-none c = too_many c.args.value.now c.loop.left.now c.loop.allowed c.loop.invariant.0 (omega (arith, c.loop.invariant.1, c.loop-test.false))
