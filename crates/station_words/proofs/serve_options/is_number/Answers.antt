use Rattle.std.proofs.Common.{◌≡◌, ℕ, List, subst, arith}
use Rattle.std.proofs.lemmas.Bool.{le-leb, leb-true}
use Rattle.bmp_specs.specs.NumberText.{IsNumberText}
use Rattle.ip_prefix.proofs.PrefixReading.{same_number}
use Rattle.station_words.proofs.serve_options.is_number.Goals as goal

pub returns-then-least-number-clause-no : goal.returns-then-least-number-clause-no
returns-then-least-number-clause-no c = λ far n is least most.
    let same : n ≡ c.in-Some.number = same_number c.args.value.now n c.in-Some.number is (subst (λ (l : List ℕ). IsNumberText l c.in-Some.number) c.as_bytes.ensures.value c.in-Some.ensures.some) in
    cc (far, le-leb c.in-Some.number c.args.most (omega (arith, same, most)))

pub returns-else-least-number-clause-no : goal.returns-else-least-number-clause-no
returns-else-least-number-clause-no c = λ far n is least most.
    let same : n ≡ c.in-Some.number = same_number c.args.value.now n c.in-Some.number is (subst (λ (l : List ℕ). IsNumberText l c.in-Some.number) c.as_bytes.ensures.value c.in-Some.ensures.some) in
    cc (far, le-leb c.args.least c.in-Some.number (omega (arith, same, least)))

pub returns-then-least-number-clause-yes : goal.returns-then-least-number-clause-yes
returns-then-least-number-clause-yes c = λ within. (
  c.in-Some.number,
  subst (λ (l : List ℕ). IsNumberText l c.in-Some.number) c.as_bytes.ensures.value c.in-Some.ensures.some,
  c.if-least-number.true,
  leb-true c.in-Some.number c.args.most within,
)
