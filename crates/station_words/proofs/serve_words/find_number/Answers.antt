use Rattle.std.proofs.Common.{◌≡◌, Some, refl, sym, ap, ◌∙◌}
use Rattle.bmp_specs.specs.NumberText.{IsNumberText}
use Rattle.station_words.proofs.Settings.{else_may, left_out, none_may, one_number, only_may, some_may}
use Rattle.station_words.proofs.OptionServe.{told_never, told_once}
use Rattle.station_words.proofs.serve_words.find_number.Goals as goal

pub returns-in-Some-clause-some : goal.returns-in-Some-clause-some
returns-in-Some-clause-some c = λ words are.
    let value = c.as_bytes.result.now in
    let once = told_once words c.args.matches.now c.args.name.now value are (sym c.in-Some.ensures ∙ ap Some (sym c.as_bytes.ensures.value)) in
    some_may _ words (λ n v. IsNumberText v n) value once (λ n. n ≡ c.args.usual) c.parse_number.result c.parse_number.ensures.some

pub returns-in-Some-clause-only : goal.returns-in-Some-clause-only
returns-in-Some-clause-only c = λ words are.
    let value = c.as_bytes.result.now in
    let once = told_once words c.args.matches.now c.args.name.now value are (sym c.in-Some.ensures ∙ ap Some (sym c.as_bytes.ensures.value)) in
    only_may _ words (λ n v. IsNumberText v n) value once (λ n. n ≡ c.args.usual) c.parse_number.result (one_number value c.parse_number.result c.parse_number.ensures.some)

pub returns-in-Some-clause-none : goal.returns-in-Some-clause-none
returns-in-Some-clause-none c = λ words are.
    let value = c.as_bytes.result.now in
    let once = told_once words c.args.matches.now c.args.name.now value are (sym c.in-Some.ensures ∙ ap Some (sym c.as_bytes.ensures.value)) in
    none_may _ words (λ n v. IsNumberText v n) value once (λ n. n ≡ c.args.usual) c.parse_number.result c.parse_number.ensures.none

pub returns-in-None-clause-some : goal.returns-in-None-clause-some
returns-in-None-clause-some c = λ words are. else_may _ words (λ n v. IsNumberText v n) (λ n. n ≡ c.args.usual) c.args.usual (told_never words c.args.matches.now c.args.name.now are (sym c.in-None.ensures)) refl

pub returns-in-None-clause-only : goal.returns-in-None-clause-only
returns-in-None-clause-only c = λ words are other has. left_out _ words _ _ (told_never words c.args.matches.now c.args.name.now are (sym c.in-None.ensures)) has
