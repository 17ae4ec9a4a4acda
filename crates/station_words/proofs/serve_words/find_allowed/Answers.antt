use Rattle.std.proofs.Common.{◌≡◌, [], sym, ◌∙◌}
use Rattle.station_words.specs.ServeWords.{IsAllowed}
use Rattle.station_words.proofs.AllowedText.{one_allowed}
use Rattle.station_words.proofs.Settings.{else_may, left_out, none_may, only_may, some_may}
use Rattle.station_words.proofs.OptionServe.{told_never, told_once}
use Rattle.station_words.proofs.serve_words.find_allowed.Goals as goal

pub returns-in-Some-clause-some : goal.returns-in-Some-clause-some
returns-in-Some-clause-some c = λ words are.
    some_may _ words (λ l v. IsAllowed v l) _ (told_once words c.args.matches.now c.args.name.now _ are (sym c.in-Some.ensures)) (λ l. l ≡ []) c.allowed_of.result c.allowed_of.ensures.some

pub returns-in-Some-clause-only : goal.returns-in-Some-clause-only
returns-in-Some-clause-only c = λ words are.
    only_may _ words (λ l v. IsAllowed v l) _ (told_once words c.args.matches.now c.args.name.now _ are (sym c.in-Some.ensures)) (λ l. l ≡ []) c.allowed_of.result (one_allowed _ c.allowed_of.result c.allowed_of.ensures.some)

pub returns-in-Some-clause-none : goal.returns-in-Some-clause-none
returns-in-Some-clause-none c = λ words are.
    none_may _ words (λ l v. IsAllowed v l) _ (told_once words c.args.matches.now c.args.name.now _ are (sym c.in-Some.ensures)) (λ l. l ≡ []) c.allowed_of.result c.allowed_of.ensures.none

pub returns-in-None-clause-some : goal.returns-in-None-clause-some
returns-in-None-clause-some c = λ words are. else_may _ words (λ l v. IsAllowed v l) (λ l. l ≡ []) c.anywhere.result (told_never words c.args.matches.now c.args.name.now are (sym c.in-None.ensures)) c.anywhere.ensures

pub returns-in-None-clause-only : goal.returns-in-None-clause-only
returns-in-None-clause-only c = λ words are other has. left_out _ words _ _ (told_never words c.args.matches.now c.args.name.now are (sym c.in-None.ensures)) has ∙ sym c.anywhere.ensures
