use Rattle.std.proofs.Common.{◌≡◌, codes, refl, sym}
use Rattle.station_doors.specs.declared.listening.Log.TheVariants.{Routers}
use Rattle.station_words.specs.ServeWords.{IsLog}
use Rattle.station_words.proofs.Settings.{else_may, left_out, none_may, one_log, only_may, some_may}
use Rattle.station_words.proofs.OptionServe.{told_never, told_once}
use Rattle.station_words.proofs.serve_words.find_log.Goals as goal

pub returns-in-Some-clause-some : goal.returns-in-Some-clause-some
returns-in-Some-clause-some c = λ words are.
    some_may _ words (λ t v. IsLog v t) _ (told_once words c.args.matches.now (codes "log") _ are (sym c.in-Some.ensures)) (λ t. t ≡ Routers) c.log_of.result c.log_of.ensures.some

pub returns-in-Some-clause-only : goal.returns-in-Some-clause-only
returns-in-Some-clause-only c = λ words are.
    only_may _ words (λ t v. IsLog v t) _ (told_once words c.args.matches.now (codes "log") _ are (sym c.in-Some.ensures)) (λ t. t ≡ Routers) c.log_of.result (one_log _ c.log_of.result c.log_of.ensures.some)

pub returns-in-Some-clause-none : goal.returns-in-Some-clause-none
returns-in-Some-clause-none c = λ words are.
    none_may _ words (λ t v. IsLog v t) _ (told_once words c.args.matches.now (codes "log") _ are (sym c.in-Some.ensures)) (λ t. t ≡ Routers) c.log_of.result c.log_of.ensures.none

pub returns-in-None-clause-some : goal.returns-in-None-clause-some
returns-in-None-clause-some c = λ words are. else_may _ words (λ t v. IsLog v t) (λ t. t ≡ Routers) Routers (told_never words c.args.matches.now (codes "log") are (sym c.in-None.ensures)) refl

pub returns-in-None-clause-only : goal.returns-in-None-clause-only
returns-in-None-clause-only c = λ words are other has. left_out _ words _ _ (told_never words c.args.matches.now (codes "log") are (sym c.in-None.ensures)) has
