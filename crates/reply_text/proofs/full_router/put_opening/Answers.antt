use Rattle.std.proofs.Common.{◌≡◌, ◌++◌, List, ℕ, Option, ap, append-nil, codes}
use Rattle.ask_specs.specs.FullRouters.{endpoint_text, opening_fields}
use Rattle.bmp_specs.specs.NumberText.{number_text}
use Rattle.bmp_specs.specs.RouteLine.{text_or_absent}
use Rattle.bmp_specs.specs.Values.{OpeningValue}
use Rattle.reply_text.specs.Pieces.{spaced}
use Rattle.reply_text.proofs.Joining.{join_three}
use Rattle.wire_io.proofs.Joins.{join_failed, more}
use Rattle.reply_text.proofs.full_router.put_opening.Goals as goal

abbrev from_text : OpeningValue → List ℕ
from_text came = codes " from=" ++ text_or_absent endpoint_text came.from

abbrev since_text : OpeningValue → List ℕ
since_text came = codes " since=" ++ text_or_absent number_text came.since

abbrev until_text : Option ℕ → List ℕ
until_text until = codes " until=" ++ text_or_absent number_text until

opening_parts : (came : OpeningValue) (until : Option ℕ) → spaced (opening_fields came until) ≡ from_text came ++ (since_text came ++ until_text until)
opening_parts came until = ap (λ (l : List ℕ). from_text came ++ (since_text came ++ l)) (append-nil (until_text until))

pub returns-in_err-put_from : goal.returns-in_err-put_from
returns-in_err-put_from g c =
    let came = c.args.came.now in
    let from : c.came.inside.from ≡ came.from = ap (λ (v : OpeningValue). v.from) c.came.view_is in
    more _ _ _ (since_text came ++ until_text c.args.until) _ _ _ (rw from at c.in_err-put_from.ensures) c.from_residual.ensures.0 (opening_parts came c.args.until)

pub returns-in_err-put_time : goal.returns-in_err-put_time
returns-in_err-put_time g c =
    let came = c.args.came.now in
    let from : c.came.inside.from ≡ came.from = ap (λ (v : OpeningValue). v.from) c.came.view_is in
    let since : c.came.inside.since ≡ came.since = ap (λ (v : OpeningValue). v.since) c.came.view_is in
    join_failed _ _ _ _ _ (until_text c.args.until) _ _ _ (rw from at c.in_ok-put_from.ensures) (rw since at c.in_err-put_time.ensures) c.from_residual-in_err-put_time.ensures.0 (opening_parts came c.args.until)

pub returns : goal.returns
returns g c =
    let came = c.args.came.now in
    let from : c.came.inside.from ≡ came.from = ap (λ (v : OpeningValue). v.from) c.came.view_is in
    let since : c.came.inside.since ≡ came.since = ap (λ (v : OpeningValue). v.since) c.came.view_is in
    join_three _ _ _ _ _ _ _ _ _ _ _ (rw from at c.in_ok-put_from.ensures) (rw since at c.in_ok-put_time.ensures) c.put_time-2.ensures (opening_parts came c.args.until)
