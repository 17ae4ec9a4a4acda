use Rattle.std.proofs.Common.{◌≡◌, ◌++◌, [], ◌∷◌, List, ℕ, codes, map}
use Rattle.ask_specs.specs.Connection.{PassedValue}
use Rattle.ask_specs.specs.FullRouters.{family_count_text, passed_fields}
use Rattle.bmp_specs.specs.Lines.{further}
use Rattle.bmp_specs.specs.NumberText.{number_text}
use Rattle.bmp_specs.specs.PeerLines.{named_field}
use Rattle.bmp_specs.specs.RouteLine.{comma_list}
use Rattle.reply_text.specs.Pieces.{cause_counts, spaced}
use Rattle.reply_text.proofs.Joining.{join_three}
use Rattle.reply_text.proofs.Pieces.{further-append}
use Rattle.wire_io.proofs.Joins.{join_failed, more}
use Rattle.reply_text.proofs.full_router.put_passed.Goals as goal

abbrev families_text : PassedValue → List ℕ
families_text p = codes " others=" ++ comma_list (map family_count_text p.others)

abbrev more_text : PassedValue → List ℕ
more_text p = codes " more=" ++ (number_text p.more ++ codes "\n")

passed_parts : (p : PassedValue) → further (passed_fields p) ≡ spaced (cause_counts p) ++ (families_text p ++ more_text p)
passed_parts p = further-append (cause_counts p) (named_field (codes "others") (comma_list (map family_count_text p.others)) ∷ named_field (codes "more") (number_text p.more) ∷ [])

pub returns-in_err-put_cause_counts : goal.returns-in_err-put_cause_counts
returns-in_err-put_cause_counts g c =
    let p = c.args.passed.now in
    more _ _ _ (families_text p ++ more_text p) _ _ _ c.in_err-put_cause_counts.ensures c.from_residual.ensures.0 (passed_parts p)

pub returns-in_err-put_families : goal.returns-in_err-put_families
returns-in_err-put_families g c =
    let p = c.args.passed.now in
    join_failed _ _ _ _ _ (more_text p) _ _ _ c.in_ok-put_cause_counts.ensures (rw c.others.ensures at c.in_err-put_families.ensures) c.from_residual-in_err-put_families.ensures.0 (passed_parts p)

pub returns : goal.returns
returns g c =
    let p = c.args.passed.now in
    join_three _ _ _ _ _ _ _ _ _ _ _ c.in_ok-put_cause_counts.ensures (rw c.others.ensures at c.in_ok-put_families.ensures) (rw c.more.ensures at c.put_more.ensures) (passed_parts p)
