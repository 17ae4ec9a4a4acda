use Rattle.std.proofs.Common.{◌≡◌, List, ℕ, ◌++◌, ◌-◌, length, take, drop, get_or, map, ap, codes}
use Rattle.ask_specs.specs.FullRouters.{family_count_text}
use Rattle.reply_text.specs.Pieces.{behind}
use Rattle.reply_text.proofs.Pieces.{comma_first}
use Rattle.wire_io.proofs.Joins.{join, more}
use Rattle.reply_text.proofs.full_router.put_families.Goals as goal

pub returns-in_err-put_family-in-len1-up : goal.returns-in_err-put_family-in-len1-up
returns-in_err-put_family-in-len1-up g c =
    let is : family_count_text c.first-item.result ≡ family_count_text (get_or c.args.counts.now 0 c.first-item.result) = ap family_count_text c.first-item.is in
    more _ _ _ (behind 44 (map family_count_text (take (length c.args.counts.now - 1) (drop 1 c.args.counts.now)))) _ _ _ (rw is at c.in_err-put_family-in-len1-up.ensures) c.from_residual.ensures.0
    (ap (λ (l : List ℕ). codes " others=" ++ l) (comma_first family_count_text c.args.counts.now c.first-item.result c.in-len1-up.len_at_least))

pub returns-in_ok-put_family-in-len1-up : goal.returns-in_ok-put_family-in-len1-up
returns-in_ok-put_family-in-len1-up g c =
    let is : family_count_text c.first-item.result ≡ family_count_text (get_or c.args.counts.now 0 c.first-item.result) = ap family_count_text c.first-item.is in
    join _ _ _ _ _ _ _ _ (rw is at c.in_ok-put_family-in-len1-up.ensures) c.put_further_families.ensures
    (ap (λ (l : List ℕ). codes " others=" ++ l) (comma_first family_count_text c.args.counts.now c.first-item.result c.in-len1-up.len_at_least))
