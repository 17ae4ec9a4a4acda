use Rattle.std.proofs.Common.{◌≡◌, List, ℕ, ◌++◌, ◌-◌, length, take, drop, get_or, map, ap, codes}
use Rattle.bmp_specs.specs.NumberText.{number_text}
use Rattle.bmp_specs.specs.Values.{OtherValue}
use Rattle.reply_text.specs.Pieces.{behind}
use Rattle.reply_text.proofs.Pieces.{comma_first}
use Rattle.wire_io.proofs.Joins.{join, more}
use Rattle.reply_text.proofs.lists.put_others.Goals as goal

pub returns-in_err-put_code-in-len1-up : goal.returns-in_err-put_code-in-len1-up
returns-in_err-put_code-in-len1-up g c =
    let is : number_text c.first-item.result.code ≡ number_text (get_or c.args.others.now 0 c.first-item.result).code = ap (λ (v : OtherValue). number_text v.code) c.first-item.is in
    more _ _ _ (behind 44 (map (λ (other : OtherValue). number_text other.code) (take (length c.args.others.now - 1) (drop 1 c.args.others.now)))) _ _ _ (rw is at c.in_err-put_code-in-len1-up.ensures) c.from_residual.ensures.0
    (ap (λ (l : List ℕ). codes " other=" ++ l) (comma_first (λ (other : OtherValue). number_text other.code) c.args.others.now c.first-item.result c.in-len1-up.len_at_least))

pub returns-in_ok-put_code-in-len1-up : goal.returns-in_ok-put_code-in-len1-up
returns-in_ok-put_code-in-len1-up g c =
    let is : number_text c.first-item.result.code ≡ number_text (get_or c.args.others.now 0 c.first-item.result).code = ap (λ (v : OtherValue). number_text v.code) c.first-item.is in
    join _ _ _ _ _ _ _ _ (rw is at c.in_ok-put_code-in-len1-up.ensures) c.put_further_others.ensures
    (ap (λ (l : List ℕ). codes " other=" ++ l) (comma_first (λ (other : OtherValue). number_text other.code) c.args.others.now c.first-item.result c.in-len1-up.len_at_least))
