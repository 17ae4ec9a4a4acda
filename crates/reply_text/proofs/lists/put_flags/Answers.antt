use Rattle.std.proofs.Common.{◌≡◌, List, ℕ, [], ◌∷◌, ◌++◌, ◌-◌, length, take, drop, get_or, map, ap, codes}
use Rattle.bmp_specs.specs.PeerText.{hex_text}
use Rattle.bmp_specs.specs.Values.{OtherValue}
use Rattle.reply_text.specs.Pieces.{behind}
use Rattle.reply_text.proofs.Pieces.{comma_first}
use Rattle.wire_io.proofs.Joins.{join, more}
use Rattle.reply_text.proofs.lists.put_flags.Goals as goal

pub returns-in_err-put_flag-in-len1-up : goal.returns-in_err-put_flag-in-len1-up
returns-in_err-put_flag-in-len1-up g c =
    let is : hex_text (c.first-item.result.flags ∷ []) ≡ hex_text ((get_or c.args.others.now 0 c.first-item.result).flags ∷ []) = ap (λ (v : OtherValue). hex_text (v.flags ∷ [])) c.first-item.is in
    more _ _ _ (behind 44 (map (λ (other : OtherValue). hex_text (other.flags ∷ [])) (take (length c.args.others.now - 1) (drop 1 c.args.others.now)))) _ _ _ (rw is at c.in_err-put_flag-in-len1-up.ensures) c.from_residual.ensures.0
    (ap (λ (l : List ℕ). codes " flags=" ++ l) (comma_first (λ (other : OtherValue). hex_text (other.flags ∷ [])) c.args.others.now c.first-item.result c.in-len1-up.len_at_least))

pub returns-in_ok-put_flag-in-len1-up : goal.returns-in_ok-put_flag-in-len1-up
returns-in_ok-put_flag-in-len1-up g c =
    let is : hex_text (c.first-item.result.flags ∷ []) ≡ hex_text ((get_or c.args.others.now 0 c.first-item.result).flags ∷ []) = ap (λ (v : OtherValue). hex_text (v.flags ∷ [])) c.first-item.is in
    join _ _ _ _ _ _ _ _ (rw is at c.in_ok-put_flag-in-len1-up.ensures) c.put_further_flags.ensures
    (ap (λ (l : List ℕ). codes " flags=" ++ l) (comma_first (λ (other : OtherValue). hex_text (other.flags ∷ [])) c.args.others.now c.first-item.result c.in-len1-up.len_at_least))
