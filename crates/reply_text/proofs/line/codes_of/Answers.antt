use Rattle.std.proofs.Common.{◌≡◌, ◌∙◌, List, ℕ, ◌++◌, ap, codes, get_or}
use Rattle.bmp_specs.specs.NumberText.{number_text}
use Rattle.bmp_specs.specs.Values.{OtherValue}
use Rattle.reply_text.proofs.Digits.{put_three}
use Rattle.reply_text.proofs.Pieces.{comma_first}
use Rattle.reply_text.proofs.line.codes_of.Goals as goal

pub returns-in-len1-up-clause-whole : goal.returns-in-len1-up-clause-whole
returns-in-len1-up-clause-whole c =
    let is : number_text c.first.inside.code ≡ number_text (get_or c.args.others.now 0 c.first-item.result).code = ap (λ (v : OtherValue). number_text v.code) (c.first.view_is ∙ c.first-item.is) in
    put_three _ _ _ _ _ _ _ _ c.word-next.ensures.whole (rw is at c.octet-next.ensures.whole) c.further_codes.ensures.whole
    (ap (λ (l : List ℕ). codes " other=" ++ l) (comma_first (λ (other : OtherValue). number_text other.code) c.args.others.now c.first-item.result c.in-len1-up.len_at_least))
