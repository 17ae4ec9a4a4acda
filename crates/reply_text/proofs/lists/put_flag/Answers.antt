use Rattle.std.proofs.Common.{◌≡◌, ◌∙◌, List, ℕ, [], ◌∷◌, ◌++◌, ap, sym}
use Rattle.bmp_specs.specs.PeerText.{hex_text}
use Rattle.bmp_specs.specs.Values.{OtherValue}
use Rattle.reply_text.proofs.Joining.{writes_same}
use Rattle.reply_text.proofs.Texts.{hex_one}
use Rattle.reply_text.proofs.lists.put_flag.Goals as goal

pub returns : goal.returns
returns g c =
    let flags : c.other.inside.flags ≡ c.args.other.now.flags = ap (λ (v : OtherValue). v.flags) c.other.view_is in
    writes_same _ _ _ _ _ c.write_pieces.ensures (ap (λ (l : List ℕ). c.args.before.now ++ l) (ap (λ (n : ℕ). hex_text (n ∷ [])) (sym flags) ∙ hex_one c.other.inside.flags _ c.digits_of.ensures))
