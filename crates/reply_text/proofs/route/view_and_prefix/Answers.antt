use Rattle.std.proofs.Common.{◌≡◌, ◌∙◌, List, ℕ, [], ◌∷◌, ◌++◌, ap, append-nil}
use Rattle.bmp_specs.specs.AddressText.{address_text}
use Rattle.bmp_specs.specs.NumberText.{number_text}
use Rattle.bmp_specs.specs.PeerText.{view_text}
use Rattle.bmp_specs.specs.PrefixText.{prefix_text}
use Rattle.ip_prefix.proofs.Joined.{put_more}
use Rattle.reply_text.specs.Pieces.{spaced}
use Rattle.reply_text.proofs.Digits.{put_two}
use Rattle.reply_text.proofs.route.view_and_prefix.Goals as goal

pub returns : goal.returns
returns c =
    let p = c.args.prefix.now in
    let seen : c.as_slice.result.now ≡ view_text c.args.view = c.as_slice.ensures ∙ c.text.ensures in
    let address : c.as_slice-2.result.now ≡ address_text p.address = c.as_slice-2.ensures ∙ c.text-2.ensures.whole ∙ ap address_text c.addr.ensures in
    let space : c.push.new.self ≡ 32 ∷ [] = c.push.ensures ∙ ap (λ (l : List ℕ). l ++ (32 ∷ [])) c.new-text.ensures in
    let told : spaced (view_text c.args.view ∷ prefix_text p ∷ []) ≡ 32 ∷ (c.as_slice.result.now ++ (32 ∷ (c.as_slice-2.result.now ++ (47 ∷ number_text c.bits.result)))) =
    rw (seen, address, c.bits.ensures.same) (ap (λ (l : List ℕ). 32 ∷ (view_text c.args.view ++ (32 ∷ l))) (append-nil (prefix_text p))) in
    put_two [] _ _ _ _ _ space (put_more _ _ _ _ _ _ _ c.extend.ensures c.push-2.ensures (put_more _ _ _ _ _ _ _ c.extend-2.ensures c.push-3.ensures c.put_u8.ensures)) told
