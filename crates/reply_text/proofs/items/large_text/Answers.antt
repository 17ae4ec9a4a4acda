use Rattle.std.proofs.Common.{◌≡◌, ◌∙◌, ℕ, List, [], ◌∷◌, ◌++◌, ap, drop}
use Rattle.bmp_specs.specs.NumberText.{number_text}
use Rattle.byteorder.specs.Endian.{big_number}
use Rattle.ip_prefix.proofs.Joined.{put_more}
use Rattle.reply_text.proofs.items.large_text.Goals as goal

pub returns : goal.returns
returns c =
    let octets = c.args.octets.now in
    let first : number_text c.read_u32.result ≡ number_text (big_number 4 octets) = ap number_text c.read_u32.ensures in
    let second : number_text c.read_u32-2.result ≡ number_text (big_number 4 (drop 4 octets)) = ap number_text (c.read_u32-2.ensures ∙ ap (big_number 4) c.split_at.ensures.back) in
    let third : number_text c.read_u32-3.result ≡ number_text (big_number 4 (drop 8 octets)) = ap number_text (c.read_u32-3.ensures ∙ ap (big_number 4) c.split_at-2.ensures.back) in
    let begun : c.put_u32.new.text ≡ [] ++ number_text c.read_u32.result = c.put_u32.ensures.whole ∙ ap (λ (l : List ℕ). l ++ number_text c.read_u32.result) c.new-text.ensures in
    put_more [] _ _ _ _ _ _ begun c.push.ensures (put_more _ _ _ _ _ _ _ c.put_u32-2.ensures.whole c.push-2.ensures c.put_u32-3.ensures.whole)
    ∙ (λ i. first i ++ (58 ∷ (second i ++ (58 ∷ third i))))
