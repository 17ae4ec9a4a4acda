use Rattle.std.proofs.Common.{◌∷◌, [], ap, length, arith, ◌∙◌, length-append}
use Rattle.bmp_frames.proofs.Digits.{length-distinguisher_text}
use Rattle.bmp_frames.proofs.key.PeerKey.text.Goals as goal

pub push-requires : goal.push-requires
push-requires c = omega (arith, c.kind_text-text.ensures.short)

pub extend-requires : goal.extend-requires
extend-requires c =
    let first = ap length c.push.ensures ∙ length-append c.kind_text-text.result (45 ∷ []) in
    let digits = ap length c.digits_of.ensures ∙ length-distinguisher_text c.self.inside.distinguisher in
    omega (arith, c.kind_text-text.ensures.short, first, digits)

pub push-requires-2 : goal.push-requires-2
push-requires-2 c =
    let first = ap length c.push.ensures ∙ length-append c.kind_text-text.result (45 ∷ []) in
    let digits = ap length c.digits_of.ensures ∙ length-distinguisher_text c.self.inside.distinguisher in
    let second = ap length c.extend.ensures ∙ length-append c.push.new.self c.digits_of.result in
    omega (arith, c.kind_text-text.ensures.short, first, digits, second)

pub extend-requires-2 : goal.extend-requires-2
extend-requires-2 c =
    let first = ap length c.push.ensures ∙ length-append c.kind_text-text.result (45 ∷ []) in
    let digits = ap length c.digits_of.ensures ∙ length-distinguisher_text c.self.inside.distinguisher in
    let second = ap length c.extend.ensures ∙ length-append c.push.new.self c.digits_of.result in
    let third = ap length c.push-2.ensures ∙ length-append c.extend.new.self (45 ∷ []) in
    let address = ap length c.as_slice.ensures in
    omega (arith, c.kind_text-text.ensures.short, first, digits, second, third, address, c.text.ensures.short)
