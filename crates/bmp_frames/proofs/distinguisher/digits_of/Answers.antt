use Rattle.std.proofs.Common.{◌≡◌, rules, sym, ◌∙◌, ap}
use Rattle.hex.specs.Hex.{encode_lower}
use Rattle.bmp_frames.proofs.Digits.{written_digits}
use Rattle.bmp_frames.proofs.distinguisher.digits_of.Goals as goal

pub returns : goal.returns
returns c =
    let written : c.encode_to_slice.new.output ≡ encode_lower c.to_be_bytes.result = search rules in
    written ∙ ap encode_lower c.to_be_bytes.ensures ∙ sym (written_digits c.args.distinguisher)
