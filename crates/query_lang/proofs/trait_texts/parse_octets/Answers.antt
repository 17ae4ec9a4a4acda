use Rattle.std.proofs.Common.{rules, ◌≡◌, true, false, sym, ap, ◌∙◌}
use Rattle.std.specs.Prelude.{is_err}
use Rattle.hex.specs.Hex.{encode_lower}
use Rattle.bmp_frames.proofs.Digits.{not_other}
use Rattle.query_lang.proofs.HexReading.{decoded, hex_lower}
use Rattle.query_lang.proofs.trait_texts.parse_octets.Goals as goal

pub returns-then-is_err-clause-none : goal.returns-then-is_err-clause-none
returns-then-is_err-clause-none c o long all is =
    let ok = decoded c.args.text.now o long all is c.decode_to_slice.result c.decode_to_slice.new.out c.decode_to_slice.ensures.value in
    let apart : true ≡ false = c.if-is_err.ensures.value ∙ ap is_err ok.0 in
    absurd cc

pub returns-then-ne-clause-none : goal.returns-then-ne-clause-none
returns-then-ne-clause-none c o long all is =
    let ok = decoded c.args.text.now o long all is c.decode_to_slice.result c.decode_to_slice.new.out c.decode_to_slice.ensures.value in
    let written : c.encode_to_slice.new.output ≡ encode_lower c.decode_to_slice.new.out = search rules in
    let same : c.as_slice.result.now ≡ c.args.text.now = c.as_slice.ensures ∙ written ∙ ap encode_lower ok.1 ∙ sym (hex_lower o) ∙ sym is in
    not_other c.as_slice.result.now c.args.text.now same c.if-ne.ensures

pub returns-clause-some : goal.returns-clause-some
returns-clause-some c =
    let written : c.encode_to_slice.new.output ≡ encode_lower c.decode_to_slice.new.out = search rules in
    let same : c.as_slice.result.now ≡ c.args.text.now = search rules in
    sym same ∙ c.as_slice.ensures ∙ written ∙ sym (hex_lower c.decode_to_slice.new.out)
