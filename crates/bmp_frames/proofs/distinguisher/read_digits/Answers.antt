use Rattle.std.proofs.Common.{◌≡◌, true, false, List, ℕ, sym, ap, ◌∙◌}
use Rattle.std.specs.Prelude.{is_err}
use Rattle.byteorder.specs.Endian.{big_number}
use Rattle.bmp_specs.specs.PeerText.{distinguisher_text}
use Rattle.bmp_frames.proofs.Digits.{decoded, number_back, not_other}
use Rattle.bmp_frames.proofs.distinguisher.read_digits.Goals as goal

pub returns-then-is_err-clause-none : goal.returns-then-is_err-clause-none
returns-then-is_err-clause-none c d is =
    let ok = decoded c.args.text.now d is c.decode_to_slice.result c.decode_to_slice.new.out c.decode_to_slice.ensures.value in
    let apart : true ≡ false = c.if-is_err.ensures.value ∙ ap is_err ok.0 in
    absurd cc

pub returns-then-ne-clause-none : goal.returns-then-ne-clause-none
returns-then-ne-clause-none c d is =
    let ok = decoded c.args.text.now d is c.decode_to_slice.result c.decode_to_slice.new.out c.decode_to_slice.ensures.value in
    let number : c.read_u64-distinguisher.result ≡ d = c.read_u64-distinguisher.ensures ∙ ap (λ (l : List ℕ). big_number 8 l) ok.1 ∙ number_back d is.within in
    let same : c.as_slice.result.now ≡ c.args.text.now = c.as_slice.ensures ∙ c.digits_of.ensures ∙ ap (λ (n : ℕ). distinguisher_text n) number ∙ sym is.spelled in
    not_other c.as_slice.result.now c.args.text.now same c.if-ne.ensures
