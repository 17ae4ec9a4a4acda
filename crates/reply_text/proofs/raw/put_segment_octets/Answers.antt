use Rattle.std.proofs.Common.{◌≡◌, ◌∙◌, ap}
use Rattle.std.specs.Prelude.{flat_map}
use Rattle.bmp_specs.specs.AsPath.{segment_type}
use Rattle.bmp_specs.specs.PeerText.{hex_text}
use Rattle.bmp_specs.specs.Values.{SegmentValue}
use Rattle.byteorder.specs.Endian.{big_bytes}
use Rattle.reply_text.proofs.Division.{segment_parts}
use Rattle.wire_io.proofs.Joins.{join, more}
use Rattle.reply_text.proofs.raw.put_segment_octets.Goals as goal

pub returns-in_err-put_hex : goal.returns-in_err-put_hex
returns-in_err-put_hex g c =
    let s = c.args.segment.now in
    let kind : c.segment_type.result ≡ segment_type s.kind = c.segment_type.ensures ∙ ap (λ (v : SegmentValue). segment_type v.kind) c.segment.view_is in
    let numbers : c.as_slice-numbers.result.now ≡ s.numbers = c.as_slice-numbers.ensures ∙ ap (λ (v : SegmentValue). v.numbers) c.segment.view_is in
    more _ _ _ (flat_map (λ number. hex_text (big_bytes 4 number)) s.numbers) _ _ _ (rw (kind, numbers) at c.in_err-put_hex.ensures) c.from_residual.ensures.0 (segment_parts s)

pub returns : goal.returns
returns g c =
    let s = c.args.segment.now in
    let kind : c.segment_type.result ≡ segment_type s.kind = c.segment_type.ensures ∙ ap (λ (v : SegmentValue). segment_type v.kind) c.segment.view_is in
    let numbers : c.as_slice-numbers.result.now ≡ s.numbers = c.as_slice-numbers.ensures ∙ ap (λ (v : SegmentValue). v.numbers) c.segment.view_is in
    join _ _ _ _ _ _ _ _ (rw (kind, numbers) at c.in_ok-put_hex.ensures) (rw numbers at c.put_number_octets.ensures) (segment_parts s)
