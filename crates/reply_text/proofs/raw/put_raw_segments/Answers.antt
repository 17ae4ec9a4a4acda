use Rattle.std.proofs.Common.{◌≡◌, ◌∙◌, ◌++◌, false, Some, codes, ap, sym}
use Rattle.std.specs.Prelude.{flat_map}
use Rattle.bmp_specs.specs.PeerText.{hex_text}
use Rattle.bmp_specs.specs.Values.{SegmentValue}
use Rattle.ask_specs.specs.FullLine.{is_divided_plainly, raw_path, segment_octets}
use Rattle.reply_text.specs.Pieces.{more_texts}
use Rattle.reply_text.proofs.Division.{raw_path_parts, raw_whole}
use Rattle.wire_io.proofs.Joins.{join, more}
use Rattle.reply_text.proofs.raw.put_raw_segments.Goals as goal

pub returns-in_err-write_all : goal.returns-in_err-write_all
returns-in_err-write_all g c =
    let path = c.args.segments.now in
    more _ _ _ (flat_map (λ (segment : SegmentValue). hex_text (segment_octets segment)) path) _ _ _ c.in_err-write_all.ensures c.from_residual.ensures.0
    (ap (more_texts false) (raw_whole path (sym c.is_divided_plainly.ensures ∙ c.if-is_divided_plainly.false)) ∙ raw_path_parts path)

pub returns : goal.returns
returns g c =
    let path = c.args.segments.now in
    join _ _ _ _ _ _ _ _ c.in_ok-write_all.ensures c.put_path_octets.ensures
    (ap (more_texts false) (raw_whole path (sym c.is_divided_plainly.ensures ∙ c.if-is_divided_plainly.false)) ∙ raw_path_parts path)
