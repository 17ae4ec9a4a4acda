use Rattle.std.proofs.Common.{[], ◌∷◌, codes}
use Rattle.bmp_specs.specs.Lines.{further}
use Rattle.bmp_specs.specs.NumberText.{number_text}
use Rattle.bmp_specs.specs.PeerLines.{stat_fields}
use Rattle.bmp_specs.specs.PeerText.{key_text}
use Rattle.bmp_specs.specs.Registries.{first_row, statistics_types}
use Rattle.reply_text.proofs.Pieces.{line_parts}
use Rattle.wire_io.proofs.Joins.{join, more}
use Rattle.reply_text.proofs.stat.put_stat.Goals as goal

pub returns-in_err-put_code : goal.returns-in_err-put_code
returns-in_err-put_code g c =
    let stat = c.args.stat.now in
    let fields = stat_fields (first_row stat.code statistics_types) stat in
    more _ _ _ (further fields) _ _ _ c.in_err-put_code.ensures c.from_residual.ensures.0 (line_parts (codes "stat") (number_text c.args.lane ∷ key_text c.args.key.now ∷ number_text stat.code ∷ []) fields)

pub returns : goal.returns
returns g c =
    let stat = c.args.stat.now in
    let fields = stat_fields (first_row stat.code statistics_types) stat in
    join _ _ _ _ _ _ _ _ c.in_ok-put_code.ensures c.put_value.ensures (line_parts (codes "stat") (number_text c.args.lane ∷ key_text c.args.key.now ∷ number_text stat.code ∷ []) fields)
