use Rattle.std.proofs.Common.{refl}
use Rattle.std.specs.Prelude.{filter_map}
use Rattle.bmp_specs.specs.RouteLine.{comma_list}
use Rattle.ask_specs.specs.FullLine.{text_of_own}
use Rattle.reply_text.specs.Own.{own_value}
use Rattle.wire_io.proofs.Joins.{join, more}
use Rattle.reply_text.proofs.own.put_own.Goals as goal

pub returns-in_err-write_all : goal.returns-in_err-write_all
returns-in_err-write_all g c = more _ _ _ (comma_list (filter_map (text_of_own (own_value c.args.own)) c.args.others.now)) _ _ _ c.in_err-write_all.ensures c.from_residual.ensures.0 refl

pub returns : goal.returns
returns g c = join _ _ _ _ _ _ _ _ c.in_ok-write_all.ensures c.put_own_texts.ensures refl
