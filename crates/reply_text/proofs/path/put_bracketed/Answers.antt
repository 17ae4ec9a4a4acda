use Rattle.std.proofs.Common.{[], ◌∷◌, ◌++◌, map}
use Rattle.std.specs.List.{join_with_byte}
use Rattle.bmp_specs.specs.NumberText.{number_text}
use Rattle.reply_text.proofs.Joining.{join_three}
use Rattle.reply_text.proofs.Pieces.{bracketed_parts}
use Rattle.wire_io.proofs.Joins.{join_failed, more}
use Rattle.reply_text.proofs.path.put_bracketed.Goals as goal

pub returns-in_err-write_pieces : goal.returns-in_err-write_pieces
returns-in_err-write_pieces g c = more _ _ _ (join_with_byte 44 (map number_text c.args.numbers.now) ++ c.args.after ∷ []) _ _ _ (rw c.link.ensures at c.in_err-write_pieces.ensures) c.from_residual.ensures.0 (bracketed_parts c.args.some c.args.before c.args.after c.args.numbers.now)

pub returns-in_err-put_joined : goal.returns-in_err-put_joined
returns-in_err-put_joined g c = join_failed _ _ _ _ _ (c.args.after ∷ []) _ _ _ (rw c.link.ensures at c.in_ok-write_pieces.ensures) c.in_err-put_joined.ensures c.from_residual-in_err-put_joined.ensures.0 (bracketed_parts c.args.some c.args.before c.args.after c.args.numbers.now)

pub returns : goal.returns
returns g c = join_three _ _ _ _ _ _ _ _ _ _ _ (rw c.link.ensures at c.in_ok-write_pieces.ensures) c.in_ok-put_joined.ensures c.write_all.ensures (bracketed_parts c.args.some c.args.before c.args.after c.args.numbers.now)
