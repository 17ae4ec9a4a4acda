use Rattle.std.proofs.Common.{refl}
use Rattle.bmp_specs.specs.RouteLine.{path_text}
use Rattle.wire_io.proofs.Joins.{join, more}
use Rattle.reply_text.proofs.path.put_path.Goals as goal

pub returns-in_err-write_all-in-Some : goal.returns-in_err-write_all-in-Some
returns-in_err-write_all-in-Some g c = rw c.in-Some.is (more _ _ _ (path_text c.in-Some.path) _ _ _ c.in_err-write_all-in-Some.ensures c.from_residual.ensures.0 refl)

pub returns-in_ok-write_all-in-Some : goal.returns-in_ok-write_all-in-Some
returns-in_ok-write_all-in-Some g c = rw c.in-Some.is (join _ _ _ _ _ _ _ _ c.in_ok-write_all-in-Some.ensures (rw c.as_slice.ensures at c.put_segments.ensures) refl)
