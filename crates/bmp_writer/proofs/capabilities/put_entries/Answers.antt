use Rattle.std.proofs.Common.{arith, sym, subst, List, ℕ}
use Rattle.bmp_writer.specs.Capabilities.{IsPathEntry}
use Rattle.bmp_writer.proofs.CapabilitiesRead.{entry_is}
use Rattle.bmp_writer.proofs.Still.{parts_more}
use Rattle.bmp_writer.proofs.capabilities.put_entries.Goals as goal

pub loop-cap-preserved : goal.loop-cap-preserved
loop-cap-preserved c = parts_more IsPathEntry c.args.paths.now c.loop-cap.cap-index _ c.cap-item.result c.args.out.now c.loop-cap.out c.path_entry.result c.extend.new.self (omega arith) c.cap-item.is c.loop-cap.invariant
    c.in_ok-extend.ensures.ok (subst (λ (l : List ℕ). IsPathEntry l c.cap-item.result) (sym c.path_entry.ensures.bytes) (entry_is c.cap-item.result c.path_entry.ensures.fits))
