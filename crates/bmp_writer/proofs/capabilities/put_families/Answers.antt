use Rattle.std.proofs.Common.{arith, sym, subst, List, ℕ}
use Rattle.bmp_writer.specs.Capabilities.{IsFamilyCapability}
use Rattle.bmp_writer.proofs.CapabilitiesRead.{family_is}
use Rattle.bmp_writer.proofs.Still.{parts_more}
use Rattle.bmp_writer.proofs.capabilities.put_families.Goals as goal

pub loop-cap-preserved : goal.loop-cap-preserved
loop-cap-preserved c = parts_more IsFamilyCapability c.args.families.now c.loop-cap.cap-index _ c.cap-item.result c.args.out.now c.loop-cap.out c.family_capability.result c.extend.new.self (omega arith) c.cap-item.is c.loop-cap.invariant
    c.in_ok-extend.ensures.ok (subst (λ (l : List ℕ). IsFamilyCapability l c.cap-item.result) (sym c.family_capability.ensures.bytes) (family_is c.cap-item.result c.family_capability.ensures.fits))
