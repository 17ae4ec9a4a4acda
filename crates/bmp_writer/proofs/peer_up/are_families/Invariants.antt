use Rattle.std.proofs.Common.{◌≡◌, map, take}
use Rattle.bmp_writer.specs.Capabilities.{as_family}
use Rattle.bmp_writer.proofs.peer_up.are_families.Given as goal

abbrev pub invariant-loop-cap : goal.invariant-loop-cap
invariant-loop-cap l = map as_family (take l.cap-index l.families) ≡ take l.cap-index l.families
