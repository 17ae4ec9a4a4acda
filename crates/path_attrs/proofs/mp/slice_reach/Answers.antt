use Rattle.std.proofs.Common.{sym, ap}
use Rattle.std.specs.Prelude.{option_copied}
use Rattle.bmp_specs.specs.MpNlri.{IsMpReach}
use Rattle.path_attrs.proofs.Keeping.{optional_broken}
use Rattle.path_attrs.proofs.mp.slice_reach.Goals as goal

pub returns-in-Err-clause-broken : goal.returns-in-Err-clause-broken
returns-in-Err-clause-broken c = optional_broken IsMpReach _ _ (ap option_copied (sym c.in-Some.is)) c.in-Err.ensures.broken
