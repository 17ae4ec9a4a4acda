-- The prefixes of a multiprotocol attribute, once its family is known.
use Rattle.std.proofs.Common.{◌≡◌, ℕ, Bool, List, [], Option, Some, sym, ap, ◌∙◌}
use Rattle.std.specs.Prelude.{MatchOption}
use Rattle.bmp_specs.specs.declared.wire.Family.{Family}
use Rattle.bmp_specs.specs.declared.wire.IdUse.{IdUse}
use Rattle.bmp_specs.specs.AddressFamily.{unicast_family, uses_ids}
use Rattle.bmp_specs.specs.Nlri.{AreNlri}
use Rattle.bmp_specs.specs.Update.{AreMpNlri}
use Rattle.bmp_specs.specs.Values.{MpValue, NlriValue}

-- they are prefixes of that family
pub of_family : (ids : IdUse) (m : MpValue) (part : Option MpValue) (family : Family) (identified : Bool) → part ≡ Some m → Some family ≡ unicast_family m.afi m.safi
    → identified ≡ uses_ids ids family → (λ (ns : List NlriValue). AreNlri family identified m.prefixes ns) ≡ AreMpNlri ids part
of_family ids m part family identified here is use_ids =
    ap (λ (b : Bool). λ (ns : List NlriValue). AreNlri family b m.prefixes ns) use_ids
    ∙ ap (λ (o : Option Family). λ (ns : List NlriValue). MatchOption o (ns ≡ []) (λ f. AreNlri f (uses_ids ids f) m.prefixes ns)) is
    ∙ ap (λ (o : Option MpValue). λ (ns : List NlriValue). AreMpNlri ids o ns) (sym here)
