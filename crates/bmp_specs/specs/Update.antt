-- The body of an UPDATE message (RFC 4271, section 4.3), with its multiprotocol attributes (RFC 4760), its path
-- identifiers (RFC 7911, section 3) and the End-of-RIB marker (RFC 4724, section 2).
use Rattle.std.specs.Prelude.{◌≡◌, ℕ, ◌+◌, ◌==◌, ◌&&◌, if◌then◌else◌, List, [], ◌++◌, length, Option, Some, None, MatchOption, is_none}
use Rattle.bmp_specs.specs.declared.wire.Family.{Family}
use Rattle.bmp_specs.specs.declared.wire.Family.TheVariants.{V4}
use Rattle.bmp_specs.specs.declared.wire.IdUse.{IdUse}
use Rattle.bmp_specs.specs.declared.wire.Width.{Width}
use Rattle.bmp_specs.specs.AddressFamily.{unicast_family, uses_ids}
use Rattle.bmp_specs.specs.Attributes.{AreAttributes}
use Rattle.bmp_specs.specs.Counted.{IsCounted, IsRest}
use Rattle.bmp_specs.specs.Nlri.{AreNlri}
use Rattle.bmp_specs.specs.Sequence.{Then}
use Rattle.bmp_specs.specs.Values.{AttrsReadValue, AttrsValue, MpValue, NlriValue, UpdateValue}

-- the items of a multiprotocol attribute; none where it isn't there or is of a family that isn't read
abbrev pub AreMpNlri : IdUse → Option MpValue → List NlriValue → Type 0
AreMpNlri ids None ns = ns ≡ []
AreMpNlri ids (Some m) ns = MatchOption (unicast_family m.afi m.safi) (ns ≡ []) (λ family. AreNlri family (uses_ids ids family) m.prefixes ns)

-- 1 where a multiprotocol attribute is of another family, and is passed over
abbrev pub passed_over : Option MpValue → ℕ
passed_over None = 0
passed_over (Some m) = if is_none (unicast_family m.afi m.safi) then 1 else 0

-- the attributes of the routes in MP_REACH_NLRI, which has its own next hop
abbrev pub with_hop_of : Option MpValue → AttrsValue → AttrsValue
with_hop_of None attrs = attrs
with_hop_of (Some m) attrs = record attrs { hop = Some m.hop }

-- the family of an MP_UNREACH_NLRI without prefixes
abbrev pub empty_family : Option MpValue → Option Family
empty_family None = None
empty_family (Some m) = if length m.prefixes == 0 then unicast_family m.afi m.safi else None

-- "An UPDATE message with no reachable Network Layer Reachability Information (NLRI) and empty withdrawn NLRI", and for
-- another family than IPv4 one that "contains only the MP_UNREACH_NLRI attribute with no withdrawn routes". The second
-- form is taken for IPv4 too.
abbrev pub end_of_rib : List ℕ → AttrsReadValue → List ℕ → Option Family
end_of_rib withdrawn read nlri =
    if length withdrawn == 0 && length nlri == 0
    then (if read.count == 0 then Some V4 else (if read.count == 1 then empty_family read.unreach else None))
    else None

-- "Withdrawn Routes", "Path Attributes" and "Network Layer Reachability Information", the first two after their lengths
pub record IsUpdate (width : Width) (ids : IdUse) (body : List ℕ) (u : UpdateValue) : Type 0 where
  pub withdrawn_routes : List ℕ
  pub path_attributes : List ℕ
  pub nlri : List ℕ
  pub fields : Then IsCounted (Then IsCounted IsRest) body (withdrawn_routes, (path_attributes, nlri))
  pub read : AttrsReadValue
  pub attributes : AreAttributes width path_attributes read
  pub withdrawn : List NlriValue
  pub withdrawn_are : AreNlri V4 (uses_ids ids V4) withdrawn_routes withdrawn
  pub unreachable : List NlriValue
  pub unreachable_are : AreMpNlri ids read.unreach unreachable
  pub all_withdrawn : u.withdrawn ≡ withdrawn ++ unreachable
  pub plain_are : AreNlri V4 (uses_ids ids V4) nlri u.plain
  pub plain_attrs_are : u.plain_attrs ≡ read.attrs
  pub multi_are : AreMpNlri ids read.reach u.multi
  pub multi_attrs_are : u.multi_attrs ≡ with_hop_of read.reach read.attrs
  pub mark_is : u.mark ≡ end_of_rib withdrawn_routes read nlri
  pub unread_is : u.unread ≡ passed_over read.reach + passed_over read.unreach
