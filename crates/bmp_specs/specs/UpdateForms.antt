-- The forms in which an UPDATE message may be written. Where the OPEN messages agree on path identifiers, each prefix
-- has one (RFC 7911, section 3). Unless the header says that the AS_PATH is in the two-byte form, AS numbers have four
-- octets (RFC 7854, section 4.2), and those of a Loc-RIB have four in any case (RFC 9069, section 5.4.1). These forms
-- come first. That a second one is tried, prefixes without identifiers or AS numbers in two octets, is ours, and so is
-- which is taken of two that fit.
use Rattle.std.specs.Prelude.{◌≡◌, ◌≢◌, ℕ, Bool, false, not, ◌==◌, ◌&&◌, ◌||◌, if◌then◌else◌, MatchBool, ◌⊎◌, List, Option, Some, None, is_none, ⊤}
use Rattle.std.specs.List.{AllByRecursion}
use Rattle.bmp_specs.specs.declared.wire.IdUse.{IdUse}
use Rattle.bmp_specs.specs.declared.wire.Width.{Width}
use Rattle.bmp_specs.specs.declared.wire.Width.TheVariants.{Two}
use Rattle.bmp_specs.specs.Attributes.{AreAttributes}
use Rattle.bmp_specs.specs.MessageBody.{width_of}
use Rattle.bmp_specs.specs.PeerHeader.{HeaderValue, is_two_byte, loc_rib}
use Rattle.bmp_specs.specs.Values.{AttrsReadValue, OpenValue, OpensValue, SegmentValue}

-- the forms of one UPDATE message: for each family, whether prefixes have no path identifiers though they were agreed
-- on; and whether AS numbers have two octets where four come first
pub record FormsValue : Type 0 where
  pub bare_v4 : Bool
  pub bare_v6 : Bool
  pub two_octets : Bool

-- all as agreed
abbrev pub as_agreed : FormsValue
as_agreed = record { bare_v4 = false; bare_v6 = false; two_octets = false }

-- which families have path identifiers in these forms
abbrev pub ids_in : FormsValue → IdUse → IdUse
ids_in forms agreed = record { v4 = not forms.bare_v4 && agreed.v4; v6 = not forms.bare_v6 && agreed.v6 }

-- An OPEN message without the four-octet AS number capability: its sender is an OLD BGP speaker (RFC 6793, section 3).
-- One with extended parameters isn't judged, since they aren't read.
abbrev pub is_old_speaker : OpenValue → Bool
is_old_speaker o = not o.extended && is_none o.four

-- AS numbers have four octets by the header, and may have two: in a Loc-RIB, and where a side of the session is an OLD
-- BGP speaker
abbrev pub may_have_two_octets : OpensValue → HeaderValue → Bool
may_have_two_octets opens h = not (is_two_byte h) && (h.kind == loc_rib || is_old_speaker opens.sent || is_old_speaker opens.received)

-- the second width is tried
abbrev pub departs : OpensValue → HeaderValue → Bool → Bool
departs opens h two_octets = two_octets && may_have_two_octets opens h

abbrev pub width_in : OpensValue → HeaderValue → Bool → Width
width_in opens h two_octets = if departs opens h two_octets then Two else width_of h

-- no AS number of the path is 0 (RFC 7607, section 2)
abbrev pub HasNoAsZero : Option (List SegmentValue) → Type 0
HasNoAsZero None = ⊤
HasNoAsZero (Some path) = AllByRecursion (λ segment. AllByRecursion (λ asn. asn ≢ 0) segment.numbers) path

-- The path attributes have a value in this width. In the second one AS_PATH has no AS number 0 either.
pub record FitsWidth (opens : OpensValue) (h : HeaderValue) (field : List ℕ) (two_octets : Bool) : Type 0 where
  pub read : AttrsReadValue
  pub are : AreAttributes (width_in opens h two_octets) field read
  pub no_zero : MatchBool (departs opens h two_octets) (HasNoAsZero are.stated.as_path) ⊤

-- A form is taken: that of the last message where it fits, and else the other.
pub record Takes (Fits : Bool → Type 0) (last taken : Bool) : Type 0 where
  pub fits : Fits taken
  pub first : (taken ≡ last) ⊎ ¬ (Fits last)
