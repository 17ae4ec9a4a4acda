-- What a wrong writer would write, and that it isn't what the contract asks for.
use Rattle.std.proofs.Common.{◌≡◌, ◌≤◌, ◌<◌, ◌↔◌, ℕ, true, List, [], ◌∷◌, ◌++◌, length, replicate, get_or, refl, ap, ◌∙◌, arith}
use Rattle.std.specs.Prelude.{IsTrue, Some, None}
use Rattle.std.specs.List.{AllByRecursion}
use Rattle.std.proofs.lemmas.Bool.{eqb-false}
use Rattle.bmp_specs.specs.declared.peers.View.{View}
use Rattle.bmp_specs.specs.declared.wire.Family.TheVariants.{V4, V6}
use Rattle.bmp_specs.specs.declared.wire.SegmentKind.TheVariants.{Sequence}
use Rattle.bmp_specs.specs.BgpMessage.{marker}
use Rattle.bmp_specs.specs.Prefix.{padded}
use Rattle.bmp_specs.specs.TreatAsWithdraw.{no_attributes}
use Rattle.bmp_specs.specs.Update.{end_of_rib}
use Rattle.bmp_specs.specs.Values.{AttrsValue, CapValue, KeyValue, NlriValue}
use Rattle.bmp_writer.specs.Capabilities.{IsPathCapability}
use Rattle.bmp_writer.specs.PeerMessage.{address_bytes, mark_update}
use Rattle.bmp_writer.specs.WrittenAttributes.{IsShortSegment}
use Rattle.bmp_writer.specs.WrittenRoutes.{IsRoutesMessage}
use Rattle.bmp_writer.specs.WrittenUpdate.{IsUpdateOf, counted, places}

abbrev octet : ℕ → List ℕ → ℕ
octet at bytes = get_or bytes at 0

-- A path segment of 256 AS numbers isn't taken: its count has no room in one octet.
a_segment_of_256_is_not_short : IsTrue true ↔ AllByRecursion IsShortSegment (record { kind = Sequence; numbers = replicate 256 64496 } ∷ []) → ⊥
a_segment_of_256_is_not_short is = let short : 256 ≤ 255 = (is.0 refl).0 in omega arith

-- Announcements of IPv4 don't stand in "Withdrawn Routes": 10.0.0.0/8 there, and no attribute.
announcements_are_not_withdrawn : (announced : List NlriValue) (attrs : AttrsValue) → IsUpdateOf V4 (places V4 [] announced attrs) (marker ++ (0 ∷ 25 ∷ 2 ∷ 0 ∷ 2 ∷ 8 ∷ 10 ∷ 0 ∷ 0 ∷ 8 ∷ 10 ∷ [])) → ⊥
announcements_are_not_withdrawn announced attrs is =
    eqb-false 2 0 refl (ap (octet 1) (is.is.body_is ∙ ap (λ (w : List ℕ). counted w ++ (counted is.path_attributes ++ is.nlri)) is.withdrawn_are))

-- An MP_UNREACH_NLRI that withdraws `::/0` isn't that of the End-of-RIB marker of IPv6,
a_mark_withdraws_nothing : marker ++ (0 ∷ 30 ∷ 2 ∷ 0 ∷ 0 ∷ 0 ∷ 7 ∷ 0x80 ∷ 15 ∷ 4 ∷ 0 ∷ 2 ∷ 1 ∷ 0 ∷ []) ≡ mark_update V6 → ⊥
a_mark_withdraws_nothing is = eqb-false 30 29 refl (ap (λ (l : List ℕ). length l) is)

-- and an UPDATE message with it is no marker.
who_withdraws_marks_nothing : end_of_rib [] (record { attrs = no_attributes; reach = None; unreach = Some (record { afi = 2; safi = 1; hop = []; prefixes = 0 ∷ [] }); count = 1 }) [] ≡ Some V6 → ⊥
who_withdraws_marks_nothing is = absurd cc

-- The length of an ADD-PATH capability of one entry isn't 0.
the_last_entry_counts : (cap : CapValue) → IsPathCapability (cap ∷ []) (69 ∷ 0 ∷ 0 ∷ 1 ∷ 1 ∷ 3 ∷ []) → ⊥
the_last_entry_counts cap is = eqb-false 2 6 refl is.is.length_is

-- The twelve octets before an IPv4 address are zero, and not 255.
zeros_stand_before_an_ipv4_address : replicate 12 255 ++ (10 ∷ 0 ∷ 0 ∷ 1 ∷ []) ≡ address_bytes (record { family = V4; octets = padded (10 ∷ 0 ∷ 0 ∷ 1 ∷ []) }) → ⊥
zeros_stand_before_an_ipv4_address is = eqb-false 255 0 refl (ap (octet 0) is)

-- A message that states 300 octets and has fewer isn't one, whatever it carries.
a_cut_message_is_none : (key : KeyValue) (view : View) (withdrawn announced : List NlriValue) (attrs : AttrsValue) (rest : List ℕ) → length rest < 294 → IsRoutesMessage key view withdrawn announced attrs (3 ∷ 0 ∷ 0 ∷ 1 ∷ 44 ∷ 0 ∷ rest) → ⊥
a_cut_message_is_none key view withdrawn announced attrs rest cut is = omega (arith, cut, is.is.is.length_is)
