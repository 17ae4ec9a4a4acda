-- Attributes with which any one prefix can be announced.
use Rattle.std.proofs.Common.{◌≡◌, ℕ, ◌+◌, ◌≤◌, ◌/◌, Bool, true, false, cond, not, nat_lt, List, [], ◌∷◌, length, Option, None, Some, refl, arith}
use Rattle.std.proofs.lemmas.List.Sums.{sum_by-cons}
use Rattle.std.specs.Option.{is_some}
use Rattle.bmp_specs.specs.declared.wire.Family.{Family}
use Rattle.bmp_specs.specs.declared.wire.Family.TheVariants.{V4, V6}
use Rattle.bmp_specs.specs.Values.{AttrsValue, NlriValue}
use Rattle.bmp_writer.specs.WrittenAttributes.{attribute_size, front_size, others_size, with_hop}
use Rattle.bmp_writer.specs.WrittenNlri.{id_size, nlri_size, nlris_size}
use Rattle.bmp_writer.specs.WrittenRoutes.{CanBeAnnounced, CanBeGiven, HasNeededHop, IsShortHop}
use Rattle.bmp_writer.specs.WrittenUpdate.{AreShort, HasRoom, hop_bytes, is_plain, of_v4, of_v6, reach_size, unreach_size, where_so}
use Rattle.bmp_writer.proofs.GivenRead.{can_given}

-- an NLRI takes 21 octets at most
nlri_most : (n : NlriValue) → n.prefix.bits ≤ 128 → nlri_size n ≤ 21
nlri_most n few = most n.id
  where
    octets : (n.prefix.bits + 7) / 8 ≤ 16
    octets = omega (arith, few)

    most : (id : Option ℕ) → id_size id + (1 + (n.prefix.bits + 7) / 8) ≤ 21
    most None = omega (arith, octets)
    most (Some id) = omega (arith, octets)

one_most : (n : NlriValue) → n.prefix.bits ≤ 128 → nlris_size (n ∷ []) ≤ 21
one_most n few = omega (arith, sum_by-cons nlri_size n [], nlri_most n few)

attribute_most : (size : ℕ) → attribute_size size ≤ 4 + size
attribute_most size = go (nat_lt 255 size)
  where
    go : (b : Bool) → cond b 4 3 + size ≤ 4 + size
    go true = omega arith
    go false = omega arith

hop_short : (hop : Option (List ℕ)) → IsShortHop hop → length (hop_bytes hop) ≤ 255
hop_short None short = omega arith
hop_short (Some hop) short = short

needed : (family : Family) (n : NlriValue) (hop : Option (List ℕ)) → is_some hop ≡ true → HasNeededHop family (n ∷ []) hop
needed V4 n hop there = tt
needed V6 n hop there = there

none_before : (family : Family) → nlris_size (of_v4 family []) ≡ 0
none_before V4 = refl
none_before V6 = refl

none_unreachable : (family : Family) → unreach_size (of_v6 family []) ≡ 0
none_unreachable V4 = refl
none_unreachable V6 = refl

module _ (attrs : AttrsValue) (short : IsShortHop attrs.hop) where
  -- without a next hop among them they take no more
  front_less : front_size (with_hop false attrs) ≤ front_size (with_hop true attrs)
  front_less = omega arith

  has_room : (b : Bool) (n : NlriValue) → HasRoom (where_so (not b) (n ∷ [])) (hop_bytes attrs.hop)
  has_room true n = tt
  has_room false n = hop_short attrs.hop short

  module _ (room : front_size (with_hop true attrs) + others_size attrs.others ≤ 65227) where
    fits : (family : Family) (b : Bool) (n : NlriValue) → n.prefix.bits ≤ 128
        → 23 + (nlris_size (of_v4 family []) + ((front_size (with_hop b attrs) + (reach_size (hop_bytes attrs.hop) (where_so (not b) (n ∷ [])) + (unreach_size (of_v6 family []) + others_size attrs.others))) + nlris_size (where_so b (n ∷ [])))) ≤ 65535
    fits family true n few = omega (arith, room, none_before family, none_unreachable family, one_most n few)
    fits family false n few =
        omega (arith, room, none_before family, none_unreachable family, one_most n few, front_less, hop_short attrs.hop short, attribute_most (5 + length (hop_bytes attrs.hop) + nlris_size (n ∷ [])))

pub announced : (attrs : AttrsValue) → is_some attrs.hop ≡ true → AreShort attrs.path → CanBeGiven attrs → front_size (with_hop true attrs) + others_size attrs.others ≤ 65227 → CanBeAnnounced attrs
announced attrs there segments can room = record {
  given = can_given attrs can;
  carries = λ key view n known instance among few. record {
    known = known;
    instance = instance;
    among = among;
    some = omega arith;
    alike = ((refl, refl), tt);
    segments = segments;
    needed = needed n.prefix.address.family n attrs.hop there;
    hop = has_room attrs can.hop (is_plain n.prefix.address.family attrs.hop) n;
    fits = fits attrs can.hop room n.prefix.address.family (is_plain n.prefix.address.family attrs.hop) n few;
  };
}
