-- Wrong texts and answers, which the clauses of their calls refuse.
use Rattle.std.proofs.Common.{◌≡◌, ℕ, false, true, List, [], ◌∷◌, length, length-append, replicate, slice_index, codes, Option, None, Some, Ok, refl, ap, arith}
use Rattle.std.specs.Fmt.{digits}
use Rattle.bmp_specs.specs.declared.peers.View.TheVariants.{InPre}
use Rattle.bmp_specs.specs.declared.causes.Cause.TheVariants.{Ended}
use Rattle.bmp_specs.specs.declared.wire.Family.TheVariants.{V4, V6}
use Rattle.bmp_specs.specs.AddressText.{dotted}
use Rattle.bmp_specs.specs.EscapedText.{escaped_text}
use Rattle.bmp_specs.specs.NumberText.{number_text}
use Rattle.bmp_specs.specs.PeerText.{hex_text, distinguisher_text}
use Rattle.bmp_specs.specs.declared.wire.SegmentKind.TheVariants.{Sequence}
use Rattle.bmp_specs.specs.RouteLine.{comma_list, route_line}
use Rattle.bmp_specs.specs.Rows.{RowKeyValue}
use Rattle.bmp_specs.specs.Session.{live, shut}
use Rattle.bmp_specs.specs.Values.{AddressValue, AttrsValue, OtherValue, SegmentValue, opened_step}
use Rattle.ask_specs.specs.AskReply.{told_change}
use Rattle.ask_specs.specs.FullLine.{full_line, raw_path}
use Rattle.ask_specs.specs.FullRouters.{ConnectionValue, full_router_line, host_text}
use Rattle.ask_specs.specs.TraitText.{extended_text}
use Rattle.wire_io.specs.Aside.{Aside}
use Rattle.wire_io.specs.Writes.{Writes}
use Rattle.reply_text.specs.Rov.{rov_line}

-- an IPv4 address
abbrev ipv4 : ℕ → ℕ → ℕ → ℕ → AddressValue
ipv4 a b c d = record { family = V4; octets = a ∷ b ∷ c ∷ d ∷ replicate 12 0 }

-- 10.0.0.0/8 of a peer, with a path identifier or without one
abbrev place : Option ℕ → RowKeyValue
place id = record {
  key = record { kind = 0; distinguisher = 0; address = ipv4 192 0 2 1 };
  view = InPre;
  nlri = record { prefix = record { address = ipv4 10 0 0 0; bits = 8 }; id = id };
}

-- a route without path attributes
abbrev bare : AttrsValue
bare = record { origin = None; path = None; hop = None; med = None; pref = None; atomic = false; aggregator = None; communities = []; others = [] }

a_route_without_an_id_has_no_field_of_it : route_line 3 (record { row_key = place None; route = bare })
    ≡ codes "route 3 0-0000000000000000-192.0.2.1 adj-in-pre 10.0.0.0/8 next=- origin=- path=- med=- pref=- atomic=no agg=- comm=- other=-\n"
unfolding digits hex_text distinguisher_text dotted
a_route_without_an_id_has_no_field_of_it = refl

-- A route without a path identifier is told with one of 0.
a_route_without_an_id_has_none_of_0 : route_line 3 (record { row_key = place None; route = bare })
    ≡ codes "route 3 0-0000000000000000-192.0.2.1 adj-in-pre 10.0.0.0/8 next=- origin=- path=- med=- pref=- atomic=no agg=- comm=- other=- id=0\n" → ⊥
unfolding digits hex_text distinguisher_text dotted
a_route_without_an_id_has_none_of_0 e = omega (arith, ap length e)

-- A write that failed, which the sink counted, is answered as one that didn't.
a_write_that_failed_is_not_answered_ok : (told : ℕ → Option (List ℕ)) (aside : ℕ → Aside) (text : List ℕ) → Writes (λ faults. faults) told aside 0 text (Ok tt) 1 → ⊥
a_write_that_failed_is_not_answered_ok told aside text w = omega (arith, w.cause.fine)

a_space_of_a_name_is_escaped : escaped_text (codes "edge 1") ≡ codes "edge%201"
a_space_of_a_name_is_escaped = refl

-- A space in a router's name stands as it is, and ends the field.
a_space_of_a_name_does_not_stand : escaped_text (codes "edge 1") ≡ codes "edge 1" → ⊥
a_space_of_a_name_does_not_stand e = omega (arith, ap length e)

a_number_of_eight_digits_has_each : number_text 12345678 ≡ codes "12345678"
unfolding digits
a_number_of_eight_digits_has_each = refl

-- Of a number of eight digits the thousands are told as 0.
the_thousands_are_not_lost : number_text 12345678 ≡ codes "12340678" → ⊥
unfolding digits
the_thousands_are_not_lost e = omega (arith, ap (λ (l : List ℕ). slice_index l 4) e)

a_judged_row_tells_its_origin : rov_line 3 (place None) (Some 64500) (codes "valid") ≡ codes "rov 3 0-0000000000000000-192.0.2.1 adj-in-pre 10.0.0.0/8 64500 valid\n"
unfolding digits hex_text distinguisher_text dotted
a_judged_row_tells_its_origin = refl

-- The line of a row that is judged says that its route has no origin, whatever it is.
an_origin_is_not_told_as_none : rov_line 3 (place None) (Some 64500) (codes "valid") ≡ codes "rov 3 0-0000000000000000-192.0.2.1 adj-in-pre 10.0.0.0/8 none valid\n" → ⊥
unfolding digits hex_text distinguisher_text dotted
an_origin_is_not_told_as_none e = omega (arith, ap length e)

-- 64500:1:2 as a large community, with these flags
abbrev large_community : ℕ → OtherValue
large_community flags = record { flags = flags; code = 32; value = 0 ∷ 0 ∷ 251 ∷ 244 ∷ 0 ∷ 0 ∷ 0 ∷ 1 ∷ 0 ∷ 0 ∷ 0 ∷ 2 ∷ [] }

abbrev with_large : ℕ → AttrsValue
with_large flags = record { origin = None; path = None; hop = None; med = None; pref = None; atomic = false; aggregator = None; communities = []; others = large_community flags ∷ [] }

a_full_line_tells_the_partial_bit : full_line 3 (record { row_key = place None; route = with_large 224 })
    ≡ codes "route 3 0-0000000000000000-192.0.2.1 adj-in-pre 10.0.0.0/8 next=- origin=- path=- med=- pref=- atomic=no agg=- comm=- other=32 flags=e0 large=64500:1:2 ext=- otc=- aigp=- originator=- clusters=- raw=-\n"
unfolding digits hex_text distinguisher_text dotted
a_full_line_tells_the_partial_bit = refl

-- A full line tells the flags of an attribute without the Partial bit, which is set.
the_partial_bit_is_not_left_out : full_line 3 (record { row_key = place None; route = with_large 224 })
    ≡ codes "route 3 0-0000000000000000-192.0.2.1 adj-in-pre 10.0.0.0/8 next=- origin=- path=- med=- pref=- atomic=no agg=- comm=- other=32 flags=c0 large=64500:1:2 ext=- otc=- aigp=- originator=- clusters=- raw=-\n" → ⊥
unfolding digits hex_text distinguisher_text dotted
the_partial_bit_is_not_left_out e = omega (arith, ap (λ (l : List ℕ). slice_index l 133) e)

-- a route target of an AS of four octets that two would hold
abbrev small_target : List ℕ
small_target = 2 ∷ 2 ∷ 0 ∷ 0 ∷ 251 ∷ 244 ∷ 0 ∷ 100 ∷ []

a_small_as_of_four_octets_is_in_hexadecimal : extended_text small_target ≡ codes "02020000fbf40064"
unfolding digits hex_text
a_small_as_of_four_octets_is_in_hexadecimal = refl

-- A route target of an AS of four octets below 65536 has the text of one of two octets.
a_small_as_of_four_octets_has_no_words : extended_text small_target ≡ codes "rt:64500:100" → ⊥
unfolding digits hex_text
a_small_as_of_four_octets_has_no_words e = omega (arith, ap length e)

-- two sequences of one number
abbrev divided : List SegmentValue
divided = record { kind = Sequence; numbers = 1 ∷ [] } ∷ record { kind = Sequence; numbers = 2 ∷ [] } ∷ []

a_divided_path_is_in_hexadecimal : comma_list (raw_path (Some divided)) ≡ codes "2:020100000001020100000002"
unfolding digits hex_text
a_divided_path_is_in_hexadecimal = refl

-- Two sequences of one number are told as one of two.
a_divided_path_is_not_left_out : comma_list (raw_path (Some divided)) ≡ codes "-" → ⊥
unfolding digits hex_text
a_divided_path_is_not_left_out e = omega (arith, ap length e)

a_full_change_has_its_times : told_change true 3 (record { number = 0; step = opened_step }) ≡ codes "change 3 0 opened seen=- told=-\n"
unfolding digits
a_full_change_has_its_times = refl

-- A change of `full` has no fields of the times.
a_full_change_is_not_told_without_times : told_change true 3 (record { number = 0; step = opened_step }) ≡ codes "change 3 0 opened\n" → ⊥
unfolding digits
a_full_change_is_not_told_without_times e = omega (arith, ap length e)

-- a connection from 192.0.2.1 that was closed 16 seconds after it was opened, and had a route of 1/128 passed over
abbrev connection : ConnectionValue
connection = record {
  came = record { from = Some (record { address = ipv4 192 0 2 1; port = 50852 }); since = Some 1764571484 };
  until = Some 1764571500;
  up = 1;
  counts = record { messages = 2; bytes = 233; orphans = 0; unread = 1; mirrored = 0; passed = 0 };
  name = codes "r1";
  descr = codes "test";
  passed = record { tlvs = 0; stats = 0; routes = 1; families = 1; others = record { family = record { afi = 1; safi = 128 }; count = 1 } ∷ []; more = 0 };
}

a_closed_connection_is_told_whole : full_router_line 0 (shut Ended) connection
    ≡ codes "router 0 closed ended from=192.0.2.1:50852 since=1764571484 until=1764571500 peers=1 messages=2 bytes=233 orphans=0 unread=1 mirrored=0 passed=0 name=r1 descr=test tlvs=0 stats=0 malformed=0 others=1/128:1 more=0\n"
unfolding digits dotted
a_closed_connection_is_told_whole = refl

-- A route of another family is told as a malformed one.
another_family_is_not_malformed : full_router_line 0 (shut Ended) connection
    ≡ codes "router 0 closed ended from=192.0.2.1:50852 since=1764571484 until=1764571500 peers=1 messages=2 bytes=233 orphans=0 unread=1 mirrored=0 passed=0 name=r1 descr=test tlvs=0 stats=0 malformed=1 others=- more=0\n" → ⊥
unfolding digits dotted
another_family_is_not_malformed e = omega (arith, ap length e)

-- The line of an open connection tells when it was closed.
an_open_connection_is_not_told_as_closed : full_router_line 0 live connection
    ≡ codes "router 0 live peers=1 messages=2 bytes=233 orphans=0 unread=1 mirrored=0 passed=0 name=r1 descr=test from=192.0.2.1:50852 since=1764571484 until=1764571500 tlvs=0 stats=0 malformed=0 others=1/128:1 more=0\n" → ⊥
unfolding digits dotted
an_open_connection_is_not_told_as_closed e = omega (arith, ap length e)

-- An IPv6 address stands without brackets, so its port is told as more of it.
an_ipv6_address_does_not_stand_bare : (text : List ℕ) → host_text V6 text ≡ text → ⊥
an_ipv6_address_does_not_stand_bare text e = omega (arith, ap length e, length-append text (codes "]"))
