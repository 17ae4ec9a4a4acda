-- What the clauses refuse: for each mistake that someone could make here, its result at one value.
use Rattle.std.specs.Net.Addr.{IsIpv4Mapped, ipv6_segments}
use Rattle.std.specs.declared.net.ip_addr.IpAddr.TheVariants.{V6 as IpV6}
use Rattle.std.specs.declared.net.ipv6_addr.Ipv6Addr.{Ipv6Addr}
use Rattle.bmp_specs.specs.Values.{AddressValue, EndpointValue, PrefixValue}
use Rattle.bmp_specs.specs.declared.wire.Family.TheVariants.{V4, V6}
use Rattle.station_doors.specs.Allowed.{ComesFrom, MayConnect}
use Rattle.std.proofs.Common.{◌≡◌, ℕ, ◌^◌, true, false, List, [], ◌∷◌, map, length, get_or, refl, sym, ap, subst, ◌∙◌, inl, inr, arith, Option, Some, None, Ok, Err}
use Rattle.wire_io.specs.Aside.{Aside, nothing_aside}
use Rattle.disk_doors.specs.Disk.{DiskValue, nothing}
use Rattle.station_doors.specs.Doors.{KeepsInput, YardValue, Returned, Reads, TakesBackTold}
use Rattle.station_doors.specs.Told.{KeepsOpening, ToldValue, told_at, untold}
use Rattle.station_doors.specs.Files.{GivesFile, ReadsWhole}
use Rattle.station_doors.specs.Disks.{HandsOutDisk}
use Rattle.station_doors.specs.Connections.{shows_of, port_shows}
use Rattle.station_doors.specs.declared.connections.Session.{Session}
use Rattle.station_doors.specs.declared.listening.Listening.{Listening}
use Rattle.station_doors.specs.declared.connections.Last.TheVariants.{Gave}
use Rattle.station_doors.specs.declared.files.FileFault.TheVariants.{TooLong}

-- ---- the input of a yard that listens
none_is_no_item : (n : ℕ) → None ≡ Some n → ⊥
none_is_no_item n is = cc

-- A yard that was asked to listen and hands out a lane's port still has its input.
a_listening_yard_does_not_give_up_its_input : (at : Listening) (n : ℕ) → KeepsInput {R = ℕ} (Some at) (Some n) None → ⊥
a_listening_yard_does_not_give_up_its_input at n keeps = none_is_no_item n (keeps refl)

-- ---- what a yard hands out
-- a yard that has nothing
abbrev bare : YardValue
bare = record { ports = []; links = []; fails = []; out = []; links_out = []; back = []; links_back = []; files = []; disks = [] }

-- the path "a"
abbrev path_a : List ℕ
path_a = 97 ∷ []

-- A disk is handed out under its whole path: that of the path "ab" isn't for who asks for "a".
abbrev with_disk_ab : YardValue
with_disk_ab = record bare { disks = record { path = 97 ∷ 98 ∷ []; shows = Some (record { value = nothing; faults = 0 }) } ∷ [] }

a_disk_of_a_longer_path_is_not_handed_out : (new : Option YardValue) → HandsOutDisk {D = DiskValue} (Unit {0}) (λ d. d) (λ d. 0) path_a 0 (Some with_disk_ab) new (Ok nothing) → ⊥
a_disk_of_a_longer_path_is_not_handed_out new h = absurd (cc (h.2))

-- A call that the plan fails gives no file.
abbrev with_file : List ℕ → List ℕ → YardValue
with_file fails bytes = record bare { fails = fails; files = record { path = path_a; bytes = bytes } ∷ [] }

a_call_that_is_to_fail_gives_no_file : (bytes : List ℕ) (new : Option YardValue) → GivesFile path_a 0 (Some (with_file (0 ∷ []) (65 ∷ []))) new (Ok bytes) → ⊥
a_call_that_is_to_fail_gives_no_file bytes new g = g.0 (0, omega arith, refl)

-- A file of exactly 2^26 bytes isn't too long, and one of a byte more is.
a_file_of_2_26_bytes_is_not_too_long : (bytes : List ℕ) (new : Option YardValue) → length bytes ≡ 2 ^ 26 → GivesFile path_a 0 (Some (with_file [] bytes)) new (Err TooLong) → ⊥
a_file_of_2_26_bytes_is_not_too_long bytes new size g =
    let e : ◌≡◌ {A = Option (List ℕ)} (Some bytes) (Some g.1) = g.2 in
    let same : bytes ≡ g.1 = cc in
    absurd (omega (arith, size, ap length same, g.3))

an_input_of_2_26_bytes_is_not_too_long : (bytes : List ℕ) → length bytes ≡ 2 ^ 26 → ReadsWhole (Some bytes) (Err TooLong) → ⊥
an_input_of_2_26_bytes_is_not_too_long bytes size r = absurd (omega (arith, size, r))

a_file_of_a_byte_more_is_too_long : (bytes : List ℕ) → length bytes ≡ 67108865 → ReadsWhole (Some bytes) (Ok bytes) → ⊥
a_file_of_a_byte_more_is_too_long bytes size r = absurd (omega (arith, size, r.0))

-- A read gives what follows the bytes that were given, and not those again.
abbrev session : ℕ → Session
session count = record { bytes = 65 ∷ 66 ∷ []; count = count; last = Gave; writes = 0 }

abbrev port_after : ℕ → ℕ → Aside
port_after count taken = port_shows [] (shows_of (session count ∷ []) 1 0 true taken false 0)

a_byte_is_not_given_again : Reads (port_after 0 0) (port_after 0 1) (Ok 1) (65 ∷ []) → ⊥
a_byte_is_not_given_again r = absurd (omega (arith, ap length (r.rest.0)))

-- A port comes back under the number under which it was handed out.
abbrev lanes_back : Option YardValue → List ℕ
lanes_back None = []
lanes_back (Some y) = map (λ (b : Returned). b.lane) y.back

abbrev lent : YardValue
lent = record bare { out = 1 ∷ [] }

a_port_does_not_come_back_under_another_number : TakesBackTold 1 nothing_aside lent (Some (record lent { out = []; back = record { lane = 0; shows = nothing_aside } ∷ [] })) → ⊥
a_port_does_not_come_back_under_another_number t = absurd (cc (ap lanes_back (t.lent (0, omega arith, refl))))

-- ---- what a port tells of its connection
-- a connection from the port of this number of 192.0.2.1, that was opened at this time
abbrev came_from : ℕ → ℕ → ToldValue
came_from number at = record untold { from = Some (record { address = record { family = V4; octets = 192 ∷ 0 ∷ 2 ∷ 1 ∷ 0 ∷ 0 ∷ 0 ∷ 0 ∷ 0 ∷ 0 ∷ 0 ∷ 0 ∷ 0 ∷ 0 ∷ 0 ∷ 0 ∷ [] }; port = number }); since = Some at }

abbrev port_of : Option EndpointValue → ℕ
port_of None = 0
port_of (Some e) = e.port

abbrev time_of : Option ℕ → ℕ
time_of None = 0
time_of (Some at) = at

-- A closing changes neither from where the connection came, nor when that was.
a_closing_does_not_change_from_where : KeepsOpening (came_from 1 5) (record (came_from 2 5) { until = Some 7 }) → ⊥
a_closing_does_not_change_from_where k = absurd (omega (arith, ap port_of k.0))

a_closing_does_not_forget_from_where : KeepsOpening (came_from 1 5) (record untold { since = Some 5; until = Some 7 }) → ⊥
a_closing_does_not_forget_from_where k = absurd (omega (arith, ap port_of k.0))

a_closing_does_not_change_since_when : KeepsOpening (came_from 1 5) (record (came_from 1 6) { until = Some 7 }) → ⊥
a_closing_does_not_change_since_when k = absurd (omega (arith, ap time_of k.1))

-- A port in memory tells the second value of its second connection, and not the first one again.
a_telling_is_not_told_again : told_at (came_from 1 5 ∷ came_from 2 6 ∷ []) 2 ≡ came_from 1 5 → ⊥
a_telling_is_not_told_again is = absurd (omega (arith, ap (λ (t : ToldValue). port_of t.from) is))

-- a prefix of IPv4 lets no IPv6 address in, however few bits it has
ipv6_is_within_no_ipv4 : (prefix : PrefixValue) (address : AddressValue) → prefix.address.family ≡ V4 → address.family ≡ V6 → MayConnect (prefix ∷ []) address → ⊥
ipv6_is_within_no_ipv4 prefix address four six (inl none) = cc none
ipv6_is_within_no_ipv4 prefix address four six (inr (k, found, within, at, holds)) =
    let first : k ≡ 0 = omega (arith, within) in
    let same : prefix ≡ found = subst (λ (i : ℕ). get_or (prefix ∷ []) i found ≡ found) first at in
    let both : V4 ≡ V6 = sym four ∙ ap (λ (p : PrefixValue). p.address.family) same ∙ holds.family ∙ six in
    cc both

-- an IPv4 router that comes to `::` is no IPv6 router
mapped_is_no_ipv6 : (ip : Ipv6Addr) (address : AddressValue) → IsIpv4Mapped (ipv6_segments ip) → address.family ≡ V6 → ComesFrom (IpV6 ip) address → ⊥
mapped_is_no_ipv6 ip address mapped six (inl (also, is)) =
    let both : V6 ≡ V4 = sym six ∙ ap (λ (a : AddressValue). a.family) is in
    cc both
mapped_is_no_ipv6 ip address mapped six (inr (none, is)) = none mapped
