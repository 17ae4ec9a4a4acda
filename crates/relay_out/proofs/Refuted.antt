-- Wrong streams of a session, which the clauses of the call that relays it refuse. What the reader of a wrong stream is
-- left with stands in the place of its bytes.
use Rattle.std.proofs.Common.{◌≡◌, ℕ, false, true, List, [], ◌∷◌, length, map, flat_map, replicate, Option, None, Some, Ok, Err, refl, ap, sym, ◌∙◌, inl, inr, length-append, arith}
use Rattle.std.specs.List.{AllByRecursion}
use Rattle.bmp_specs.specs.declared.peers.View.{View}
use Rattle.bmp_specs.specs.declared.peers.View.TheVariants.{InPre, OutPre}
use Rattle.bmp_specs.specs.declared.wire.Family.{Family}
use Rattle.bmp_specs.specs.declared.wire.Family.TheVariants.{V4, V6}
use Rattle.bmp_specs.specs.Complete.{IsComplete}
use Rattle.bmp_specs.specs.Listed.{AreAll}
use Rattle.bmp_specs.specs.Orders.{key_cmp}
use Rattle.bmp_specs.specs.PeerUp.{IsUpWith}
use Rattle.bmp_specs.specs.Rows.{RowValue, HasRow}
use Rattle.bmp_specs.specs.Values.{AddressValue, AttrsValue, DownInfoValue, EffectValue, KeyValue, NlriValue, OpenValue, PeerInfoValue, PrefixValue, announce, down, mark, named, up}
use Rattle.bmp_specs.proofs.ListedOne.{contains_first}
use Rattle.bmp_specs.proofs.PeerLaws.{none_up}
use Rattle.bmp_specs.proofs.RowLaws.{row_from, row_now, up_from, up_now}
use Rattle.wire_io.specs.Aside.{Aside}
use Rattle.relay_out.specs.declared.fault.EmitFault.TheVariants.{Failed}
use Rattle.relay_out.specs.Messages.{announces, completes, peer_items, stream_items, tells}
use Rattle.relay_out.specs.Relayed.{IsRelayed}
use Rattle.relay_out.specs.Told.{IsTold, PeerToldValue, StreamValue, up_told}
use Rattle.relay_out.specs.Writable.{IsWritable}
use Rattle.relay_out.specs.Writing.{Relays}

-- ---- rows
-- a session with one row
abbrev one_row : PeerInfoValue → RowValue → List EffectValue
one_row info row = up row.row_key.key info ∷ announce row.row_key.key row.row_key.view row.row_key.nlri row.route ∷ []

abbrev row_at : KeyValue → View → NlriValue → AttrsValue → RowValue
row_at key view nlri route = record { row_key = record { key = key; view = view; nlri = nlri }; route = route }

is_there : (info : PeerInfoValue) (row : RowValue) → HasRow (one_row info row) row
is_there info row = row_now (up row.row_key.key info ∷ []) row (up_now [] row.row_key.key info)

-- a peer that comes up has no row yet
none_yet : (info : PeerInfoValue) (row : RowValue) → HasRow (up row.row_key.key info ∷ []) row → ⊥
none_yet info row h = elim (row_from [] (up row.row_key.key info) row h) [ inl p ↦ absurd (cc (p.0)) | inr p ↦ p.1 refl ]

-- whatever came before its Peer Up
none_before : (x : EffectValue) (info : PeerInfoValue) (row : RowValue) → HasRow (x ∷ up row.row_key.key info ∷ []) row → ⊥
none_before x info row h = elim (row_from (x ∷ []) (up row.row_key.key info) row h) [ inl p ↦ absurd (cc (p.0)) | inr p ↦ p.1 refl ]

-- a session of the same peer with one row has that one
that_one : (info : PeerInfoValue) (one row : RowValue) → one.row_key.key ≡ row.row_key.key → HasRow (one_row info one) row
    → announce one.row_key.key one.row_key.view one.row_key.nlri one.route ≡ announce row.row_key.key row.row_key.view row.row_key.nlri row.route
that_one info one row same h =
    elim (row_from (up one.row_key.key info ∷ []) (announce one.row_key.key one.row_key.view one.row_key.nlri one.route) row h) [
      | inl p ↦ p.0
      | inr p ↦ elim (row_from [] (up one.row_key.key info) row p.0) [ inl q ↦ absurd (cc (q.0)) | inr q ↦ absurd (q.1 same) ]
    ]

-- The last row of a table is lost.
the_last_row_is_told : (info told : PeerInfoValue) (row : RowValue) → IsRelayed (one_row info row) (up row.row_key.key told ∷ []) → ⊥
the_last_row_is_told info told row r = none_yet told row ((r.row row).1 (is_there info row))

-- A peer's rows come before its Peer Up: whatever they are to the reader, the peer begins without a row.
rows_come_after_their_peer_up : (info told : PeerInfoValue) (row : RowValue) (x : EffectValue) → IsRelayed (one_row info row) (x ∷ up row.row_key.key told ∷ []) → ⊥
rows_come_after_their_peer_up info told row x r = none_before x told row ((r.row row).1 (is_there info row))

-- A row is told without its path identifier.
a_path_identifier_is_told : (info told : PeerInfoValue) (key : KeyValue) (view : View) (prefix : PrefixValue) (id : ℕ) (route : AttrsValue)
    → IsRelayed (one_row info (row_at key view (record { prefix = prefix; id = Some id }) route)) (one_row told (row_at key view (record { prefix = prefix; id = None }) route)) → ⊥
a_path_identifier_is_told info told key view prefix id route r =
    let with_id : NlriValue = record { prefix = prefix; id = Some id } in
    let without : NlriValue = record { prefix = prefix; id = None } in
    let e : announce key view without route ≡ announce key view with_id route =
    that_one told (row_at key view without route) (row_at key view with_id route) refl ((r.row (row_at key view with_id route)).1 (is_there info (row_at key view with_id route))) in
    let n : without ≡ with_id = cc in
    let i : None ≡ Some id = ap (λ (m : NlriValue). m.id) n in
    cc

-- A row of the Adj-RIB-Out is told as one of the Adj-RIB-In before policy.
a_row_is_told_in_its_view : (info told : PeerInfoValue) (key : KeyValue) (nlri : NlriValue) (route : AttrsValue) → IsRelayed (one_row info (row_at key OutPre nlri route)) (one_row told (row_at key InPre nlri route)) → ⊥
a_row_is_told_in_its_view info told key nlri route r =
    let e : announce key InPre nlri route ≡ announce key OutPre nlri route =
    that_one told (row_at key InPre nlri route) (row_at key OutPre nlri route) refl ((r.row (row_at key OutPre nlri route)).1 (is_there info (row_at key OutPre nlri route))) in
    let v : InPre ≡ OutPre = cc in
    cc

-- ---- complete tables
-- without a mark no table is complete
no_mark : (key : KeyValue) (view : View) (family : Family) (info : PeerInfoValue) → IsComplete (up key info ∷ []) key view family → ⊥
no_mark key view family info c =
    omega (arith, ap length c.up.split, length-append c.up.before (up key c.info ∷ c.up.after), c.marked.1)

-- A table that waits for its End-of-RIB marker has one.
a_waiting_table_is_not_marked : (key : KeyValue) (view : View) (family : Family) (info told : PeerInfoValue) → IsRelayed (up key info ∷ []) (up key told ∷ mark key view family ∷ []) → ⊥
a_waiting_table_is_not_marked key view family info told r =
    no_mark key view family info ((r.complete key view family).0 (record {
      info = told;
      up = record { before = []; after = mark key view family ∷ []; split = refl; last = (λ n. n, tt) };
      marked = (0, omega arith, refl);
    }))

-- ---- peers that are down
not_up : (key up_key : KeyValue) (ended : DownInfoValue) (info : PeerInfoValue) → IsUpWith (down key ended ∷ []) up_key info → ⊥
not_up key up_key ended info u = elim (up_from [] (down key ended) up_key (info, u)) [
  | inl p ↦ absurd (cc (p.1))
  | inr p ↦ none_up up_key p.0.0 p.0.1
]

none_told : (key : KeyValue) (ended : DownInfoValue) (peers : List PeerToldValue) → AreAll (λ u. u.0) key_cmp (λ u. IsUpWith (down key ended ∷ []) u.0 u.1) (map up_told peers) → peers ≡ []
none_told key ended [] all = refl
none_told key ended (p ∷ peers) all = absurd (not_up key p.key ended p.info ((all.exact (up_told p)).0 (contains_first (up_told p) (map up_told peers))))

-- A peer that is down has an End-of-RIB marker: of a session without another peer the Initiation Message is the whole stream.
a_peer_that_is_down_has_no_mark : (key : KeyValue) (ended : DownInfoValue) (s : StreamValue) → IsTold (down key ended ∷ []) s → stream_items s ≡ tells s.name s.description ∷ completes key InPre V4 ∷ [] → ⊥
a_peer_that_is_down_has_no_mark key ended s t e =
    let none : s.peers ≡ [] = none_told key ended s.peers t.peers in
    omega (arith, ap length (sym e ∙ ap (λ (peers : List PeerToldValue). tells s.name s.description ∷ flat_map peer_items peers) none))

-- ---- what can't be relayed
-- The stream of a session is begun or written whose name no Initiation Message can carry: "Information Length" has two
-- octets (RFC 7854, section 4.4).
a_name_of_65536_octets_is_not_begun : {O : Type 0} (faults : O → ℕ) (told : O → Option (List ℕ)) (aside : O → Aside) (name : List ℕ) (old new : O) → length name ≡ 65536 → Relays faults told aside (named name ∷ []) old (Err Failed) new → ⊥
a_name_of_65536_octets_is_not_begun faults told aside name old new long r = omega (arith, r.0.tells.short_name, long)

a_name_of_65536_octets_is_not_written : {O : Type 0} (faults : O → ℕ) (told : O → Option (List ℕ)) (aside : O → Aside) (name : List ℕ) (old new : O) → length name ≡ 65536 → Relays faults told aside (named name ∷ []) old (Ok tt) new → ⊥
a_name_of_65536_octets_is_not_written faults told aside name old new long r = omega (arith, r.0.tells.short_name, long)

-- an address of the family: all bits are 0
abbrev unspecified : Family → AddressValue
unspecified family = record { family = family; octets = replicate 16 0 }

-- an OPEN message that offers path identifiers both ways, for IPv4 alone (RFC 7911, section 4)
abbrev offers_ipv4 : OpenValue
offers_ipv4 = record { version = 4; my_as = 64500; hold = 180; identifier = 192 ∷ 0 ∷ 2 ∷ 1 ∷ []; four = None; families = []; paths = record { afi = 1; safi = 1; value = 3 } ∷ []; extended = false }

abbrev agreed_on_ipv4 : PeerInfoValue
agreed_on_ipv4 = record { asn = 64500; identifier = 192 ∷ 0 ∷ 2 ∷ 1 ∷ []; local = unspecified V4; local_port = 179; remote_port = 179; sent = offers_ipv4; received = offers_ipv4; filtered = false; table = None }

-- Whether IPv6 routes shall have path identifiers is judged by what the OPEN messages say of IPv4.
ids_of_ipv6_are_their_own : (key : KeyValue) (route : AttrsValue) → AllByRecursion IsWritable (map (announces agreed_on_ipv4) (row_at key InPre (record { prefix = record { address = unspecified V6; bits = 0 }; id = Some 7 }) route ∷ [])) → ⊥
ids_of_ipv6_are_their_own key route w = let e : false ≡ true = w.0.ids in cc
