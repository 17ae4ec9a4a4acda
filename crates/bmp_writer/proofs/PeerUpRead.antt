-- A Peer Up Notification that is written is read as what it tells.
use Rattle.std.proofs.Common.{◌≡◌, ℕ, zero, suc, ◌+◌, ◌<◌, ◌≤◌, ◌^◌, ◌==◌, Bool, true, false, if◌then◌else◌, List, [], ◌∷◌, ◌++◌, length, take, drop, replicate, Option, Some, None, MatchOption, refl, sym, ap, subst, ◌∙◌, append_assoc, append-nil, arith, leb, length-append}
use Rattle.std.specs.Prelude.{MatchBool, ◌&&◌, ◌||◌, not, count_by}
use Rattle.std.proofs.lemmas.List.{take_at, drop_at}
use Rattle.byteorder.specs.Endian.{big_bytes, big_number}
use Rattle.byteorder.specs.Numbers.{big_number-reads_back}
use Rattle.bmp_specs.specs.declared.wire.Family.{Family}
use Rattle.bmp_specs.specs.declared.wire.Family.TheVariants.{V4, V6}
use Rattle.bmp_specs.specs.MessageBody.{HasPeer, MessageType, OfPeer, ReadingState, peer_up_notification}
use Rattle.bmp_specs.specs.Number.{IsNumber}
use Rattle.bmp_specs.specs.Open.{IsOpenMessage}
use Rattle.bmp_specs.specs.PeerHeader.{HeaderValue, IsHeader, address_in, family_of, header_size, is_set, key_of, loc_rib, place_of, v_flag}
use Rattle.bmp_specs.specs.PeerUpNotification.{IsPeerUp, f_flag, string, table_name}
use Rattle.bmp_specs.specs.Tlv.{IsTlv, last_value}
use Rattle.bmp_specs.specs.Values.{AddressValue, CapValue, KeyValue, MessageValue, OpenValue, OpensValue, PeerInfoValue, PeerUpValue, TlvValue, of_unknown_type, peer_up, up}
use Rattle.bmp_writer.specs.Capabilities.{as_read, capabilities_size}
use Rattle.bmp_writer.specs.OpenMessage.{IsOpenOf, open_size, parameters_size}
use Rattle.bmp_writer.specs.PeerMessage.{address_bytes, family_flag}
use Rattle.bmp_writer.specs.PeerUpMessage.{CanCarry, HasUpHeader, IsLocal, IsSome, IsTable, IsUpHeader, IsUpMessage, name_size, name_tlvs, name_tlvs_size, peer_up_size, unextended, up_flags, with_unextended}
use Rattle.bmp_writer.specs.Written.{Always, Appends, IsWritten, peer_up_type, with_opens}
use Rattle.bmp_writer.proofs.Frames.{frame_here, frame_length, header_bytes}
use Rattle.bmp_writer.proofs.Heads.{read_as}
use Rattle.bmp_writer.proofs.OpenRead.{open_plain}
use Rattle.bmp_writer.proofs.Still.{two_pieces, three_pieces}

-- the bytes of a Per-Peer Header without a time
abbrev pub up_fields : KeyValue → ℕ → List ℕ → ℕ → List ℕ → List ℕ
up_fields key flags raw asn identifier = (key.kind ∷ flags ∷ []) ++ (big_bytes 8 key.distinguisher ++ (raw ++ (big_bytes 4 asn ++ (identifier ++ replicate 8 0))))

abbrev pub up_header_with : KeyValue → ℕ → List ℕ → ℕ → List ℕ → HeaderValue
up_header_with key flags raw asn identifier = record { kind = key.kind; flags = flags; distinguisher = key.distinguisher; address = raw; asn = asn; identifier = identifier; seconds = 0; micros = 0 }

one_byte : (n : ℕ) → IsNumber 1 (n ∷ []) n
one_byte n = record { len = refl; value_is = omega arith }

is_header : (key : KeyValue) (flags : ℕ) (raw : List ℕ) (asn : ℕ) (identifier : List ℕ) → key.distinguisher < 2 ^ 64 → length raw ≡ 16 → asn < 4294967296 → length identifier ≡ 4
    → IsHeader (up_fields key flags raw asn identifier) (up_header_with key flags raw asn identifier)
is_header key flags raw asn identifier fits len small four =
    let number : IsNumber 8 (big_bytes 8 key.distinguisher) key.distinguisher = record { len = refl; value_is = big_number-reads_back 8 key.distinguisher [] fits } in
    let asn_is : IsNumber 4 (big_bytes 4 asn) asn = record { len = refl; value_is = big_number-reads_back 4 asn [] small } in
    let zeros : IsNumber 4 (replicate 4 0) 0 = record { len = refl; value_is = refl } in (
      key.kind ∷ [],
      flags ∷ (big_bytes 8 key.distinguisher ++ (raw ++ (big_bytes 4 asn ++ (identifier ++ replicate 8 0)))),
      record { joined = refl },
      one_byte key.kind,
      (
        flags ∷ [],
        big_bytes 8 key.distinguisher ++ (raw ++ (big_bytes 4 asn ++ (identifier ++ replicate 8 0))),
        record { joined = refl },
        one_byte flags,
        (
          big_bytes 8 key.distinguisher,
          raw ++ (big_bytes 4 asn ++ (identifier ++ replicate 8 0)),
          record { joined = refl },
          number,
          (
            raw,
            big_bytes 4 asn ++ (identifier ++ replicate 8 0),
            record { joined = refl },
            record { len = len; value_is = refl },
            (
              big_bytes 4 asn,
              identifier ++ replicate 8 0,
              record { joined = refl },
              asn_is,
              (identifier, replicate 8 0, record { joined = refl }, record { len = four; value_is = refl }, (replicate 4 0, replicate 4 0, record { joined = refl }, zeros, zeros)),
            ),
          ),
        ),
      ),
    )

-- the family that the flags tell
flag_family : (loc : Bool) (family : Family) (filtered : Bool) → (loc ≡ true → family ≡ V4)
    → (if loc then V4 else (if is_set v_flag (if loc then (if filtered then f_flag else 0) else family_flag family) then V6 else V4)) ≡ family
flag_family true family filtered v4 = sym (v4 refl)
flag_family false V4 filtered v4 = refl
flag_family false V6 filtered v4 = refl

is_v4 : (key : KeyValue) (info : PeerInfoValue) → CanCarry key info → (key.kind == loc_rib) ≡ true → key.address.family ≡ V4
is_v4 key info can e = (subst (λ (b : Bool). MatchBool b ((key.address.family ≡ V4) × (name_size info.table ≤ 65535)) ((info.filtered ≡ false) × (info.table ≡ None))) e can.instance).0

pub up_header : (key : KeyValue) (info : PeerInfoValue) (flags : ℕ) (raw : List ℕ) → CanCarry key info → key.distinguisher < 2 ^ 64 → length raw ≡ 16 → address_in key.address.family raw ≡ key.address → raw ≡ address_bytes key.address
    → info.asn < 4294967296 → length info.identifier ≡ 4 → flags ≡ up_flags key info.filtered → IsUpHeader key info (up_fields key flags raw info.asn info.identifier)
up_header key info flags raw can fits len address octets small four f =
    let h = up_header_with key flags raw info.asn info.identifier in
    let known : leb key.kind loc_rib ≡ true = grind (arith, can.known) in
    let family : family_of h ≡ key.address.family =
    subst (λ (g : ℕ). (if key.kind == loc_rib then V4 else (if is_set v_flag g then V6 else V4)) ≡ key.address.family) (sym f) (flag_family (key.kind == loc_rib) key.address.family info.filtered (is_v4 key info can)) in
    let at : address_in (family_of h) raw ≡ key.address = ap (λ (g : Family). address_in g raw) family ∙ address in
    let make : AddressValue → KeyValue = λ a. record { kind = key.kind; distinguisher = key.distinguisher; address = a } in
    record {
      header = h;
      is = is_header key flags raw info.asn info.identifier fits len small four;
      len = omega (arith, length-append raw (big_bytes 4 info.asn ++ (info.identifier ++ replicate 8 0)), length-append info.identifier (replicate 8 0), len, four);
      key_is = ap (λ (b : Bool). if b then Some (make (address_in (family_of h) raw)) else None) known ∙ ap (λ (a : AddressValue). Some (make a)) at;
      kind_is = refl;
      flags_are = f;
      address_is = octets;
      asn_is = refl;
      identifier_is = refl;
      no_seconds = refl;
      no_micros = refl;
    }

-- the F flag is set exactly where the Loc-RIB is filtered
flag_filtered : (A B : Type 0) (loc : Bool) (family : Family) (filtered : Bool) → MatchBool loc A ((filtered ≡ false) × B)
    → filtered ≡ (loc && is_set f_flag (if loc then (if filtered then f_flag else 0) else family_flag family))
flag_filtered A B true family true p = refl
flag_filtered A B true family false p = refl
flag_filtered A B false family filtered p = p.0

-- the table name that the TLVs tell
tlvs_table : (A B : Type 0) (loc : Bool) (table : Option (List ℕ)) → MatchBool loc A (B × (table ≡ None)) → table ≡ (if loc then last_value table_name (name_tlvs table) else None)
tlvs_table A B true None p = refl
tlvs_table A B true (Some name) p = refl
tlvs_table A B false table p = p.1

-- no TLV is passed over
tlvs_known : (A B : Type 0) (loc : Bool) (table : Option (List ℕ)) → MatchBool loc A (B × (table ≡ None)) → 0 ≡ count_by (λ (t : TlvValue). not (t.kind == string || (loc && t.kind == table_name))) (name_tlvs table)
tlvs_known A B true None p = refl
tlvs_known A B true (Some name) p = refl
tlvs_known A B false table p = ap (λ (o : Option (List ℕ)). count_by (λ (t : TlvValue). not (t.kind == string || (false && t.kind == table_name))) (name_tlvs o)) (sym p.1)

plain_open : (o : OpenValue) → IsSome o → as_read o ≡ unextended o
plain_open o some = ap (λ (l : List CapValue). record o { families = l; extended = false }) (open_plain o some.body some.is)

-- what stands behind the header
is_peer_up : (key : KeyValue) (info : PeerInfoValue) (h : HeaderValue) → CanCarry key info → IsSome info.sent → IsSome info.received → h.kind ≡ key.kind → h.flags ≡ up_flags key info.filtered
    → h.asn ≡ info.asn → h.identifier ≡ info.identifier → (local sent received table : List ℕ) → IsLocal info local → IsOpenOf info.sent sent → IsOpenOf info.received received → IsTable info.table table
    → IsPeerUp h (local ++ (sent ++ (received ++ table))) (record { info = with_unextended info; unread = 0 })
is_peer_up key info h can s r kind flags asn identifier local sent received table l so ro t =
    let opens = sent ++ (received ++ table) in
    let ports = big_bytes 2 info.local_port ++ big_bytes 2 info.remote_port in
    let whole : local ++ opens ≡ l.address ++ (big_bytes 2 info.local_port ++ (big_bytes 2 info.remote_port ++ opens)) = ap (λ (x : List ℕ). x ++ opens) l.is ∙ append_assoc l.address ports opens in
    let whole2 : local ++ opens ≡ (l.address ++ big_bytes 2 info.local_port) ++ (big_bytes 2 info.remote_port ++ opens) = whole ∙ sym (append_assoc l.address (big_bytes 2 info.local_port) (big_bytes 2 info.remote_port ++ opens)) in
    let size : length local ≡ 20 = ap (λ (x : List ℕ). length x) l.is ∙ length-append l.address ports ∙ ap (λ (n : ℕ). n + 4) l.len in
    let size2 : length (l.address ++ big_bytes 2 info.local_port) ≡ 18 = length-append l.address (big_bytes 2 info.local_port) ∙ ap (λ (n : ℕ). n + 2) l.len in
    let at0 : take 16 (local ++ opens) ≡ l.address = ap (λ (x : List ℕ). take 16 x) whole ∙ take_at l.address (big_bytes 2 info.local_port ++ (big_bytes 2 info.remote_port ++ opens)) 16 l.len in
    let at16 : drop 16 (local ++ opens) ≡ big_bytes 2 info.local_port ++ (big_bytes 2 info.remote_port ++ opens) =
    ap (λ (x : List ℕ). drop 16 x) whole ∙ drop_at l.address (big_bytes 2 info.local_port ++ (big_bytes 2 info.remote_port ++ opens)) 16 l.len in
    let at18 : drop 18 (local ++ opens) ≡ big_bytes 2 info.remote_port ++ opens = ap (λ (x : List ℕ). drop 18 x) whole2 ∙ drop_at (l.address ++ big_bytes 2 info.local_port) (big_bytes 2 info.remote_port ++ opens) 18 size2 in
    let at20 : drop 20 (local ++ opens) ≡ opens = drop_at local opens 20 size in
    let instance : MatchBool (h.kind == loc_rib) ((key.address.family ≡ V4) × (name_size info.table ≤ 65535)) ((info.filtered ≡ false) × (info.table ≡ None)) =
    subst (λ (k : ℕ). MatchBool (k == loc_rib) ((key.address.family ≡ V4) × (name_size info.table ≤ 65535)) ((info.filtered ≡ false) × (info.table ≡ None))) (sym kind) can.instance in
    let f : h.flags ≡ (if h.kind == loc_rib then (if info.filtered then f_flag else 0) else family_flag key.address.family) =
    subst (λ (k : ℕ). h.flags ≡ (if k == loc_rib then (if info.filtered then f_flag else 0) else family_flag key.address.family)) (sym kind) flags in
    let v4 : (h.kind == loc_rib) ≡ true → key.address.family ≡ V4 = λ e. is_v4 key info can (ap (λ (k : ℕ). k == loc_rib) (sym kind) ∙ e) in
    let family : family_of h ≡ key.address.family =
    subst (λ (g : ℕ). (if h.kind == loc_rib then V4 else (if is_set v_flag g then V6 else V4)) ≡ key.address.family) (sym f) (flag_family (h.kind == loc_rib) key.address.family info.filtered v4) in
    let place : info.local ≡ place_of h (take 16 (local ++ opens)) = sym (ap (λ (x : List ℕ). place_of h x) at0 ∙ ap (λ (g : Family). address_in g l.address) (family ∙ sym can.local) ∙ l.same) in
    let sent_is : IsOpenMessage sent (unextended info.sent) = subst (λ (o : OpenValue). IsOpenMessage sent o) (plain_open info.sent s) so.is in
    let received_is : IsOpenMessage received (unextended info.received) = subst (λ (o : OpenValue). IsOpenMessage received o) (plain_open info.received r) ro.is in
    record {
      header = omega (arith, size, length-append local opens);
      local_is = place;
      local_port_is = sym (ap (λ (x : List ℕ). big_number 2 x) at16 ∙ big_number-reads_back 2 info.local_port (big_bytes 2 info.remote_port ++ opens) l.local);
      remote_port_is = sym (ap (λ (x : List ℕ). big_number 2 x) at18 ∙ big_number-reads_back 2 info.remote_port opens l.remote);
      tlvs = name_tlvs info.table;
      parts = (sent, received ++ table, record { joined = at20 }, sent_is, (received, table, record { joined = refl }, received_is, t.are));
      asn_is = sym asn;
      identifier_is = sym identifier;
      filtered_is = subst (λ (g : ℕ). info.filtered ≡ (h.kind == loc_rib && is_set f_flag g)) (sym f) (flag_filtered _ _ (h.kind == loc_rib) key.address.family info.filtered instance);
      table_is = tlvs_table _ _ (h.kind == loc_rib) info.table instance;
      unread_is = tlvs_known _ _ (h.kind == loc_rib) info.table instance;
    }

-- the meaning of a body, by what stands behind its header
has_peer : (kind : MessageType) (state next : ReadingState) (key : KeyValue) (head rest : List ℕ) (h : HeaderValue) → IsHeader head h → length head ≡ header_size → key_of h ≡ Some key → (m : MessageValue)
    → OfPeer kind state h key rest m next → HasPeer kind state (head ++ rest) m next
has_peer kind state next key head rest h is len key_is m means =
    let front : take header_size (head ++ rest) ≡ head = take_at head rest header_size len in
    let back : drop header_size (head ++ rest) ≡ rest = drop_at head rest header_size len in
    let found : OfPeer kind state h key (drop header_size (head ++ rest)) m next = subst (λ (l : List ℕ). OfPeer kind state h key l m next) (sym back) means in
    record {
      header = h;
      is = subst (λ (l : List ℕ). IsHeader l h) (sym front) is;
      means = subst (λ (o : Option KeyValue). MatchOption o ((m ≡ of_unknown_type) × (next ≡ state)) (λ k. OfPeer kind state h k (drop header_size (head ++ rest)) m next)) (sym key_is) found;
    }

abbrev pub opens_of : PeerInfoValue → OpensValue
opens_of info = record { sent = unextended info.sent; received = unextended info.received }

pub peer_up_read : (key : KeyValue) (info : PeerInfoValue) (bytes : List ℕ) → CanCarry key info → IsSome info.sent → IsSome info.received → IsUpMessage key info bytes
    → IsWritten peer_up_type Always (up key (with_unextended info) ∷ []) (with_opens key (opens_of info)) bytes
peer_up_read key info bytes can s r p =
    let rest = p.local ++ (p.sent ++ (p.received ++ p.table)) in
    let u : PeerUpValue = record { info = with_unextended info; unread = 0 } in
    let h = p.head_is.header in
    let is : IsPeerUp h rest u = is_peer_up key info h can s r p.head_is.kind_is p.head_is.flags_are p.head_is.asn_is p.head_is.identifier_is p.local p.sent p.received p.table p.local_is p.sent_is p.received_is p.table_is in
    record {
      body = p.head ++ rest;
      is = p.is;
      means = λ state _. read_as state (with_opens key (opens_of info) state) 3 bytes (p.head ++ rest) (peer_up key u) (up key (with_unextended info) ∷ []) p.is
          (has_peer peer_up_notification state (with_opens key (opens_of info) state) key p.head rest h p.head_is.is p.head_is.len p.head_is.key_is (peer_up key u) (u, is, refl, refl)) refl;
    }

pub peer_up_appended : (key : KeyValue) (info : PeerInfoValue) (old new : List ℕ) → CanCarry key info → Appends (IsUpMessage key info) old new → IsSome info.sent → IsSome info.received
    → Appends (IsWritten peer_up_type Always (up key (with_unextended info) ∷ []) (with_opens key (opens_of info))) old new
peer_up_appended key info old new can (bytes, joined, p) s r = (bytes, joined, peer_up_read key info bytes can s r p)

pub header_appended : (key : KeyValue) (info : PeerInfoValue) (old new : List ℕ) → Appends (IsUpMessage key info) old new → Appends (HasUpHeader key info) old new
header_appended key info old new (bytes, joined, p) =
    let front : take header_size (drop 6 bytes) ≡ p.head = ap (λ (l : List ℕ). take header_size l) p.is.body_is ∙ take_at p.head (p.local ++ (p.sent ++ (p.received ++ p.table))) header_size p.head_is.len in
    (bytes, joined, record { is = subst (λ (l : List ℕ). IsUpHeader key info l) (sym front) p.head_is })

pub size_appended : (key : KeyValue) (info : PeerInfoValue) (old new : List ℕ) → Appends (IsUpMessage key info) old new → length new ≡ length old + peer_up_size info
size_appended key info old new (bytes, joined, p) =
    let local : length p.local ≡ 20 = ap (λ (x : List ℕ). length x) p.local_is.is ∙ length-append p.local_is.address (big_bytes 2 info.local_port ++ big_bytes 2 info.remote_port) ∙ ap (λ (n : ℕ). n + 4) p.local_is.len in
    omega (
      arith,
      ap (λ (l : List ℕ). length l) joined,
      length-append old bytes,
      frame_length bytes 3 (p.head ++ (p.local ++ (p.sent ++ (p.received ++ p.table)))) p.is,
      length-append p.head (p.local ++ (p.sent ++ (p.received ++ p.table))),
      length-append p.local (p.sent ++ (p.received ++ p.table)),
      length-append p.sent (p.received ++ p.table),
      length-append p.received p.table,
      p.head_is.len,
      local,
      p.sent_is.size,
      p.received_is.size,
      p.table_is.size,
    )

-- the header, as its fields are put behind what stood there
pub header_put : (k key : KeyValue) → k ≡ key → (i info : PeerInfoValue) → i ≡ info → (flags : ℕ) (number raw speaker old m1 m2 m3 new : List ℕ) → CanCarry key info → k.distinguisher < 2 ^ 64 → length raw ≡ 16
    → address_in k.address.family raw ≡ k.address → raw ≡ address_bytes k.address → i.asn < 4294967296 → length i.identifier ≡ 4 → flags ≡ up_flags key i.filtered → number ≡ big_bytes 8 k.distinguisher → speaker ≡ big_bytes 4 i.asn ++ (i.identifier ++ replicate 8 0)
    → m1 ≡ old ++ k.kind ∷ flags ∷ [] → m2 ≡ m1 ++ number → m3 ≡ m2 ++ raw → new ≡ m3 ++ speaker → Appends (IsUpHeader key info) old new
header_put k key same i info is flags number raw speaker old m1 m2 m3 new can fits len address octets small four f n s e1 e2 e3 e4 =
    subst (λ (x : KeyValue). CanCarry x info → flags ≡ up_flags x i.filtered → Appends (IsUpHeader x info) old new) same
    (λ can f. subst (λ (y : PeerInfoValue). CanCarry k y → Appends (IsUpHeader k y) old new) is (λ can. put can f) can) can f
  where
    put : CanCarry k i → flags ≡ up_flags k i.filtered → Appends (IsUpHeader k i) old new
    put can f = (
      up_fields k flags raw i.asn i.identifier,
      two_pieces old m1 new (k.kind ∷ flags ∷ []) (big_bytes 8 k.distinguisher ++ (raw ++ (big_bytes 4 i.asn ++ (i.identifier ++ replicate 8 0)))) e1
          (three_pieces m1 m2 m3 new number raw speaker e2 e3 e4 ∙ ap (λ (x : List ℕ). m1 ++ (x ++ (raw ++ speaker))) n ∙ ap (λ (x : List ℕ). m1 ++ (big_bytes 8 k.distinguisher ++ (raw ++ x))) s),
      up_header k i flags raw can fits len address octets small four f,
    )

pub local_put : (i info : PeerInfoValue) → i ≡ info → (raw ports old mid new : List ℕ) → length raw ≡ 16 → address_in i.local.family raw ≡ i.local → raw ≡ address_bytes i.local → i.local_port < 65536 → i.remote_port < 65536
    → ports ≡ big_bytes 2 i.local_port ++ big_bytes 2 i.remote_port → mid ≡ old ++ raw → new ≡ mid ++ ports → Appends (IsLocal info) old new
local_put i info is raw ports old mid new len address octets local remote p e1 e2 =
    subst (λ (x : PeerInfoValue). Appends (IsLocal x) old new) is
    (raw ++ ports, two_pieces old mid new raw ports e1 e2, record { address = raw; len = len; same = address; exact = octets; local = local; remote = remote; is = ap (λ (x : List ℕ). raw ++ x) p })

tlv_here : (name : List ℕ) → length name ≤ 65535 → IsTlv (big_bytes 2 3 ++ (big_bytes 2 (length name) ++ name)) (record { kind = table_name; value = name })
tlv_here name short = record {
  header = omega arith;
  kind_is = big_number-reads_back 2 3 (big_bytes 2 (length name) ++ name) (omega arith);
  length_is = ap (λ (n : ℕ). n + 4) (big_number-reads_back 2 (length name) name (omega (arith, short))) ∙ omega arith;
  value_is = refl;
}

pub table_put : (table : Option (List ℕ)) (name slice a b old m1 m2 new : List ℕ) → table ≡ Some name → slice ≡ name → name_size table ≤ 65535 → a ≡ big_bytes 2 3 → b ≡ big_bytes 2 (length slice)
    → m1 ≡ old ++ a → m2 ≡ m1 ++ b → new ≡ m2 ++ slice → Appends (IsTable table) old new
table_put table name slice a b old m1 m2 new is same short kind len e1 e2 e3 =
    let fits : length name ≤ 65535 = subst (λ (t : Option (List ℕ)). name_size t ≤ 65535) is short in
    let bytes = big_bytes 2 3 ++ (big_bytes 2 (length name) ++ name) in
    let tlv = tlv_here name fits in
    subst (λ (t : Option (List ℕ)). Appends (IsTable t) old new) (sym is) (
      bytes,
      three_pieces old m1 m2 new a b slice e1 e2 e3 ∙ ap (λ (x : List ℕ). old ++ (x ++ (b ++ slice))) kind ∙ ap (λ (x : List ℕ). old ++ (big_bytes 2 3 ++ (x ++ slice))) len ∙ ap (λ (x : List ℕ). old ++ (big_bytes 2 3 ++ (big_bytes 2 (length x) ++ x))) same,
      record { are = (bytes, [], record { joined = sym (append-nil bytes) }, tlv, refl); size = omega arith },
    )

-- all parts, one behind another
pub message_put : (i info : PeerInfoValue) → i ≡ info → (key : KeyValue) (n : ℕ) (common old m1 m2 m3 m4 m5 new : List ℕ) → CanCarry key info → n ≡ 68 + (open_size i.sent + open_size i.received) + name_tlvs_size i.table → common ≡ header_bytes 3 n
    → m1 ≡ old ++ common → Appends (IsUpHeader key info) m1 m2 → Appends (IsLocal info) m2 m3 → Appends (IsOpenOf i.sent) m3 m4 → Appends (IsOpenOf i.received) m4 m5 → Appends (IsTable i.table) m5 new
    → Appends (IsUpMessage key info) old new
message_put i info is key n common old m1 m2 m3 m4 m5 new can size c e1 head local sent received table =
    subst (λ (x : PeerInfoValue). CanCarry key x → Appends (IsUpHeader key x) m1 m2 → Appends (IsLocal x) m2 m3 → Appends (IsUpMessage key x) old new) is (λ can head local. put can head local) can head local
  where
    small : (o : OpenValue) → capabilities_size o ≤ 253 → open_size o ≤ 284
    small o fits = few (capabilities_size o) fits
      where
        few : (k : ℕ) → k ≤ 253 → 29 + parameters_size k ≤ 284
        few zero le = omega arith
        few (suc k) le = omega (arith, le)

    short : (t : Option (List ℕ)) → name_size t ≤ 65535 → name_tlvs_size t ≤ 65539
    short None le = omega arith
    short (Some name) le = omega (arith, le)

    named : (b : Bool) → MatchBool b ((key.address.family ≡ V4) × (name_size i.table ≤ 65535)) ((i.filtered ≡ false) × (i.table ≡ None)) → name_size i.table ≤ 65535
    named true p = p.1
    named false p = subst (λ (t : Option (List ℕ)). name_size t ≤ 65535) (sym p.1) (omega arith)

    put : CanCarry key i → Appends (IsUpHeader key i) m1 m2 → Appends (IsLocal i) m2 m3 → Appends (IsUpMessage key i) old new
    put can (h, f1, head_is) (l, f2, local_is) =
        let (s, f3, sent_is) = sent in
        let (r, f4, received_is) = received in
        let (t, f5, table_is) = table in
        let body = h ++ (l ++ (s ++ (r ++ t))) in
        let joined : new ≡ m1 ++ body = two_pieces m1 m2 new h (l ++ (s ++ (r ++ t))) f1 (two_pieces m2 m3 new l (s ++ (r ++ t)) f2 (three_pieces m3 m4 m5 new s r t f3 f4 f5)) in
        let local_len : length l ≡ 20 = ap (λ (x : List ℕ). length x) local_is.is ∙ length-append local_is.address (big_bytes 2 i.local_port ++ big_bytes 2 i.remote_port) ∙ ap (λ (k : ℕ). k + 4) local_is.len in
        let len : length body ≡ 62 + (open_size i.sent + (open_size i.received + name_tlvs_size i.table)) =
        omega (arith, length-append h (l ++ (s ++ (r ++ t))), length-append l (s ++ (r ++ t)), length-append s (r ++ t), length-append r t, head_is.len, local_len, sent_is.size, received_is.size, table_is.size) in
        let frame = frame_here 3 n body (omega (arith, size, len)) (omega (arith, size, small i.sent can.sent, small i.received can.received, short i.table (named (key.kind == loc_rib) can.instance))) in (
          header_bytes 3 n ++ body,
          two_pieces old m1 new common body e1 joined ∙ ap (λ (x : List ℕ). old ++ (x ++ body)) c,
          record { head = h; local = l; sent = s; received = r; table = t; is = frame; head_is = head_is; local_is = local_is; sent_is = sent_is; received_is = received_is; table_is = table_is },
        )

-- a table name that a message can carry has room in a TLV
pub name_fits : (key : KeyValue) (info : PeerInfoValue) → CanCarry key info → name_size info.table ≤ 65535
name_fits key info can = named (key.kind == loc_rib) can.instance
  where
    named : (b : Bool) → MatchBool b ((key.address.family ≡ V4) × (name_size info.table ≤ 65535)) ((info.filtered ≡ false) × (info.table ≡ None)) → name_size info.table ≤ 65535
    named true p = p.1
    named false p = subst (λ (t : Option (List ℕ)). name_size t ≤ 65535) (sym p.1) (omega arith)
