-- Headers and an UPDATE message are a Route Monitoring message.
use Rattle.std.proofs.Common.{◌≡◌, ℕ, ◌+◌, ◌≤◌, ◌==◌, eqb-true, Bool, true, false, if◌then◌else◌, List, [], ◌∷◌, ◌++◌, length, Option, Some, None, refl, sym, ap, subst, ◌∙◌, append_assoc, arith, length-append}
use Rattle.bmp_specs.specs.declared.peers.View.{View}
use Rattle.bmp_specs.specs.declared.wire.Family.{Family}
use Rattle.bmp_specs.specs.declared.wire.Family.TheVariants.{V4, V6}
use Rattle.bmp_specs.specs.Values.{AttrsValue, KeyValue, NlriValue}
use Rattle.bmp_writer.specs.PeerMessage.{HasPlainHeader}
use Rattle.bmp_writer.specs.Written.{Appends}
use Rattle.bmp_writer.specs.WrittenRoutes.{CanCarryRoutes, IsHeadersOf, IsRoutesMessage, family_of, routes_size}
use Rattle.bmp_writer.specs.WrittenAttributes.{HasHop}
use Rattle.bmp_writer.specs.WrittenUpdate.{AreShort, CanPlace, IsField, IsUpdateOf, PlacesValue, is_plain, places, told_of, update_size}
use Rattle.bmp_writer.proofs.Frames.{frame_here, frame_length, header_bytes}
use Rattle.bmp_writer.proofs.Peers.{plain_appended}
use Rattle.bmp_writer.proofs.Still.{two_pieces}

-- what was put into an empty room is the field
pub whole_field : (family : Family) (p : PlacesValue) (empty mid field : List ℕ) → empty ≡ [] → field ≡ mid → Appends (IsField family p) empty mid → IsField family p field
whole_field family p empty mid field none same (piece, joined, is) = subst (λ (l : List ℕ). IsField family p l) (sym (same ∙ joined ∙ ap (λ (l : List ℕ). l ++ piece) none)) is

-- path segments are short where they are told
told_short : (plain : Bool) (announced : List NlriValue) (attrs : AttrsValue) → AreShort attrs.path → AreShort (told_of plain announced attrs).path
told_short plain [] attrs short = tt
told_short plain (n ∷ ns) attrs short = short

-- a next hop that is told has four bytes
hop_fits : (b : Bool) (hop : List ℕ) → (length hop == 4) ≡ b → HasHop (if b then Some hop else None)
hop_fits true hop e = eqb-true (length hop) 4 e
hop_fits false hop e = tt

plain_hop : (family : Family) (hop : Option (List ℕ)) → HasHop (if is_plain family hop then hop else None)
plain_hop V4 None = tt
plain_hop V4 (Some hop) = hop_fits (length hop == 4) hop refl
plain_hop V6 hop = tt

told_hop : (family : Family) (announced : List NlriValue) (attrs : AttrsValue) → HasHop (told_of (is_plain family attrs.hop) announced attrs).hop
told_hop family [] attrs = tt
told_hop family (n ∷ ns) attrs = plain_hop family attrs.hop

-- an UPDATE message has room for what a Route Monitoring message can carry
pub can_place : (key : KeyValue) (view : View) (withdrawn announced : List NlriValue) (attrs : AttrsValue) (family : Family) → CanCarryRoutes key view withdrawn announced attrs → family ≡ family_of (withdrawn ++ announced)
    → CanPlace (places family withdrawn announced attrs)
can_place key view withdrawn announced attrs family can same =
    let first = family_of (withdrawn ++ announced) in
    let here : CanPlace (places first withdrawn announced attrs) = record { segments = told_short (is_plain first attrs.hop) announced attrs can.segments; next_hop = told_hop first announced attrs; hop = can.hop; fits = can.fits } in
    subst (λ (f : Family). CanPlace (places f withdrawn announced attrs)) (sym same) here

pub message_put : (key : KeyValue) (view : View) (withdrawn announced : List NlriValue) (attrs : AttrsValue) (family : Family) (size : ℕ) (old mid new : List ℕ) → CanCarryRoutes key view withdrawn announced attrs → family ≡ family_of (withdrawn ++ announced)
    → size ≡ update_size (places family withdrawn announced attrs) → Appends (IsHeadersOf key view size) old mid → Appends (IsUpdateOf family (places family withdrawn announced attrs)) mid new
    → Appends (IsRoutesMessage key view withdrawn announced attrs) old new
message_put key view withdrawn announced attrs family size old mid new can same s (headers, e, h) (update, f, u) =
    let fits : update_size (places family withdrawn announced attrs) ≤ 65535 = subst (λ (x : Family). update_size (places x withdrawn announced attrs) ≤ 65535) (sym same) can.fits in
    let body = h.head ++ update in
    let len : 48 + size ≡ 6 + length body = omega (arith, length-append h.head update, h.head_is.len, u.size, s) in
    let bytes : List ℕ = header_bytes 0 (48 + size) ++ body in
    let frame = frame_here 0 (48 + size) body len (omega (arith, s, fits)) in (
      bytes,
      two_pieces old mid new headers update e f ∙ ap (λ (l : List ℕ). old ++ (l ++ update)) h.is ∙ ap (λ (l : List ℕ). old ++ l) (append_assoc (header_bytes 0 (48 + size)) h.head update),
      record {
        update = update;
        is = record { head = h.head; is = frame; head_is = h.head_is };
        update_is = subst (λ (x : Family). IsUpdateOf x (places x withdrawn announced attrs) update) same u;
      },
    )

pub routes_fill : (key : KeyValue) (view : View) (withdrawn announced : List NlriValue) (attrs : AttrsValue) (old new : List ℕ) → Appends (IsRoutesMessage key view withdrawn announced attrs) old new
    → length new ≡ length old + routes_size withdrawn announced attrs
routes_fill key view withdrawn announced attrs old new (bytes, joined, r) =
    let body = length-append r.is.head r.update in
    let all : length new ≡ length old + length bytes = ap (λ (l : List ℕ). length l) joined ∙ length-append old bytes in
    omega (arith, all, body, r.update_is.size, r.is.head_is.len, frame_length bytes 0 (r.is.head ++ r.update) r.is.is)

pub routes_plain : (key : KeyValue) (view : View) (withdrawn announced : List NlriValue) (attrs : AttrsValue) (old new : List ℕ) → Appends (IsRoutesMessage key view withdrawn announced attrs) old new → Appends HasPlainHeader old new
routes_plain key view withdrawn announced attrs old new (bytes, joined, r) = plain_appended 0 key view r.update old new (bytes, joined, r.is)

-- the same of the lists that were lent
pub routes_moved : (key : KeyValue) (view : View) (a withdrawn b announced : List NlriValue) (attrs : AttrsValue) (old new : List ℕ) → a ≡ withdrawn → b ≡ announced → Appends (IsRoutesMessage key view a b attrs) old new
    → Appends (IsRoutesMessage key view withdrawn announced attrs) old new
routes_moved key view a withdrawn b announced attrs old new e f p =
    subst (λ (l : List NlriValue). Appends (IsRoutesMessage key view l announced attrs) old new) e (subst (λ (l : List NlriValue). Appends (IsRoutesMessage key view a l attrs) old new) f p)
