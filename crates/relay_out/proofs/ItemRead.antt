-- What whoever reads the messages of a relayed stream reads.
use Rattle.std.proofs.Common.{◌≡◌, ℕ, eqb, false, Bool, if◌then◌else◌, List, [], ◌∷◌, ◌++◌, length, map, flat_map, Some, refl, sym, ap, ◌∙◌, subst, append-nil}
use Rattle.std.specs.Prelude.{⊤}
use Rattle.std.specs.List.{AllByRecursion}
use Rattle.std.proofs.lemmas.Cmp.{eq_by_cmp_equiv}
use Rattle.std.proofs.lemmas.Grind.{flat_map-append}
use Rattle.bmp_specs.specs.declared.wire.Family.{Family}
use Rattle.bmp_specs.specs.declared.wire.Side.{Side}
use Rattle.bmp_specs.specs.declared.wire.Side.TheVariants.{Inward, Outward, Local}
use Rattle.bmp_specs.specs.MessageBody.{ReadingState}
use Rattle.bmp_specs.specs.MessageEffects.{IsMessageEntry}
use Rattle.bmp_specs.specs.Parts.{AreParts}
use Rattle.bmp_specs.specs.PathIds.{uses_path_ids}
use Rattle.bmp_specs.specs.Rows.{RowValue}
use Rattle.bmp_specs.specs.Session.{effects_in}
use Rattle.bmp_specs.specs.Tlv.{AreTlvs}
use Rattle.bmp_specs.specs.Values.{EffectValue, EntryValue, KeyValue, OpenValue, OpensValue, PeerInfoValue, announce, described, initiation, mark, message, named, up}
use Rattle.bmp_specs.specs.Walk.{HasWalked, termination}
use Rattle.bmp_specs.proofs.OrderLaws.{key_total}
use Rattle.bmp_specs.proofs.SessionLaws.{IsMessage}
use Rattle.bmp_specs.proofs.WalkRead.{HasWalked-nil, HasWalked-more, HasWalked-then}
use Rattle.bmp_writer.specs.PeerUpMessage.{unextended, with_unextended}
use Rattle.bmp_writer.specs.Written.{Always, HasUp, IsToldMessage, IsWritten, initiation_type, peer_up_type, route_monitoring_type, unchanged, with_opens}
use Rattle.bmp_writer.specs.WrittenRoutes.{side_of_view}
use Rattle.bmp_writer.proofs.Heads.{read_as}
use Rattle.bmp_writer.proofs.Peers.{mark_written}
use Rattle.bmp_writer.proofs.PeerUpRead.{opens_of, peer_up_read}
use Rattle.bmp_writer.proofs.RoutesWritten.{given_kept, routes_written, told_keeps}
use Rattle.bmp_writer.proofs.Tlvs.{told}
use Rattle.relay_out.specs.Messages.{IsItem, ItemValue, announces, brings_up, completed, completes, peer_items, tells}
use Rattle.relay_out.specs.Told.{PeerToldValue, PlaceValue}
use Rattle.relay_out.specs.Writable.{IsWritable}
use Rattle.query_eval.proofs.Keeping.{all_join}

abbrev pub item_type : ItemValue → ℕ
item_type (tells name description) = initiation_type
item_type (brings_up key info) = peer_up_type
item_type (announces info row) = route_monitoring_type
item_type (completes key view family) = route_monitoring_type

abbrev pub announced : RowValue → EffectValue
announced row = announce row.row_key.key row.row_key.view row.row_key.nlri row.route

abbrev pub marked : KeyValue → PlaceValue → EffectValue
marked key t = mark key t.view t.family

abbrev pub item_effects : ItemValue → List EffectValue
item_effects (tells name description) = named name ∷ described description ∷ []
item_effects (brings_up key info) = up key (with_unextended info) ∷ []
item_effects (announces info row) = announced row ∷ []
item_effects (completes key view family) = mark key view family ∷ []

-- the state that the message leaves
abbrev pub after_item : ItemValue → ReadingState → ReadingState
after_item (tells name description) s = s
after_item (brings_up key info) s = with_opens key (opens_of info) s
after_item (announces info row) s = s
after_item (completes key view family) s = s

-- the state under which the message is read so
abbrev pub IsReadable : ReadingState → ItemValue → Type 0
IsReadable s (tells name description) = ⊤
IsReadable s (brings_up key info) = ⊤
IsReadable s (announces info row) = s row.row_key.key ≡ Some (opens_of info)
IsReadable s (completes key view family) = HasUp key s

-- ---- one message
told_read : (name description bytes : List ℕ) → IsToldMessage name description bytes → IsWritten initiation_type Always (named name ∷ described description ∷ []) unchanged bytes
told_read name description bytes t =
    let are : AreTlvs t.body (told name description) = subst (λ (l : List ℕ). AreTlvs l (told name description)) t.is.body_is t.told in
    record {
      body = t.body;
      is = t.is;
      means = λ state _. read_as state state 4 bytes t.body (initiation (record { name = Some name; descr = Some description; unread = 0 })) (named name ∷ described description ∷ []) t.is (
        record { name = Some name; descr = Some description; unread = 0 },
        record { tlvs = told name description; are = are; name_is = refl; descr_is = refl; unread_is = refl },
        refl,
        refl,
      )
          refl;
    }

-- an OPEN without extended parameters has the same ADD-PATH entries
same_ids : (sent received : OpenValue) (family : Family) (side : Side) → uses_path_ids (unextended sent) (unextended received) family side ≡ uses_path_ids sent received family side
same_ids sent received family Inward = refl
same_ids sent received family Outward = refl
same_ids sent received family Local = refl

pub item_written : (item : ItemValue) (bytes : List ℕ) → IsItem bytes item → IsWritable item → IsWritten (item_type item) (λ s. IsReadable s item) (item_effects item) (after_item item) bytes
item_written (tells name description) bytes is can = told_read name description bytes is
item_written (brings_up key info) bytes is can = peer_up_read key info bytes can.carries can.sent can.received is
item_written (completes key view family) bytes is can = mark_written key view family bytes is
item_written (announces info row) bytes is can =
    let place = row.row_key in
    let w = routes_written place.key place.view [] (place.nlri ∷ []) row.route bytes can.carries (told_keeps (place.nlri ∷ []) row.route (given_kept row.route can.given)) is in
    record {
      body = w.body;
      is = w.is;
      means = λ s there. w.means s (opens_of info, there, same_ids info.sent info.received place.nlri.prefix.address.family (side_of_view place.view) ∙ can.ids);
    }

-- ---- messages, one after another
-- whoever reads the bytes in the one state reads whole messages with these effects, and is then in the other state
pub record IsWalked (s t : ReadingState) (bytes : List ℕ) (effects : List EffectValue) : Type 0 where
  pub entries : List EntryValue
  pub walked : HasWalked IsMessageEntry s t bytes entries
  pub effects_are : flat_map effects_in entries ≡ effects
  pub messages : AllByRecursion IsMessage entries

goes_on : (item : ItemValue) → eqb (item_type item) termination ≡ false
goes_on (tells name description) = refl
goes_on (brings_up key info) = refl
goes_on (announces info row) = refl
goes_on (completes key view family) = refl

walked_one : (item : ItemValue) (bytes : List ℕ) (s : ReadingState) → IsItem bytes item → IsWritable item → IsReadable s item → IsWalked s (after_item item s) bytes (item_effects item)
walked_one item bytes s is can there =
    let w = item_written item bytes is can in
    let r = w.means s there in
    let m : EntryValue = message r.head (item_effects item) in
    record {
      entries = m ∷ [];
      walked = HasWalked-more IsMessageEntry s s (after_item item s) [] bytes w.body [] (item_type item) m (HasWalked-nil IsMessageEntry s) w.is r.is (goes_on item);
      effects_are = append-nil (item_effects item);
      messages = (tt, tt);
    }

walked_then : (s t u : ReadingState) (a b : List ℕ) (fx gx : List EffectValue) → IsWalked s t a fx → IsWalked t u b gx → IsWalked s u (a ++ b) (fx ++ gx)
walked_then s t u a b fx gx p q = record {
  entries = p.entries ++ q.entries;
  walked = HasWalked-then IsMessageEntry s t u a b p.entries q.entries p.walked q.walked;
  effects_are = flat_map-append effects_in p.entries q.entries ∙ (λ i. p.effects_are i ++ q.effects_are i);
  messages = all_join IsMessage p.entries q.entries p.messages q.messages;
}

abbrev pub after_items : List ItemValue → ReadingState → ReadingState
after_items [] s = s
after_items (i ∷ is) s = after_items is (after_item i s)

abbrev pub AreReadable : ReadingState → List ItemValue → Type 0
AreReadable s [] = ⊤
AreReadable s (i ∷ is) = IsReadable s i × AreReadable (after_item i s) is

pub walked_all : (items : List ItemValue) (bytes : List ℕ) (s : ReadingState) → AreParts IsItem bytes items → AllByRecursion IsWritable items → AreReadable s items → IsWalked s (after_items items s) bytes (flat_map item_effects items)
walked_all [] bytes s are can there =
    subst (λ (b : List ℕ). IsWalked s s b []) (sym are) (record { entries = []; walked = HasWalked-nil IsMessageEntry s; effects_are = refl; messages = tt })
walked_all (item ∷ items) bytes s (front, rest, split, is, are) can there =
    subst (λ (b : List ℕ). IsWalked s (after_items items (after_item item s)) b (item_effects item ++ flat_map item_effects items)) (sym split.joined)
    (walked_then s (after_item item s) (after_items items (after_item item s)) front rest (item_effects item) (flat_map item_effects items) (walked_one item front s is can.0 there.0) (walked_all items rest (after_item item s) are can.1 there.1))

-- ---- where they can be read
readable_both : (xs ys : List ItemValue) (s : ReadingState) → AreReadable s xs → AreReadable (after_items xs s) ys → AreReadable s (xs ++ ys)
readable_both [] ys s a b = b
readable_both (x ∷ xs) ys s a b = (a.0, readable_both xs ys (after_item x s) a.1 b)

-- a peer that came up is up with these OPENs
up_there : (key : KeyValue) (opens : OpensValue) (s : ReadingState) → with_opens key opens s key ≡ Some opens
up_there key opens s = ap (λ (b : Bool). if b then Some opens else s key) ((eq_by_cmp_equiv key_total).refl key)

rows_readable : (info : PeerInfoValue) (key : KeyValue) (rows : List RowValue) (s : ReadingState) → s key ≡ Some (opens_of info) → AllByRecursion (λ row. row.row_key.key ≡ key) rows → AreReadable s (map (announces info) rows)
rows_readable info key [] s there of_peer = tt
rows_readable info key (row ∷ rows) s there of_peer = (subst (λ (k : KeyValue). s k ≡ Some (opens_of info)) (sym of_peer.0) there, rows_readable info key rows s there of_peer.1)

rows_leave : (info : PeerInfoValue) (rows : List RowValue) (s : ReadingState) → after_items (map (announces info) rows) s ≡ s
rows_leave info [] s = refl
rows_leave info (row ∷ rows) s = rows_leave info rows s

complete_readable : (key : KeyValue) (ts : List PlaceValue) (s : ReadingState) → HasUp key s → AreReadable s (map (completed key) ts)
complete_readable key [] s there = tt
complete_readable key (t ∷ ts) s there = (there, complete_readable key ts s there)

abbrev pub AreOfPeer : PeerToldValue → Type 0
AreOfPeer p = AllByRecursion (λ row. row.row_key.key ≡ p.key) p.rows

peer_readable : (p : PeerToldValue) (s : ReadingState) → AreOfPeer p → AreReadable s (peer_items p)
peer_readable p s of_peer =
    let after : ReadingState = with_opens p.key (opens_of p.info) s in
    let there : after p.key ≡ Some (opens_of p.info) = up_there p.key (opens_of p.info) s in
    let marks : AreReadable (after_items (map (announces p.info) p.rows) after) (map (completed p.key) p.complete) =
    subst (λ (t : ReadingState). AreReadable t (map (completed p.key) p.complete)) (sym (rows_leave p.info p.rows after)) (complete_readable p.key p.complete after (opens_of p.info, there)) in
    (tt, readable_both (map (announces p.info) p.rows) (map (completed p.key) p.complete) after (rows_readable p.info p.key p.rows after there of_peer) marks)

pub peers_readable : (ps : List PeerToldValue) (s : ReadingState) → AllByRecursion AreOfPeer ps → AreReadable s (flat_map peer_items ps)
peers_readable [] s all = tt
peers_readable (p ∷ ps) s all = readable_both (peer_items p) (flat_map peer_items ps) s (peer_readable p s all.0) (peers_readable ps (after_items (peer_items p) s) all.1)
