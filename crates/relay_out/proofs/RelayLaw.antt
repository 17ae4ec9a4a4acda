-- The law of relayed streams: whoever reads one is left with what it tells.
use Rattle.std.proofs.Common.{◌≡◌, ℕ, List, [], ◌∷◌, ◌++◌, length, map, flat_map, Option, refl, sym, ap, ◌∙◌, subst, append-nil}
use Rattle.std.specs.Prelude.{⊤, unwrap_or}
use Rattle.std.specs.List.{AllByRecursion, Contains}
use Rattle.std.proofs.lemmas.Grind.{flat_map-append}
use Rattle.bmp_specs.specs.declared.peers.View.{View}
use Rattle.bmp_specs.specs.declared.wire.Family.{Family}
use Rattle.bmp_specs.specs.Complete.{IsComplete}
use Rattle.bmp_specs.specs.MessageBody.{no_peers}
use Rattle.bmp_specs.specs.Meaning.{WalksBy}
use Rattle.bmp_specs.specs.MessageEffects.{IsMessageEntry, strict}
use Rattle.bmp_specs.specs.PeerUp.{IsUpWith}
use Rattle.bmp_specs.specs.Rows.{HasRow, RowValue}
use Rattle.bmp_specs.specs.Session.{effects_in, name_of, session_effects}
use Rattle.bmp_specs.specs.Values.{EffectValue, EntryValue, KeyValue, OpeningValue, PeerInfoValue, announce, described, down, mark, named, opened, statistic, up}
use Rattle.bmp_specs.specs.Walk.{whole}
use Rattle.bmp_specs.proofs.NameLaws.{description_kept_by_all, name_kept_by_all}
use Rattle.bmp_specs.proofs.RowLaws.{up_by_row}
use Rattle.bmp_specs.proofs.SessionLaws.{session_here}
use Rattle.bmp_specs.proofs.WalkRead.{HasWalked-stops}
use Rattle.bmp_writer.specs.PeerUpMessage.{with_unextended}
use Rattle.relay_out.specs.Messages.{IsRelayStream, announces, completed, peer_items, stream_items}
use Rattle.relay_out.specs.Relayed.{IsRelayed, ReadsBack}
use Rattle.relay_out.specs.Told.{IsPeerTold, IsTold, PeerToldValue, PlaceValue, StreamValue, up_told}
use Rattle.relay_out.specs.Writable.{CanAnnounce, CanBringUp, CanComplete, AreWritable, CanTell, IsWritable}
use Rattle.relay_out.proofs.ItemRead.{announced, item_effects, marked, peers_readable, walked_all, after_items}
use Rattle.query_eval.proofs.Keeping.{all_join, from_map, to_map}
use Rattle.query_eval.proofs.RowLists.{all_members}
use Rattle.relay_out.proofs.Members.{all_flat, all_mapped, all_parts, at_place, behind_place, flat_part, member_has}
use Rattle.relay_out.proofs.PeersLeft.{AreRowsTold, StandsUp, none_described, none_named, peer_effects, peers_effects, row_among, stands_among}

-- ---- the effects of the stream's messages
abbrev pub opening : StreamValue → List EffectValue
opening s = named s.name ∷ described s.description ∷ []

abbrev pub stream_effects : StreamValue → List EffectValue
stream_effects s = opening s ++ peers_effects s.peers

row_effects : (info : PeerInfoValue) (rows : List RowValue) → flat_map item_effects (map (announces info) rows) ≡ map announced rows
row_effects info [] = refl
row_effects info (row ∷ rows) = ap (λ (l : List EffectValue). announced row ∷ l) (row_effects info rows)

mark_effects : (key : KeyValue) (ts : List PlaceValue) → flat_map item_effects (map (completed key) ts) ≡ map (marked key) ts
mark_effects key [] = refl
mark_effects key (t ∷ ts) = ap (λ (l : List EffectValue). marked key t ∷ l) (mark_effects key ts)

of_peer : (p : PeerToldValue) → flat_map item_effects (peer_items p) ≡ peer_effects p
of_peer p = ap (λ (l : List EffectValue). up p.key (with_unextended p.info) ∷ l)
    (flat_map-append item_effects (map (announces p.info) p.rows) (map (completed p.key) p.complete) ∙ (λ i. row_effects p.info p.rows i ++ mark_effects p.key p.complete i))

of_peers : (ps : List PeerToldValue) → flat_map item_effects (flat_map peer_items ps) ≡ peers_effects ps
of_peers [] = refl
of_peers (p ∷ ps) = flat_map-append item_effects (peer_items p) (flat_map peer_items ps) ∙ (λ i. of_peer p i ++ of_peers ps i)

same_effects : (s : StreamValue) → flat_map item_effects (stream_items s) ≡ stream_effects s
same_effects s = ap (λ (l : List EffectValue). opening s ++ l) (of_peers s.peers)

-- ---- what an effect of the stream says
abbrev pub Says : StreamValue → EffectValue → Type 0
Says s (up key info) = (p : PeerToldValue) × Contains s.peers p × (p.key ≡ key) × (info ≡ with_unextended p.info)
Says s (announce key view nlri route) = (p : PeerToldValue) × Contains s.peers p × Contains p.rows (record { row_key = record { key = key; view = view; nlri = nlri }; route = route })
Says s (mark key view family) = (p : PeerToldValue) × Contains s.peers p × (p.key ≡ key) × Contains p.complete (record { view = view; family = family })
Says s (named name) = ⊤
Says s (described description) = ⊤
Says s _ = ⊥

all_said : (s : StreamValue) → AllByRecursion (Says s) (stream_effects s)
all_said s = (
  tt,
  (
    tt,
    all_flat peer_effects (Says s) s.peers (λ p c. (
      (p, c, refl, refl),
      all_join (Says s) (map announced p.rows) (map (marked p.key) p.complete) (all_mapped announced (Says s) p.rows (λ row d. (p, c, d))) (all_mapped (marked p.key) (Says s) p.complete (λ t d. (p, c, refl, d))),
    )),
  ),
)

module _ (effects : List EffectValue) (s : StreamValue) (told : IsTold effects s) where
  abbrev left : List EffectValue
  left = stream_effects s

  said : (e : EffectValue) → Contains left e → Says s e
  said e c = member_has (Says s) left e (all_said s) c

  peer_told : (p : PeerToldValue) → Contains s.peers p → IsPeerTold effects p
  peer_told p c = member_has (IsPeerTold effects) s.peers p told.each c

  was_up : (p : PeerToldValue) → Contains s.peers p → IsUpWith effects p.key p.info
  was_up p c = (told.peers.exact (up_told p)).0 (to_map up_told s.peers p c)

  -- a peer that is up is told of
  told_of : (key : KeyValue) (info : PeerInfoValue) → IsUpWith effects key info → (p : PeerToldValue) × Contains s.peers p × (p.key ≡ key) × (p.info ≡ info)
  told_of key info l =
      let h = from_map up_told s.peers (key, info) ((told.peers.exact (key, info)).1 l) in
      (h.0, h.1, ap (λ (u : KeyValue × PeerInfoValue). u.0) h.2, ap (λ (u : KeyValue × PeerInfoValue). u.1) h.2)

  rows_told : (p : PeerToldValue) → Contains s.peers p → AreRowsTold p
  rows_told p c =
      let h = peer_told p c in
      record { of_peer = all_members (λ row. row.row_key.key ≡ p.key) p.rows (λ row d. ((h.rows.exact row).0 d).1); ordered = h.rows.ordered }

  all_rows_told : AllByRecursion AreRowsTold s.peers
  all_rows_told = all_members AreRowsTold s.peers rows_told

  stands : (p : PeerToldValue) → Contains s.peers p → StandsUp left p
  stands p c = stands_among (opening s) s.peers p told.peers.ordered all_rows_told c

  -- ---- peers
  up_left : (key : KeyValue) (info : PeerInfoValue) → IsUpWith left key info → (was : PeerInfoValue) × IsUpWith effects key was × (info ≡ with_unextended was)
  up_left key info l =
      let h = said (up key info) (at_place left l.before l.after (up key info) l.split) in
      (h.0.info, subst (λ (k : KeyValue). IsUpWith effects k h.0.info) h.2 (was_up h.0 h.1), h.3)

  up_stands : (key : KeyValue) (info was : PeerInfoValue) → IsUpWith effects key was → info ≡ with_unextended was → IsUpWith left key info
  up_stands key info was l same =
      let h = told_of key was l in
      let is : with_unextended h.0.info ≡ info = ap (λ (i : PeerInfoValue). with_unextended i) h.3 ∙ sym same in
      subst (λ (k : KeyValue). IsUpWith left k info) h.2 (subst (λ (i : PeerInfoValue). IsUpWith left h.0.key i) is (stands h.0 h.1).up)

  -- ---- rows
  row_left : (row : RowValue) → HasRow left row → HasRow effects row
  row_left row h =
      let e = announced row in
      let t = said e (at_place left h.announced.before h.announced.after e h.announced.split) in
      (((peer_told t.0 t.1).rows.exact row).0 t.2).0

  row_stands : (row : RowValue) → HasRow effects row → HasRow left row
  row_stands row h =
      let u = up_by_row effects row h in
      let t = told_of row.row_key.key u.0 u.1 in
      let listed : Contains t.0.rows row = ((peer_told t.0 t.1).rows.exact row).1 (h, sym t.2) in
      row_among (opening s) s.peers t.0 row told.peers.ordered all_rows_told (sym t.2) t.1 listed

  -- ---- complete tables
  complete_left : (key : KeyValue) (view : View) (family : Family) → IsComplete left key view family → IsComplete effects key view family
  complete_left key view family c =
      let e = mark key view family in
      let t = said e (behind_place left c.up.before c.up.after (up key c.info) e c.up.split c.marked) in
      subst (λ (k : KeyValue). IsComplete effects k view family) t.2 (((peer_told t.0 t.1).complete.exact (record { view = view; family = family })).0 t.3)

  complete_stands : (key : KeyValue) (view : View) (family : Family) → IsComplete effects key view family → IsComplete left key view family
  complete_stands key view family c =
      let t = told_of key c.info c.up in
      let place : PlaceValue = record { view = view; family = family } in
      let here : IsComplete effects t.0.key view family = subst (λ (k : KeyValue). IsComplete effects k view family) (sym t.2) c in
      let listed : Contains t.0.complete place = ((peer_told t.0 t.1).complete.exact place).1 here in
      let up = stands t.0 t.1 in
      subst (λ (k : KeyValue). IsComplete left k view family) t.2 (record { info = with_unextended t.0.info; up = up.up; marked = up.behind place listed })

  pub is_relayed : IsRelayed effects left
  is_relayed = record {
    name = name_kept_by_all (opening s) (peers_effects s.peers) (none_named s.peers) ∙ told.name;
    description = description_kept_by_all (opening s) (peers_effects s.peers) (none_described s.peers) ∙ told.description;
    up = λ key info. (up_left key info, λ h. up_stands key info h.0 h.1 h.2);
    row = λ row. (row_left row, row_stands row);
    complete = λ key view family. (complete_left key view family, complete_stands key view family);
    none_down = λ key info l. said (down key info) (at_place left l.before l.after (down key info) l.split);
    no_statistic = λ key stat h. said (statistic key stat) (at_place left h.reported.before h.reported.after (statistic key stat) h.reported.split);
  }

  -- ---- each message can be written where the session can be relayed
  module _ (can : AreWritable effects) where
    pub rows_writable : (p : PeerToldValue) → Contains s.peers p → (row : RowValue) → Contains p.rows row → CanAnnounce p.info row
    rows_writable p c row d =
        let h = ((peer_told p c).rows.exact row).0 d in
        can.rows p.info row (subst (λ (k : KeyValue). IsUpWith effects k p.info) (sym h.1) (was_up p c)) h.0

    peer_writable : (p : PeerToldValue) → Contains s.peers p → AllByRecursion IsWritable (peer_items p)
    peer_writable p c = (
      can.peers p.key p.info (was_up p c),
      all_join IsWritable (map (announces p.info) p.rows) (map (completed p.key) p.complete)
          (all_mapped (announces p.info) IsWritable p.rows (rows_writable p c))
          (all_mapped (completed p.key) IsWritable p.complete (λ t d. can.complete p.key t.view t.family (((peer_told p c).complete.exact t).0 d))),
    )

    pub all_writable : AllByRecursion IsWritable (stream_items s)
    all_writable = (rw (told.name, told.description) can.tells, all_flat peer_items IsWritable s.peers peer_writable)

  -- ---- and where each can be, the session can be relayed
  pub are_writable : AllByRecursion IsWritable (stream_items s) → AreWritable effects
  are_writable all =
      let items : (p : PeerToldValue) → Contains s.peers p → AllByRecursion IsWritable (peer_items p) = λ p c. flat_part peer_items IsWritable s.peers p all.1 c in
      let parts : (p : PeerToldValue) → Contains s.peers p → AllByRecursion IsWritable (map (announces p.info) p.rows) × AllByRecursion IsWritable (map (completed p.key) p.complete) =
      λ p c. all_parts IsWritable (map (announces p.info) p.rows) (map (completed p.key) p.complete) (items p c).1 in
      record {
        tells = subst (λ (d : List ℕ). CanTell (name_of effects) d) told.description (subst (λ (n : List ℕ). CanTell n s.description) told.name all.0);
        peers = λ key info l.
            let t = told_of key info l in
            subst (λ (k : KeyValue). CanBringUp k info) t.2 (subst (λ (i : PeerInfoValue). CanBringUp t.0.key i) t.3 (items t.0 t.1).0);
        rows = λ info row l h.
            let t = told_of row.row_key.key info l in
            let listed : Contains t.0.rows row = ((peer_told t.0 t.1).rows.exact row).1 (h, sym t.2) in
            subst (λ (i : PeerInfoValue). CanAnnounce i row) t.3 (member_has IsWritable (map (announces t.0.info) t.0.rows) (announces t.0.info row) (parts t.0 t.1).0 (to_map (announces t.0.info) t.0.rows row listed));
        complete = λ key view family c.
            let t = told_of key c.info c.up in
            let place : PlaceValue = record { view = view; family = family } in
            let here : IsComplete effects t.0.key view family = subst (λ (k : KeyValue). IsComplete effects k view family) (sym t.2) c in
            let listed : Contains t.0.complete place = ((peer_told t.0 t.1).complete.exact place).1 here in
            subst (λ (k : KeyValue). CanComplete k view) t.2 (member_has IsWritable (map (completed t.0.key) t.0.complete) (completed t.0.key place) (parts t.0 t.1).1 (to_map (completed t.0.key) t.0.complete place listed));
      }

-- ---- the law
pub reads_back : (effects : List EffectValue) (bytes : List ℕ) → IsRelayStream effects bytes → AreWritable effects → ReadsBack effects bytes
reads_back effects bytes stream can =
    let s = stream.told in
    let told = stream.is_told in
    let items = stream_items s in
    let of_peers = all_members (λ (p : PeerToldValue). AllByRecursion (λ row. row.row_key.key ≡ p.key) p.rows) s.peers (λ p c. (rows_told effects s told p c).of_peer) in
    let w = walked_all items bytes no_peers stream.are (all_writable effects s told can) (tt, peers_readable s.peers no_peers of_peers) in
    let stops = HasWalked-stops IsMessageEntry no_peers (after_items items no_peers) bytes [] w.entries whole w.walked refl in
    let here : (came : OpeningValue) → session_effects (opened came ∷ w.entries) ≡ flat_map effects_in w.entries =
    λ came. ap (λ (o : Option (List EntryValue)). flat_map effects_in (unwrap_or o [])) (session_here (opened came ∷ w.entries) w.entries (record { came = came; before = []; split = refl; messages = w.messages })) in
    record {
      entries = w.entries;
      walk = subst (λ (b : List ℕ). WalksBy strict b w.entries (length bytes) whole) (append-nil bytes) stops;
      relayed = λ came. subst (IsRelayed effects) (sym (here came ∙ w.effects_are ∙ same_effects s)) (is_relayed effects s told);
    }
