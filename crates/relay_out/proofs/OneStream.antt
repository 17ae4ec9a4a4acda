-- A session has one relayed stream: of lists of octets, one.
use Rattle.std.proofs.Common.{◌≡◌, ℕ, List, [], ◌∷◌, map, refl, sym, ap, subst, ◌∙◌}
use Rattle.std.specs.Cmp.{IsTotalOrder}
use Rattle.std.specs.List.{AllByRecursion}
use Rattle.std.proofs.lemmas.Cmp.{on_total, then_total}
use Rattle.bmp_specs.specs.Complete.{IsComplete}
use Rattle.bmp_specs.specs.Listed.{AreAll}
use Rattle.bmp_specs.specs.Orders.{key_cmp}
use Rattle.bmp_specs.specs.Parts.{AreParts}
use Rattle.bmp_specs.specs.PeerUp.{IsUpWith}
use Rattle.bmp_specs.specs.TableRows.{AreRows}
use Rattle.bmp_specs.specs.Values.{EffectValue, KeyValue, PeerInfoValue}
use Rattle.bmp_specs.proofs.ListedOne.{all_one, rows_one}
use Rattle.bmp_specs.proofs.OrderLaws.{family_total, key_total, view_total}
use Rattle.bmp_writer.specs.PeerMessage.{mark_update}
use Rattle.bmp_writer.specs.Written.{route_monitoring_type}
use Rattle.relay_out.specs.Messages.{IsItem, IsRelayStream, ItemValue, announces, brings_up, completes, stream_items, tells}
use Rattle.bmp_specs.specs.Octets.{AreOctets}
use Rattle.relay_out.specs.Told.{IsPeerTold, IsTold, PeerToldValue, PlaceValue, StreamValue, place_cmp, up_told}
use Rattle.relay_out.proofs.OneForm.{IsOne, parts_one, peer_message_one}
use Rattle.relay_out.proofs.OneMessage.{routes_one, told_one, up_one}

item_one : (item : ItemValue) → IsOne (λ bytes. IsItem bytes item)
item_one (tells name description) = told_one name description
item_one (brings_up key info) = up_one key info
item_one (announces info row) = routes_one row.row_key.key row.row_key.view [] (row.row_key.nlri ∷ []) row.route
item_one (completes key view family) = peer_message_one route_monitoring_type key view (mark_update family)

-- ---- what a stream tells of a session is one
place_total : IsTotalOrder place_cmp
place_total = then_total (on_total (λ (p : PlaceValue). p.view) view_total) (on_total (λ (p : PlaceValue). p.family) family_total)

module _ (effects : List EffectValue) where
  peer_same : (p q : PeerToldValue) → up_told p ≡ up_told q → IsPeerTold effects p → IsPeerTold effects q → p ≡ q
  peer_same p q e x y =
      let key : p.key ≡ q.key = ap (λ (u : KeyValue × PeerInfoValue). u.0) e in
      let info : p.info ≡ q.info = ap (λ (u : KeyValue × PeerInfoValue). u.1) e in
      let rows : p.rows ≡ q.rows = rows_one (λ row. row.row_key.key ≡ q.key) effects p.rows q.rows (subst (λ (k : KeyValue). AreRows (λ row. row.row_key.key ≡ k) effects p.rows) key x.rows) y.rows in
      let complete : p.complete ≡ q.complete = all_one (λ (t : PlaceValue). t) place_cmp place_total (λ t. IsComplete effects q.key t.view t.family) p.complete q.complete
      (subst (λ (k : KeyValue). AreAll (λ (t : PlaceValue). t) place_cmp (λ t. IsComplete effects k t.view t.family) p.complete) key x.complete) y.complete in
      λ i. record { key = key i; info = info i; rows = rows i; complete = complete i }

  peers_same : (ps qs : List PeerToldValue) → map up_told ps ≡ map up_told qs → AllByRecursion (IsPeerTold effects) ps → AllByRecursion (IsPeerTold effects) qs → ps ≡ qs
  peers_same [] [] e x y = refl
  peers_same [] (q ∷ qs) e x y = absurd (cc e)
  peers_same (p ∷ ps) [] e x y = absurd (cc e)
  peers_same (p ∷ ps) (q ∷ qs) e x y =
      let first : up_told p ≡ up_told q = cc e in
      let rest : map up_told ps ≡ map up_told qs = cc e in
      let one = peer_same p q first x.0 y.0 in
      let others = peers_same ps qs rest x.1 y.1 in
      λ i. one i ∷ others i

  told_same : (s t : StreamValue) → IsTold effects s → IsTold effects t → s ≡ t
  told_same s t x y =
      let name : s.name ≡ t.name = x.name ∙ sym y.name in
      let description : s.description ≡ t.description = x.description ∙ sym y.description in
      let ups : map up_told s.peers ≡ map up_told t.peers = all_one (λ (u : KeyValue × PeerInfoValue). u.0) key_cmp key_total (λ u. IsUpWith effects u.0 u.1) (map up_told s.peers) (map up_told t.peers) x.peers y.peers in
      let peers : s.peers ≡ t.peers = peers_same s.peers t.peers ups x.each y.each in
      λ i. record { name = name i; description = description i; peers = peers i }

  pub one_stream : (a b : List ℕ) → AreOctets a → AreOctets b → IsRelayStream effects a → IsRelayStream effects b → a ≡ b
  one_stream a b oa ob x y =
      let same : x.told ≡ y.told = told_same x.told y.told x.is_told y.is_told in
      parts_one IsItem item_one (stream_items y.told) a b oa ob (subst (λ (s : StreamValue). AreParts IsItem a (stream_items s)) same x.are) y.are
