-- What the effects of a relayed stream leave, by the peers that it tells of.
use Rattle.std.proofs.Common.{◌≡◌, inl, inr, List, [], ◌∷◌, ◌++◌, map, flat_map, None, refl, sym, ap, ◌∙◌, subst, append_assoc}
use Rattle.std.specs.declared.cmp.Ordering.{Ordering}
use Rattle.std.specs.declared.cmp.Ordering.TheVariants.{Less, Equal}
use Rattle.std.specs.Cmp.{IsTotalOrder}
use Rattle.std.specs.List.{AllByRecursion, Contains}
use Rattle.std.specs.List.Sorted.{IsStrictlySortedBy}
use Rattle.std.proofs.lemmas.Cmp.{tied_itself}
use Rattle.std.proofs.lemmas.Map.Keys.{sorted_head, sorted_tail}
use Rattle.std.proofs.lemmas.List.Elements.{Contains-append_left, Contains-append_right}
use Rattle.bmp_specs.specs.Orders.{key_cmp}
use Rattle.bmp_specs.specs.PeerUp.{IsUp, IsUpWith, Names}
use Rattle.bmp_specs.specs.Rows.{HasRow, ReplacesRow, RowKeyValue, RowValue}
use Rattle.bmp_specs.specs.Session.{description_in, name_in}
use Rattle.bmp_specs.specs.TableRows.{row_key_cmp}
use Rattle.bmp_specs.specs.Values.{EffectValue, KeyValue, mark, up}
use Rattle.bmp_specs.proofs.LatestLaws.{all_weaker}
use Rattle.bmp_specs.proofs.ListedOne.{contains_cases}
use Rattle.bmp_specs.proofs.OrderLaws.{key_total, row_key_total}
use Rattle.bmp_specs.proofs.RowLaws.{row_kept_by_all, row_now, up_now, up_still}
use Rattle.bmp_writer.specs.PeerUpMessage.{with_unextended}
use Rattle.relay_out.specs.Told.{PeerToldValue, PlaceValue, up_told}
use Rattle.relay_out.proofs.ItemRead.{announced, marked}
use Rattle.query_eval.proofs.Keeping.{all_join, to_map}
use Rattle.relay_out.proofs.Members.{all_flat, all_mapped, none_there}

-- the effects of a peer
abbrev pub routes_told : PeerToldValue → List EffectValue
routes_told p = map announced p.rows ++ map (marked p.key) p.complete

abbrev pub peer_effects : PeerToldValue → List EffectValue
peer_effects p = up p.key (with_unextended p.info) ∷ routes_told p

abbrev pub peers_effects : List PeerToldValue → List EffectValue
peers_effects ps = flat_map peer_effects ps

-- ---- what comes first isn't what comes later
differs : {K : Type 0} (cmp : K → K → Ordering) → IsTotalOrder cmp → (a b : K) → cmp a b ≡ Less → ¬ (b ≡ a)
differs cmp total a b less same = let tied : cmp a b ≡ Equal = subst (λ k. cmp a k ≡ Equal) (sym same) (tied_itself total a) in let both : Less ≡ Equal = sym less ∙ tied in cc

-- the peer comes before all of these
abbrev pub ComesBefore : KeyValue → List PeerToldValue → Type 0
ComesBefore key ps = AllByRecursion (λ k. key_cmp key k ≡ Less) (map (λ u. u.0) (map up_told ps))

abbrev pub AreInOrder : List PeerToldValue → Type 0
AreInOrder ps = IsStrictlySortedBy key_cmp (map (λ u. u.0) (map up_told ps))

-- an effect of a peer is of it
abbrev pub IsOf : KeyValue → EffectValue → Type 0
IsOf key e = (k : KeyValue) → ¬ (key ≡ k) → ¬ (Names k e) × ((place : RowKeyValue) → place.key ≡ k → ¬ (ReplacesRow place e))

-- its rows are of it, and stand in order
pub record AreRowsTold (p : PeerToldValue) : Type 0 where
  pub of_peer : AllByRecursion (λ row. row.row_key.key ≡ p.key) p.rows
  pub ordered : IsStrictlySortedBy row_key_cmp (map (λ row. row.row_key) p.rows)

rows_of : (key : KeyValue) (rows : List RowValue) → AllByRecursion (λ row. row.row_key.key ≡ key) rows → AllByRecursion (IsOf key) (map announced rows)
rows_of key [] all = tt
rows_of key (row ∷ rows) all = (λ k other. (λ n. n, λ place at r. other (sym all.0 ∙ r.0 ∙ at)), rows_of key rows all.1)

marks_of : (key : KeyValue) (ts : List PlaceValue) → AllByRecursion (IsOf key) (map (marked key) ts)
marks_of key [] = tt
marks_of key (t ∷ ts) = (λ k other. (λ n. n, λ place at r. r), marks_of key ts)

peer_of : (p : PeerToldValue) → AreRowsTold p → AllByRecursion (IsOf p.key) (peer_effects p)
peer_of p told = (λ k other. (other, λ place at same. other (same ∙ at)), all_join (IsOf p.key) (map announced p.rows) (map (marked p.key) p.complete) (rows_of p.key p.rows told.of_peer) (marks_of p.key p.complete))

-- the effects of later peers aren't of an earlier one
abbrev pub LeavesPeer : KeyValue → EffectValue → Type 0
LeavesPeer key e = ¬ (Names key e) × ((place : RowKeyValue) → place.key ≡ key → ¬ (ReplacesRow place e))

others_leave : (key : KeyValue) (ps : List PeerToldValue) → ComesBefore key ps → AllByRecursion AreRowsTold ps → AllByRecursion (LeavesPeer key) (peers_effects ps)
others_leave key [] before told = tt
others_leave key (p ∷ ps) before told =
    all_join (LeavesPeer key) (peer_effects p) (peers_effects ps)
    (all_weaker (IsOf p.key) (LeavesPeer key) (λ e of. of key (differs key_cmp key_total key p.key before.0)) (peer_effects p) (peer_of p told.0))
    (others_leave key ps before.1 told.1)

-- ---- a peer is up, and its tables are complete
pub record StandsUp (effects : List EffectValue) (p : PeerToldValue) : Type 0 where
  pub up : IsUpWith effects p.key (with_unextended p.info)
  pub behind : (t : PlaceValue) → Contains p.complete t → Contains up.after (mark p.key t.view t.family)

routes_name_none : (p : PeerToldValue) → AllByRecursion (λ e. ¬ (Names p.key e)) (routes_told p)
routes_name_none p =
    all_join (λ e. ¬ (Names p.key e)) (map announced p.rows) (map (marked p.key) p.complete)
    (all_mapped announced (λ e. ¬ (Names p.key e)) p.rows (λ row c n. n)) (all_mapped (marked p.key) (λ e. ¬ (Names p.key e)) p.complete (λ t c n. n))

stands_first : (es more : List EffectValue) (p : PeerToldValue) → AllByRecursion (LeavesPeer p.key) more → StandsUp (es ++ (peer_effects p ++ more)) p
stands_first es more p leave = record {
  up = record {
    before = es;
    after = routes_told p ++ more;
    split = refl;
    last = all_join (λ e. ¬ (Names p.key e)) (routes_told p) more (routes_name_none p) (all_weaker (LeavesPeer p.key) (λ e. ¬ (Names p.key e)) (λ e l. l.0) more leave);
  };
  behind = λ t c. Contains-append_left (routes_told p) more (marked p.key t) (Contains-append_right (map announced p.rows) (map (marked p.key) p.complete) (marked p.key t) (to_map (marked p.key) p.complete t c));
}

pub stands_among : (es : List EffectValue) (ps : List PeerToldValue) (p : PeerToldValue) → AreInOrder ps → AllByRecursion AreRowsTold ps → Contains ps p → StandsUp (es ++ peers_effects ps) p
stands_among es [] p ordered told c = absurd (none_there p c)
stands_among es (q ∷ ps) p ordered told c = elim (contains_cases q ps p c) [
  | inl is ↦ subst (StandsUp (es ++ peers_effects (q ∷ ps))) is
      (stands_first es (peers_effects ps) q (others_leave q.key ps (sorted_head key_cmp q.key (map (λ u. u.0) (map up_told ps)) ordered) told.1))
  | inr d ↦ subst (λ xs. StandsUp xs p) (append_assoc es (peer_effects q) (peers_effects ps))
      (stands_among (es ++ peer_effects q) ps p (sorted_tail key_cmp q.key (map (λ u. u.0) (map up_told ps)) ordered) told.1 d)
]

-- ---- its rows stand
module _ (key : KeyValue) where
  later_rows : (row : RowValue) (rows : List RowValue) → AllByRecursion (λ k. row_key_cmp row.row_key k ≡ Less) (map (λ r. r.row_key) rows) → AllByRecursion (λ e. ¬ (ReplacesRow row.row_key e)) (map announced rows)
  later_rows row [] before = tt
  later_rows row (r ∷ rows) before = (
    λ h.
        let same : r.row_key ≡ row.row_key = (λ i. record { key = h.0 i; view = h.1 i; nlri = h.2 i }) in
        differs row_key_cmp row_key_total row.row_key r.row_key before.0 same,
    later_rows row rows before.1,
  )

  rows_stand : (es : List EffectValue) (rows : List RowValue) (row : RowValue) → IsUp es key → AllByRecursion (λ r. r.row_key.key ≡ key) rows → IsStrictlySortedBy row_key_cmp (map (λ r. r.row_key) rows) → Contains rows row → HasRow (es ++ map announced rows) row
  rows_stand es [] row is_up of_peer ordered c = absurd (none_there row c)
  rows_stand es (r ∷ rows) row is_up of_peer ordered c = elim (contains_cases r rows row c) [
    | inl is ↦ subst (HasRow (es ++ map announced (r ∷ rows))) is
        (subst (λ xs. HasRow xs r) (append_assoc es (announced r ∷ []) (map announced rows))
        ((row_kept_by_all (es ++ announced r ∷ []) (map announced rows) r (later_rows r rows (sorted_head row_key_cmp r.row_key (map (λ x. x.row_key) rows) ordered))).0
        (row_now es r (subst (IsUp es) (sym of_peer.0) is_up))))
    | inr d ↦ subst (λ xs. HasRow xs row) (append_assoc es (announced r ∷ []) (map announced rows))
        (rows_stand (es ++ announced r ∷ []) rows row (up_still es (announced r) key (λ n. n) is_up) of_peer.1 (sorted_tail row_key_cmp r.row_key (map (λ x. x.row_key) rows) ordered) d)
  ]

row_first : (es more : List EffectValue) (p : PeerToldValue) (row : RowValue) → AreRowsTold p → row.row_key.key ≡ p.key → AllByRecursion (LeavesPeer p.key) more → Contains p.rows row → HasRow (es ++ (peer_effects p ++ more)) row
row_first es more p row told of_peer leave c =
    let came = up p.key (with_unextended p.info) in
    let rows = map announced p.rows in
    let marks = map (marked p.key) p.complete in
    let there : HasRow ((es ++ came ∷ []) ++ rows) row = rows_stand p.key (es ++ came ∷ []) p.rows row (up_now es p.key (with_unextended p.info)) told.of_peer told.ordered c in
    let marked_so : HasRow (((es ++ came ∷ []) ++ rows) ++ marks) row = (row_kept_by_all ((es ++ came ∷ []) ++ rows) marks row (all_mapped (marked p.key) (λ e. ¬ (ReplacesRow row.row_key e)) p.complete (λ t d r. r))).0 there in
    let stays : HasRow ((((es ++ came ∷ []) ++ rows) ++ marks) ++ more) row = (row_kept_by_all (((es ++ came ∷ []) ++ rows) ++ marks) more row (all_weaker (LeavesPeer p.key) (λ e. ¬ (ReplacesRow row.row_key e)) (λ e l. l.1 row.row_key of_peer) more leave)).0 marked_so in
    let joined : (((es ++ came ∷ []) ++ rows) ++ marks) ++ more ≡ es ++ (came ∷ ((rows ++ marks) ++ more)) =
    append_assoc ((es ++ came ∷ []) ++ rows) marks more ∙ append_assoc (es ++ came ∷ []) rows (marks ++ more) ∙ append_assoc es (came ∷ []) (rows ++ (marks ++ more)) ∙ ap (λ (l : List EffectValue). es ++ came ∷ l) (sym (append_assoc rows marks more)) in
    subst (λ xs. HasRow xs row) joined stays

pub row_among : (es : List EffectValue) (ps : List PeerToldValue) (p : PeerToldValue) (row : RowValue) → AreInOrder ps → AllByRecursion AreRowsTold ps → row.row_key.key ≡ p.key → Contains ps p → Contains p.rows row → HasRow (es ++ peers_effects ps) row
row_among es [] p row ordered told of_peer c d = absurd (none_there p c)
row_among es (q ∷ ps) p row ordered told of_peer c d = elim (contains_cases q ps p c) [
  | inl is ↦ row_first es (peers_effects ps) q row told.0 (of_peer ∙ ap (λ (x : PeerToldValue). x.key) (sym is)) (others_leave q.key ps (sorted_head key_cmp q.key (map (λ u. u.0) (map up_told ps)) ordered) told.1) (subst (λ (x : PeerToldValue). Contains x.rows row) (sym is) d)
  | inr e ↦ subst (λ xs. HasRow xs row) (append_assoc es (peer_effects q) (peers_effects ps))
      (row_among (es ++ peer_effects q) ps p row (sorted_tail key_cmp q.key (map (λ u. u.0) (map up_told ps)) ordered) told.1 of_peer e d)
]

-- ---- no name, no description
pub none_named : (ps : List PeerToldValue) → AllByRecursion (λ e. name_in e ≡ None) (peers_effects ps)
none_named ps = all_flat peer_effects (λ e. name_in e ≡ None) ps (λ p c. (refl, all_join (λ e. name_in e ≡ None) (map announced p.rows) (map (marked p.key) p.complete) (all_mapped announced (λ e. name_in e ≡ None) p.rows (λ row d. refl)) (all_mapped (marked p.key) (λ e. name_in e ≡ None) p.complete (λ t d. refl))))

pub none_described : (ps : List PeerToldValue) → AllByRecursion (λ e. description_in e ≡ None) (peers_effects ps)
none_described ps = all_flat peer_effects (λ e. description_in e ≡ None) ps (λ p c. (refl, all_join (λ e. description_in e ≡ None) (map announced p.rows) (map (marked p.key) p.complete) (all_mapped announced (λ e. description_in e ≡ None) p.rows (λ row d. refl)) (all_mapped (marked p.key) (λ e. description_in e ≡ None) p.complete (λ t d. refl))))
