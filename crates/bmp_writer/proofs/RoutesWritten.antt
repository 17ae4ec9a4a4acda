-- What a Route Monitoring message that is written does.
use Rattle.std.proofs.Common.{◌≡◌, ℕ, ◌+◌, ◌==◌, ◌≤◌, not, cond, filter, if◌then◌else◌, Bool, true, false, List, [], ◌∷◌, ◌++◌, length, map, drop, Option, Some, None, MatchOption, refl, sym, ap, subst, ◌∙◌, append-nil, arith, length-append, length-drop}
use Rattle.std.specs.List.{AllByRecursion, IsDistinct}
use Rattle.bmp_specs.specs.declared.peers.View.{View}
use Rattle.bmp_specs.specs.declared.wire.Family.{Family}
use Rattle.bmp_specs.specs.declared.wire.Family.TheVariants.{V4, V6}
use Rattle.bmp_specs.specs.declared.wire.Width.TheVariants.{Two, Four}
use Rattle.bmp_specs.specs.AddressFamily.{uses_ids}
use Rattle.bmp_specs.specs.Attributes.{is_read, kept}
use Rattle.bmp_specs.specs.BgpMessage.{update_type}
use Rattle.bmp_specs.specs.MessageBody.{IsRouteMonitoring, id_use, route_monitoring, width_of}
use Rattle.bmp_specs.specs.MessageEffects.{effects_of}
use Rattle.bmp_specs.specs.PeerHeader.{is_set, view_of}
use Rattle.bmp_specs.specs.Update.{IsUpdate, with_hop_of}
use Rattle.bmp_specs.specs.Values.{AttrsValue, EffectValue, KeyValue, MessageValue, MpValue, NlriValue, OpensValue, OtherValue, UpdateValue, announce, of_unknown_peer, routes, withdraw}
use Rattle.bmp_writer.specs.Written.{Appends, IsWritten, route_monitoring_type, unchanged}
use Rattle.bmp_writer.specs.WrittenAttributes.{AreMulti, with_hop}
use Rattle.bmp_writer.specs.WrittenRoutes.{AreKept, CanCarryRoutes, HasNeededHop, HasUpWith, IsAlike, IsGiven, IsRoutesMessage, family_of, ids_of, routes_effects}
use Rattle.bmp_writer.specs.WrittenUpdate.{counted, hop_bytes, is_plain, of_v4, of_v6, others_of, places, told_of, where_so}
use Rattle.bmp_writer.proofs.AttributesRead.{cleared_clear}
use Rattle.bmp_writer.proofs.Heads.{read_as}
use Rattle.bmp_writer.proofs.Peers.{has_peer}
use Rattle.bmp_writer.proofs.RoutesRead.{is_update, told_here, update_of, uses_same}

both_v4 : (family : Family) (ns : List NlriValue) → of_v4 family ns ++ of_v6 family ns ≡ ns
both_v4 V4 ns = append-nil ns
both_v4 V6 ns = refl

both_where : (effect : NlriValue → EffectValue) (b : Bool) (ns : List NlriValue) → map effect (where_so b ns) ++ map effect (where_so (not b) ns) ≡ map effect ns
both_where effect true ns = append-nil (map effect ns)
both_where effect false ns = refl

plain_effects : (key : KeyValue) (view : View) (b : Bool) (ns : List NlriValue) (attrs : AttrsValue) → map (λ n. announce key view n (told_of b ns attrs)) (where_so b ns) ≡ map (λ n. announce key view n attrs) (where_so b ns)
plain_effects key view false ns attrs = refl
plain_effects key view true [] attrs = refl
plain_effects key view true (n ∷ ns) attrs = refl

some_hop : (family : Family) (n : NlriValue) (ns : List NlriValue) (hop : Option (List ℕ)) → is_plain family hop ≡ false → HasNeededHop family (n ∷ ns) hop → Some (hop_bytes hop) ≡ hop
some_hop V4 n ns None e needed = absurd cc
some_hop V4 n ns (Some hop) e needed = refl
some_hop V6 n ns None e needed = absurd cc
some_hop V6 n ns (Some hop) e needed = refl

with_hop_back : (family : Family) (ns : List NlriValue) (attrs : AttrsValue) (n : NlriValue) (m : Option MpValue) → is_plain family attrs.hop ≡ false → HasNeededHop family (n ∷ ns) attrs.hop → AreMulti family (hop_bytes attrs.hop) (n ∷ ns) m
    → with_hop_of m (with_hop false attrs) ≡ attrs
with_hop_back family ns attrs n None e needed none = absurd (omega (arith, ap (λ (l : List NlriValue). length l) none))
with_hop_back family ns attrs n (Some m) e needed are =
    ap (λ (x : MpValue). record attrs { hop = Some x.hop }) are.is ∙ ap (λ (o : Option (List ℕ)). record attrs { hop = o }) (some_hop family n ns attrs.hop e needed)

multi_effects : (key : KeyValue) (view : View) (family : Family) (ns : List NlriValue) (attrs : AttrsValue) (m : Option MpValue) (b : Bool) → is_plain family attrs.hop ≡ b → HasNeededHop family ns attrs.hop
    → AreMulti family (hop_bytes attrs.hop) (where_so (not b) ns) m → map (λ n. announce key view n (with_hop_of m (told_of b ns attrs))) (where_so (not b) ns) ≡ map (λ n. announce key view n attrs) (where_so (not b) ns)
multi_effects key view family ns attrs m true e needed are = refl
multi_effects key view family [] attrs m false e needed are = refl
multi_effects key view family (n ∷ ns) attrs m false e needed are =
    ap (λ (a : AttrsValue). map (λ x. announce key view x a) (n ∷ ns)) (with_hop_back family ns attrs n m e needed are)

two_lists : (b c : List EffectValue) → (b ++ c ++ []) ++ [] ≡ b ++ c
two_lists [] c = append-nil (c ++ []) ∙ append-nil c
two_lists (x ∷ b) c = ap (λ (l : List EffectValue). x ∷ l) (two_lists b c)

three_lists : (a b c : List EffectValue) → (a ++ b ++ c ++ []) ++ [] ≡ a ++ (b ++ c)
three_lists [] b c = two_lists b c
three_lists (x ∷ a) b c = ap (λ (l : List EffectValue). x ∷ l) (three_lists a b c)

effects_same : (key : KeyValue) (view : View) (family : Family) (withdrawn announced : List NlriValue) (attrs : AttrsValue) (m : Option MpValue) → HasNeededHop family announced attrs.hop
    → AreMulti family (hop_bytes attrs.hop) (where_so (not (is_plain family attrs.hop)) announced) m → effects_of (routes key view (update_of (places family withdrawn announced attrs) m)) ≡ routes_effects key view withdrawn announced attrs
effects_same key view family withdrawn announced attrs m needed are =
    let b = is_plain family attrs.hop in
    let out = λ (n : NlriValue). withdraw key view n in
    let into = λ (n : NlriValue). announce key view n attrs in
    let p1 = plain_effects key view b announced attrs in
    let p2 = multi_effects key view family announced attrs m b refl needed are in
    let first = map (λ n. announce key view n (told_of b announced attrs)) (where_so b announced) in
    let second = map (λ n. announce key view n (with_hop_of m (told_of b announced attrs))) (where_so (not b) announced) in
    let both : first ++ second ≡ map into announced = ap (λ (l : List EffectValue). l ++ second) p1 ∙ ap (λ (l : List EffectValue). map into (where_so b announced) ++ l) p2 ∙ both_where into b announced in
    three_lists (map out (of_v4 family withdrawn ++ of_v6 family withdrawn)) first second ∙ ap (λ (l : List NlriValue). map out l ++ (first ++ second)) (both_v4 family withdrawn) ∙ ap (λ (l : List EffectValue). map out withdrawn ++ l) both

all_front : (P : NlriValue → Type 0) (ns ms : List NlriValue) → AllByRecursion P (ns ++ ms) → AllByRecursion P ns × AllByRecursion P ms
all_front P [] ms a = (tt, a)
all_front P (n ∷ ns) ms (p, a) = let (front, back) = all_front P ns ms a in ((p, front), back)

bounds : (bytes w f n : List ℕ) → length bytes ≤ 65535 → drop 19 bytes ≡ counted w ++ (counted f ++ n) → (length w ≤ 65535) × (length f ≤ 65535)
bounds bytes w f n fits e =
    let len : length (drop 19 bytes) ≡ length (counted w ++ (counted f ++ n)) = ap (λ (l : List ℕ). length l) e in
    (omega (arith, len, fits, length-drop 19 bytes, length-append (counted w) (counted f ++ n)), omega (arith, len, fits, length-drop 19 bytes, length-append (counted w) (counted f ++ n), length-append (counted f) n))

pub routes_written : (key : KeyValue) (view : View) (withdrawn announced : List NlriValue) (attrs : AttrsValue) (bytes : List ℕ) → CanCarryRoutes key view withdrawn announced attrs → AreKept (others_of announced attrs)
    → IsRoutesMessage key view withdrawn announced attrs bytes
    → IsWritten route_monitoring_type (HasUpWith key view (family_of (withdrawn ++ announced)) (ids_of (withdrawn ++ announced))) (routes_effects key view withdrawn announced attrs) unchanged bytes
routes_written key view withdrawn announced attrs bytes can keeps r =
    let family = family_of (withdrawn ++ announced) in
    let ids = ids_of (withdrawn ++ announced) in
    let p = places family withdrawn announced attrs in
    let up = r.update_is in
    let body = counted up.withdrawn_routes ++ (counted up.path_attributes ++ up.nlri) in
    let t = told_here family p up.path_attributes up.attributes_are in
    let u = update_of p t.reach in
    let (w_short, f_short) = bounds r.update up.withdrawn_routes up.path_attributes up.nlri (omega (arith, up.size, can.fits)) up.is.body_is in
    let h = r.is.head_is.header in
    let effects : effects_of (routes key view u) ≡ routes_effects key view withdrawn announced attrs = effects_same key view family withdrawn announced attrs t.reach can.needed t.multi_are in
    record {
      body = r.is.head ++ r.update;
      is = r.is.is;
      means = λ state st.
          let (opens, here, says) = st in
          let m : MessageValue = routes key view u in
          let at : m ≡ routes key (view_of h) u = ap (λ (v : View). routes key v u) (sym r.is.head_is.view_is) in
          let uses = id_use opens h in
          let same : ids ≡ uses_ids uses family = sym says ∙ sym (uses_same opens h view family r.is.head_is.view_is) in
          let alike : AllByRecursion (IsAlike family (uses_ids uses family)) (withdrawn ++ announced) = subst (λ (b : Bool). AllByRecursion (IsAlike family b) (withdrawn ++ announced)) same can.alike in
          let (out, into) = all_front (IsAlike family (uses_ids uses family)) withdrawn announced alike in
          let is : IsUpdate Four uses body u = is_update uses family withdrawn announced attrs up.withdrawn_routes up.path_attributes up.nlri t keeps out into can.some up.withdrawn_are up.nlri_are w_short f_short in
          let width : IsUpdate (width_of h) uses body u = subst (λ (b : Bool). IsUpdate (if b then Two else Four) uses body u) (sym r.is.head_is.plain.four_byte) is in
          let monitoring : IsRouteMonitoring opens h r.update u = record { message = record { kind = update_type; body = body }; is = up.is; is_update = refl; body_is = width } in
          let read : MatchOption (state key) (m ≡ of_unknown_peer) (λ opens. (u : UpdateValue) × IsRouteMonitoring opens h r.update u × (m ≡ routes key (view_of h) u)) =
          subst (λ (o : Option OpensValue). MatchOption o (m ≡ of_unknown_peer) (λ opens. (u : UpdateValue) × IsRouteMonitoring opens h r.update u × (m ≡ routes key (view_of h) u))) (sym here) (u, monitoring, at) in
          read_as state state 0 bytes (r.is.head ++ r.update) m (routes_effects key view withdrawn announced attrs) r.is.is (has_peer route_monitoring state state key view r.is.head r.update m r.is.head_is (refl, read)) effects;
    }

-- attributes that a field has are kept as they came
unread_all : (parts : List OtherValue) → AllByRecursion (λ a. is_read a ≡ false) (map kept (filter (λ a. not (is_read a)) parts))
unread_all [] = tt
unread_all (a ∷ more) = go (unread_all more) (is_read a) refl
  where
    go : AllByRecursion (λ x. is_read x ≡ false) (map kept (filter (λ x. not (is_read x)) more)) → (b : Bool) → is_read a ≡ b → AllByRecursion (λ x. is_read x ≡ false) (map kept (cond (not b) (a ∷ filter (λ x. not (is_read x)) more) (filter (λ x. not (is_read x)) more)))
    go rest true e = rest
    go rest false e = (e, rest)

clear_all : (parts : List OtherValue) → AllByRecursion (λ a. is_set 16 a.flags ≡ false) (map kept parts)
clear_all [] = tt
clear_all (a ∷ more) = (cleared_clear a.flags, clear_all more)

apart_still : (code : ℕ) (parts : List OtherValue) → AllByRecursion (λ y. (code == y) ≡ false) (map (λ a. a.code) parts) → AllByRecursion (λ y. (code == y) ≡ false) (map (λ a. a.code) (map kept (filter (λ a. not (is_read a)) parts)))
apart_still code [] p = tt
apart_still code (a ∷ more) (q, p) = go (apart_still code more p) (is_read a)
  where
    go : AllByRecursion (λ y. (code == y) ≡ false) (map (λ x. x.code) (map kept (filter (λ x. not (is_read x)) more))) → (b : Bool) → AllByRecursion (λ y. (code == y) ≡ false) (map (λ x. x.code) (map kept (cond (not b) (a ∷ filter (λ x. not (is_read x)) more) (filter (λ x. not (is_read x)) more))))
    go rest true = rest
    go rest false = (q, rest)

distinct_still : (parts : List OtherValue) → IsDistinct (λ (j k : ℕ). j == k) (map (λ a. a.code) parts) → IsDistinct (λ (j k : ℕ). j == k) (map (λ a. a.code) (map kept (filter (λ a. not (is_read a)) parts)))
unfolding IsDistinct
distinct_still [] d = tt
distinct_still (a ∷ more) (q, d) = go (distinct_still more d) (is_read a)
  where
    go : IsDistinct (λ (j k : ℕ). j == k) (map (λ x. x.code) (map kept (filter (λ x. not (is_read x)) more))) → (b : Bool) → IsDistinct (λ (j k : ℕ). j == k) (map (λ x. x.code) (map kept (cond (not b) (a ∷ filter (λ x. not (is_read x)) more) (filter (λ x. not (is_read x)) more))))
    go rest true = rest
    go rest false = (apart_still a.code more q, rest)

pub given_kept : (attrs : AttrsValue) → IsGiven attrs → AreKept attrs.others
given_kept attrs g =
    let others : attrs.others ≡ map kept (filter (λ a. not (is_read a)) g.are.parts) = sym (ap (λ (a : AttrsValue). a.others) g.same) ∙ g.are.others_are in
    subst AreKept (sym others) (record { unread = unread_all g.are.parts; distinct = distinct_still g.are.parts g.are.distinct; clear = clear_all (filter (λ a. not (is_read a)) g.are.parts) })

none_distinct : IsDistinct (λ (j k : ℕ). j == k) []
unfolding IsDistinct
none_distinct = tt

pub told_keeps : (announced : List NlriValue) (attrs : AttrsValue) → AreKept attrs.others → AreKept (others_of announced attrs)
told_keeps [] attrs k = record { unread = tt; distinct = none_distinct; clear = tt }
told_keeps (n ∷ ns) attrs k = k

pub routes_appended : (key : KeyValue) (view : View) (withdrawn announced : List NlriValue) (attrs : AttrsValue) (old new : List ℕ) → CanCarryRoutes key view withdrawn announced attrs → Appends (IsRoutesMessage key view withdrawn announced attrs) old new
    → IsGiven attrs → Appends (IsWritten route_monitoring_type (HasUpWith key view (family_of (withdrawn ++ announced)) (ids_of (withdrawn ++ announced))) (routes_effects key view withdrawn announced attrs) unchanged) old new
routes_appended key view withdrawn announced attrs old new can (bytes, joined, r) given = (bytes, joined, routes_written key view withdrawn announced attrs bytes can (told_keeps announced attrs (given_kept attrs given)) r)
