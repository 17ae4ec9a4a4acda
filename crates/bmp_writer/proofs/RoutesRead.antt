-- A Route Monitoring message that is written is read as its withdrawals and its announcements.
use Rattle.std.proofs.Common.{◌≡◌, ℕ, zero, suc, ◌+◌, ◌==◌, ◌&&◌, ◌≤◌, ◌<◌, not, eqb-true, is_some, if◌then◌else◌, Bool, true, false, cond, List, [], ◌∷◌, ◌++◌, length, map, Option, Some, None, MatchOption, refl, sym, ap, subst, ◌∙◌, append_assoc, arith, length-append}
use Rattle.std.specs.List.{AllByRecursion}
use Rattle.std.proofs.lemmas.List.Sums.{sum_by-cons}
use Rattle.byteorder.specs.Numbers.{big_number-reads_back}
use Rattle.bmp_specs.specs.declared.peers.View.{View}
use Rattle.bmp_specs.specs.declared.peers.View.TheVariants.{InPre, InPost, OutPre, OutPost, Loc}
use Rattle.bmp_specs.specs.declared.wire.Family.{Family}
use Rattle.bmp_specs.specs.declared.wire.Family.TheVariants.{V4, V6}
use Rattle.bmp_specs.specs.declared.wire.IdUse.{IdUse}
use Rattle.bmp_specs.specs.declared.wire.Side.TheVariants.{Inward, Outward, Local}
use Rattle.bmp_specs.specs.declared.wire.Side.{Side}
use Rattle.bmp_specs.specs.declared.wire.Width.TheVariants.{Four}
use Rattle.bmp_specs.specs.AddressFamily.{afi_of, unicast, unicast_family, uses_ids}
use Rattle.bmp_specs.specs.AsPath.{ArePath}
use Rattle.bmp_specs.specs.Attribute.{IsAttribute}
use Rattle.bmp_specs.specs.Attributes.{AreAttributes, AreCommunities, IsAggregator, IsAtomic, Optional, aggregator, as_path, atomic_aggregate, communities, local_pref, mp_reach_nlri, mp_unreach_nlri, multi_exit_disc, next_hop, origin}
use Rattle.bmp_specs.specs.Counted.{IsCounted}
use Rattle.bmp_specs.specs.MessageBody.{id_use, side_of}
use Rattle.bmp_specs.specs.MpNlri.{IsMpReach, IsMpUnreach}
use Rattle.bmp_specs.specs.Nlri.{AreNlri, IsNlri}
use Rattle.bmp_specs.specs.Number.{IsNumber}
use Rattle.bmp_specs.specs.Parts.{AreParts, Split}
use Rattle.bmp_specs.specs.PathIds.{uses_path_ids}
use Rattle.bmp_specs.specs.PeerHeader.{HeaderValue, is_set, l_flag, loc_rib, o_flag, view_of}
use Rattle.bmp_specs.specs.Sequence.{IsField}
use Rattle.bmp_specs.specs.Update.{AreMpNlri, IsUpdate, empty_family, passed_over, with_hop_of}
use Rattle.bmp_specs.specs.Values.{AttrsReadValue, AttrsValue, MpValue, NlriValue, OpensValue, OtherValue, UpdateValue}
use Rattle.bmp_specs.proofs.PartsJoined.{parts_join}
use Rattle.bmp_writer.specs.WrittenAttributes.{IsPlainReach, AreMulti, AreOthers, AreSomeCommunities, optional, optional_transitive, part_of, transitive, written_other}
use Rattle.bmp_writer.specs.WrittenNlri.{AreOwnNlri, nlri_size}
use Rattle.bmp_writer.specs.WrittenRoutes.{AreKept, IsAlike, side_of_view}
use Rattle.bmp_writer.specs.WrittenUpdate.{PlacesValue, counted, is_plain, of_v4, of_v6, others_of, places, told_of, where_so}
use Rattle.bmp_writer.specs.WrittenUpdate.{IsField as IsFieldOf}
use Rattle.bmp_writer.proofs.FieldRead.{Holds, Rising, Slot, distinct_all, holds_cons, holds_join, holds_one, lookup, others_back, slot, slot_parts, value_is}
use Rattle.bmp_writer.proofs.NlriRead.{nlris_length}

-- the ten attributes that may stand there, in order of type
abbrev pub ten : Option (List ℕ) → Option (List ℕ) → Option (List ℕ) → Option (List ℕ) → Option (List ℕ) → Option (List ℕ) → Option (List ℕ) → Option (List ℕ) → Option (List ℕ) → Option (List ℕ) → List Slot
ten v1 v2 v3 v4 v5 v6 v7 v8 v14 v15 =
    slot transitive origin v1 ∷ slot transitive as_path v2 ∷ slot transitive next_hop v3 ∷ slot optional multi_exit_disc v4 ∷ slot transitive local_pref v5 ∷ slot transitive atomic_aggregate v6
    ∷ slot optional_transitive aggregator v7 ∷ slot optional_transitive communities v8 ∷ slot optional mp_reach_nlri v14 ∷ slot optional mp_unreach_nlri v15 ∷ []

-- what a field has
pub record Told (family : Family) (p : PlacesValue) (bytes : List ℕ) : Type 0 where
  pub v1 : Option (List ℕ)
  pub v2 : Option (List ℕ)
  pub v3 : Option (List ℕ)
  pub v4 : Option (List ℕ)
  pub v5 : Option (List ℕ)
  pub v6 : Option (List ℕ)
  pub v7 : Option (List ℕ)
  pub v8 : Option (List ℕ)
  pub v14 : Option (List ℕ)
  pub v15 : Option (List ℕ)
  pub reach : Option MpValue
  pub unreach : Option MpValue
  pub are : AreParts IsAttribute bytes (slot_parts (ten v1 v2 v3 v4 v5 v6 v7 v8 v14 v15) ++ map written_other p.others)
  pub origin_is : Optional (IsNumber 1) v1 p.told.origin
  pub path_is : Optional (ArePath Four) v2 p.told.path
  pub hop_is : Optional (IsField 4) v3 p.told.hop
  pub med_is : Optional (IsNumber 4) v4 p.told.med
  pub pref_is : Optional (IsNumber 4) v5 p.told.pref
  pub atomic_is : IsAtomic v6 p.told.atomic
  pub aggregator_is : Optional (IsAggregator Four) v7 p.told.aggregator
  pub communities_are : AreSomeCommunities v8 p.told.communities
  pub reach_is : Optional IsMpReach v14 reach
  pub unreach_is : Optional IsMpUnreach v15 unreach
  pub multi_are : AreMulti family p.hop p.multi reach
  pub unreachable_are : AreMulti family [] p.unreachable unreach

holds_split : (ss ts : List Slot) (bytes a b : List ℕ) → Split bytes a b → Holds ss a → Holds ts b → Holds (ss ++ ts) bytes
holds_split ss ts bytes a b s p q = subst (λ (l : List ℕ). Holds (ss ++ ts) l) (sym s.joined) (holds_join ss ts a b p q)

others_parts : (others : List OtherValue) (bytes : List ℕ) → AreOthers others bytes → AreParts IsAttribute bytes (map written_other others)
others_parts [] bytes p = p
others_parts (a ∷ more) bytes (front, rest, split, is, p) = (front, rest, split, is, others_parts more rest p)

plain_reach : (value : Option (List ℕ)) (m : Option MpValue) → Optional IsPlainReach value m → Optional IsMpReach value m
plain_reach None None is = is
plain_reach None (Some m) is = is
plain_reach (Some x) None is = is
plain_reach (Some x) (Some m) is = is.is

pub told_here : (family : Family) (p : PlacesValue) (bytes : List ℕ) → IsFieldOf family p bytes → Told family p bytes
told_here family p bytes (front, behind, s0, (one, two, s1_, (b1, r1, t1, p1, (b2, r2, t2, p2, (b3, b4, t3, p3, p4))), (b5, r5, t5, p5, (b6, r6, t6, p6, (b7, b8, t7, p7, p8)))), (re, r9, s9, reach, (un, ot, s10, unreach, others))) =
    let s1 = slot transitive origin p1.value in
    let s2 = slot transitive as_path p2.value in
    let s3 = slot transitive next_hop p3.value in
    let s4 = slot optional multi_exit_disc p4.value in
    let s5 = slot transitive local_pref p5.value in
    let s6 = slot transitive atomic_aggregate p6.value in
    let s7 = slot optional_transitive aggregator p7.value in
    let s8 = slot optional_transitive communities p8.value in
    let s14 = slot optional mp_reach_nlri reach.is.value in
    let s15 = slot optional mp_unreach_nlri unreach.is.value in
    let h4 = holds_one optional multi_exit_disc p4.value b4 p4.are in
    let h8 = holds_one optional_transitive communities p8.value b8 p8.are in
    let h15 = holds_one optional mp_unreach_nlri unreach.is.value un unreach.is.are in
    let first : Holds (s1 ∷ s2 ∷ s3 ∷ s4 ∷ []) one = holds_cons s1 (s2 ∷ s3 ∷ s4 ∷ []) one b1 r1 t1 p1.are (holds_cons s2 (s3 ∷ s4 ∷ []) r1 b2 r2 t2 p2.are (holds_cons s3 (s4 ∷ []) r2 b3 b4 t3 p3.are h4)) in
    let second : Holds (s5 ∷ s6 ∷ s7 ∷ s8 ∷ []) two = holds_cons s5 (s6 ∷ s7 ∷ s8 ∷ []) two b5 r5 t5 p5.are (holds_cons s6 (s7 ∷ s8 ∷ []) r5 b6 r6 t6 p6.are (holds_cons s7 (s8 ∷ []) r6 b7 b8 t7 p7.are h8)) in
    let eight = holds_split (s1 ∷ s2 ∷ s3 ∷ s4 ∷ []) (s5 ∷ s6 ∷ s7 ∷ s8 ∷ []) front one two s1_ first second in
    let last : Holds (s14 ∷ s15 ∷ []) (re ++ un) = holds_cons s14 (s15 ∷ []) (re ++ un) re un (record { joined = refl }) reach.is.are h15 in
    let all = ten p1.value p2.value p3.value p4.value p5.value p6.value p7.value p8.value reach.is.value unreach.is.value in
    let both : Holds all (front ++ (re ++ un)) = holds_join (s1 ∷ s2 ∷ s3 ∷ s4 ∷ s5 ∷ s6 ∷ s7 ∷ s8 ∷ []) (s14 ∷ s15 ∷ []) front (re ++ un) eight last in
    let joined : bytes ≡ (front ++ (re ++ un)) ++ ot =
    s0.joined ∙ ap (λ (l : List ℕ). front ++ l) (s9.joined ∙ ap (λ (l : List ℕ). re ++ l) s10.joined ∙ sym (append_assoc re un ot)) ∙ sym (append_assoc front (re ++ un) ot) in
    record {
      v1 = p1.value;
      v2 = p2.value;
      v3 = p3.value;
      v4 = p4.value;
      v5 = p5.value;
      v6 = p6.value;
      v7 = p7.value;
      v8 = p8.value;
      v14 = reach.is.value;
      v15 = unreach.is.value;
      reach = reach.multi;
      unreach = unreach.multi;
      are = subst (λ (l : List ℕ). AreParts IsAttribute l (slot_parts all ++ map written_other p.others)) (sym joined)
          (parts_join IsAttribute (front ++ (re ++ un)) ot (slot_parts all) (map written_other p.others) both (others_parts p.others ot others));
      origin_is = p1.is;
      path_is = p2.is;
      hop_is = p3.is;
      med_is = p4.is;
      pref_is = p5.is;
      atomic_is = p6.is;
      aggregator_is = p7.is;
      communities_are = p8.is;
      reach_is = plain_reach reach.is.value reach.multi reach.is.is;
      unreach_is = unreach.is.is;
      multi_are = reach.are;
      unreachable_are = unreach.are;
    }

some_are : (value : Option (List ℕ)) (values : List ℕ) → AreSomeCommunities value values → AreCommunities value values
some_are None values is = is
some_are (Some x) values is = is.0

module _ (family : Family) (p : PlacesValue) (bytes : List ℕ) (t : Told family p bytes) (kept : AreKept p.others) (same : p.told.others ≡ p.others) where
  abbrev pub all : List Slot
  all = ten t.v1 t.v2 t.v3 t.v4 t.v5 t.v6 t.v7 t.v8 t.v14 t.v15

  abbrev parts : List OtherValue
  parts = slot_parts all ++ map written_other p.others

  rising : Rising 0 all
  rising = (omega arith, (omega arith, (omega arith, (omega arith, (omega arith, (omega arith, (omega arith, (omega arith, (omega arith, (omega arith, tt))))))))))

  abbrev pub attrs_read : AttrsReadValue
  attrs_read = record { attrs = p.told; reach = t.reach; unreach = t.unreach; count = length parts }

  pub are_attributes : AreAttributes Four bytes attrs_read
  are_attributes = record {
    parts = parts;
    are = t.are;
    distinct = distinct_all 0 all p.others rising (refl, (refl, (refl, (refl, (refl, (refl, (refl, (refl, (refl, (refl, tt)))))))))) kept;
    origin_is = subst (λ (o : Option (List ℕ)). Optional (IsNumber 1) o p.told.origin) (sym (value_is 0 origin all p.others rising refl kept.unread)) t.origin_is;
    hop_is = subst (λ (o : Option (List ℕ)). Optional (IsField 4) o p.told.hop) (sym (value_is 0 next_hop all p.others rising refl kept.unread)) t.hop_is;
    med_is = subst (λ (o : Option (List ℕ)). Optional (IsNumber 4) o p.told.med) (sym (value_is 0 multi_exit_disc all p.others rising refl kept.unread)) t.med_is;
    pref_is = subst (λ (o : Option (List ℕ)). Optional (IsNumber 4) o p.told.pref) (sym (value_is 0 local_pref all p.others rising refl kept.unread)) t.pref_is;
    atomic_is = subst (λ (o : Option (List ℕ)). IsAtomic o p.told.atomic) (sym (value_is 0 atomic_aggregate all p.others rising refl kept.unread)) t.atomic_is;
    communities_are = subst (λ (o : Option (List ℕ)). AreCommunities o p.told.communities) (sym (value_is 0 communities all p.others rising refl kept.unread)) (some_are t.v8 p.told.communities t.communities_are);
    reach_is = subst (λ (o : Option (List ℕ)). Optional IsMpReach o t.reach) (sym (value_is 0 mp_reach_nlri all p.others rising refl kept.unread)) t.reach_is;
    unreach_is = subst (λ (o : Option (List ℕ)). Optional IsMpUnreach o t.unreach) (sym (value_is 0 mp_unreach_nlri all p.others rising refl kept.unread)) t.unreach_is;
    stated = record { aggregator = p.told.aggregator; as4_aggregator = None; as_path = p.told.path; as4_path = None };
    as_path_is = subst (λ (o : Option (List ℕ)). Optional (ArePath Four) o p.told.path) (sym (value_is 0 as_path all p.others rising refl kept.unread)) t.path_is;
    aggregator_is = subst (λ (o : Option (List ℕ)). Optional (IsAggregator Four) o p.told.aggregator) (sym (value_is 0 aggregator all p.others rising refl kept.unread)) t.aggregator_is;
    as4_path_is = sym (value_is 0 17 all p.others rising refl kept.unread);
    as4_aggregator_is = sym (value_is 0 18 all p.others rising refl kept.unread);
    chosen = (refl, refl);
    others_are = same ∙ others_back all p.others (refl, (refl, (refl, (refl, (refl, (refl, (refl, (refl, (refl, (refl, tt)))))))))) kept;
    count_is = refl;
  }

  pub parts_are : are_attributes.parts ≡ slot_parts all ++ map written_other p.others
  unfolding are_attributes
  parts_are = refl

-- prefixes of one family, all with identifiers or all without
pub own_alike : (family : Family) (ids : Bool) (ns : List NlriValue) (bytes : List ℕ) → AllByRecursion (IsAlike family ids) ns → AreOwnNlri ns bytes → AreNlri family ids bytes ns
own_alike family ids [] bytes a p = p
own_alike family ids (n ∷ ns) bytes ((f, i), a) (front, rest, split, is, p) =
    let here : IsNlri family ids front n = subst (λ (b : Bool). IsNlri family b front n) i (subst (λ (g : Family). IsNlri g (is_some n.id) front n) f is.is) in
    (front, rest, split, here, own_alike family ids ns rest a p)

unicast_here : (family : Family) → unicast_family (afi_of family) unicast ≡ Some family
unicast_here V4 = refl
unicast_here V6 = refl

multi_nlri : (uses : IdUse) (family : Family) (hop : List ℕ) (ns : List NlriValue) (m : Option MpValue) → AllByRecursion (IsAlike family (uses_ids uses family)) ns → AreMulti family hop ns m → AreMpNlri uses m ns
multi_nlri uses family hop ns None a none = none
multi_nlri uses family hop ns (Some m) a are =
    let here : AreNlri family (uses_ids uses family) are.prefixes ns = own_alike family (uses_ids uses family) ns are.prefixes a are.are in
    let found : MatchOption (unicast_family (afi_of family) unicast) (ns ≡ []) (λ f. AreNlri f (uses_ids uses f) are.prefixes ns) =
    subst (λ (o : Option Family). MatchOption o (ns ≡ []) (λ f. AreNlri f (uses_ids uses f) are.prefixes ns)) (sym (unicast_here family)) here in
    subst (λ (x : MpValue). MatchOption (unicast_family x.afi x.safi) (ns ≡ []) (λ f. AreNlri f (uses_ids uses f) x.prefixes ns)) (sym are.is) found

multi_known : (family : Family) (hop : List ℕ) (ns : List NlriValue) (m : Option MpValue) → AreMulti family hop ns m → passed_over m ≡ 0
multi_known family hop ns None none = refl
multi_known V4 hop ns (Some m) are = ap (λ (x : MpValue). passed_over (Some x)) are.is
multi_known V6 hop ns (Some m) are = ap (λ (x : MpValue). passed_over (Some x)) are.is

own_some : (n : NlriValue) (ns : List NlriValue) (bytes : List ℕ) → AreOwnNlri (n ∷ ns) bytes → 0 < length bytes
own_some n ns bytes p = omega (arith, nlris_length (n ∷ ns) bytes p, sum_by-cons nlri_size n ns)

some_bytes : (ns : List NlriValue) (bytes : List ℕ) → 0 < length ns → AreOwnNlri ns bytes → 0 < length bytes
some_bytes [] bytes lt p = absurd (omega (arith, lt))
some_bytes (n ∷ ns) bytes lt p = own_some n ns bytes p

not_zero : (n : ℕ) → 0 < n → (n == 0) ≡ false
not_zero n lt = grind (arith, lt)

multi_full : (family : Family) (hop : List ℕ) (ns : List NlriValue) (m : Option MpValue) → AreMulti family hop ns m → empty_family m ≡ None
multi_full family hop ns None none = refl
multi_full family hop ns (Some m) are =
    let some : 0 < length m.prefixes = subst (λ (x : MpValue). 0 < length x.prefixes) (sym are.is) (some_bytes ns are.prefixes are.some are.are) in
    ap (λ (b : Bool). cond b (unicast_family m.afi m.safi) None) (not_zero (length m.prefixes) some)

-- no End-of-RIB marker, where anything stands there
unmarked : (w n c : Bool) (d : Bool) (o : Option Family) → o ≡ None → (w ≡ true → n ≡ true → c ≡ false) → None ≡ (if w && n then (if c then Some V4 else (if d then o else None)) else None)
unmarked true true true d o none some =
    let e : true ≡ false = some refl refl in
    absurd cc
unmarked true true false true o none some = sym none
unmarked true true false false o none some = refl
unmarked true false c d o none some = refl
unmarked false n c d o none some = refl

slot_some : (code : ℕ) (v : List ℕ) (ss : List Slot) → lookup code ss ≡ Some v → 0 < length (slot_parts ss)
slot_some code v [] e = absurd cc
slot_some code v (s ∷ ss) e = go (λ rest. slot_some code v ss rest) (s.code == code) refl
  where
    go : (lookup code ss ≡ Some v → 0 < length (slot_parts ss)) → (b : Bool) → (s.code == code) ≡ b → 0 < length (slot_parts (s ∷ ss))
    go next true t =
        let here : s.value ≡ Some v = ap (λ (b : Bool). cond b s.value (lookup code ss)) (sym t) ∙ e in
        subst (λ (o : Option (List ℕ)). 0 < length (part_of s.flags s.code o ++ slot_parts ss)) (sym here) (omega arith)
    go next false f =
        let rest : lookup code ss ≡ Some v = ap (λ (b : Bool). cond b s.value (lookup code ss)) (sym f) ∙ e in
        omega (arith, next rest, length-append (part_of s.flags s.code s.value) (slot_parts ss))

there : (Is : List ℕ → MpValue → Type 0) (family : Family) (hop : List ℕ) (ns : List NlriValue) (m : Option MpValue) (v : Option (List ℕ)) → 0 < length ns → AreMulti family hop ns m → Optional Is v m → (x : List ℕ) × (v ≡ Some x)
there Is family hop ns None v some none o = absurd (omega (arith, some, ap (λ (l : List NlriValue). length l) none))
there Is family hop ns (Some m) None some are o = absurd o
there Is family hop ns (Some m) (Some x) some are o = (x, refl)

none_of : (ns : List NlriValue) (bytes : List ℕ) → AreOwnNlri ns bytes → length bytes ≡ 0 → length ns ≡ 0
none_of [] bytes p e = refl
none_of (n ∷ ns) bytes p e = absurd (omega (arith, own_some n ns bytes p, e))

lengths_v4 : (family : Family) (ns : List NlriValue) → length (of_v4 family ns) + length (of_v6 family ns) ≡ length ns
lengths_v4 V4 ns = omega arith
lengths_v4 V6 ns = omega arith

lengths_where : (b : Bool) (ns : List NlriValue) → length (where_so b ns) + length (where_so (not b) ns) ≡ length ns
lengths_where true ns = omega arith
lengths_where false ns = omega arith

all_where : (P : NlriValue → Type 0) (b : Bool) (ns : List NlriValue) → AllByRecursion P ns → AllByRecursion P (where_so b ns)
all_where P true ns a = a
all_where P false ns a = tt

all_v6 : (P : NlriValue → Type 0) (family : Family) (ns : List NlriValue) → AllByRecursion P ns → AllByRecursion P (of_v6 family ns)
all_v6 P V4 ns a = tt
all_v6 P V6 ns a = a

v4_nlri : (uses : IdUse) (family : Family) (ns : List NlriValue) (bytes : List ℕ) → AllByRecursion (IsAlike family (uses_ids uses family)) ns → AreOwnNlri (of_v4 family ns) bytes → AreNlri V4 (uses_ids uses V4) bytes (of_v4 family ns)
v4_nlri uses V4 ns bytes a p = own_alike V4 (uses_ids uses V4) ns bytes a p
v4_nlri uses V6 ns bytes a p = p

plain_nlri : (uses : IdUse) (family : Family) (hop : Option (List ℕ)) (ns : List NlriValue) (bytes : List ℕ) → AllByRecursion (IsAlike family (uses_ids uses family)) ns → AreOwnNlri (where_so (is_plain family hop) ns) bytes
    → AreNlri V4 (uses_ids uses V4) bytes (where_so (is_plain family hop) ns)
plain_nlri uses V6 hop ns bytes a p = p
plain_nlri uses V4 hop ns bytes a p = go (is_plain V4 hop) p
  where
    go : (b : Bool) → AreOwnNlri (where_so b ns) bytes → AreNlri V4 (uses_ids uses V4) bytes (where_so b ns)
    go true q = own_alike V4 (uses_ids uses V4) ns bytes a q
    go false q = q

is_counted : (field : List ℕ) → length field ≤ 65535 → IsCounted (counted field) field
is_counted field short = record { header = omega arith; length_is = ap (λ (n : ℕ). n + 2) (big_number-reads_back 2 (length field) field (omega (arith, short))) ∙ omega arith; value_is = refl }

told_kept : (plain : Bool) (announced : List NlriValue) (attrs : AttrsValue) → (told_of plain announced attrs).others ≡ others_of announced attrs
told_kept plain [] attrs = refl
told_kept plain (n ∷ ns) attrs = refl

-- the UPDATE that the bytes are
abbrev pub update_of : PlacesValue → Option MpValue → UpdateValue
update_of p reach = record { withdrawn = p.withdrawn ++ p.unreachable; plain = p.plain; plain_attrs = p.told; multi = p.multi; multi_attrs = with_hop_of reach p.told; mark = None; unread = 0 }

module _ (uses : IdUse) (family : Family) (withdrawn announced : List NlriValue) (attrs : AttrsValue) (w f n : List ℕ) (t : Told family (places family withdrawn announced attrs) f)
    (kept : AreKept (others_of announced attrs)) (out : AllByRecursion (IsAlike family (uses_ids uses family)) withdrawn) (into : AllByRecursion (IsAlike family (uses_ids uses family)) announced) (some : 0 < length (withdrawn ++ announced))
    (w_are : AreOwnNlri (of_v4 family withdrawn) w) (n_are : AreOwnNlri (where_so (is_plain family attrs.hop) announced) n) (w_short : length w ≤ 65535) (f_short : length f ≤ 65535) where
  abbrev placed : PlacesValue
  placed = places family withdrawn announced attrs

  abbrev read : AttrsReadValue
  read = attrs_read family placed f t kept (told_kept (is_plain family attrs.hop) announced attrs)

  counts : (length w == 0) ≡ true → (length n == 0) ≡ true → (read.count == 0) ≡ false
  counts we ne =
      let no_w : length (of_v4 family withdrawn) ≡ 0 = none_of (of_v4 family withdrawn) w w_are (eqb-true (length w) 0 we) in
      let no_n : length (where_so (is_plain family attrs.hop) announced) ≡ 0 = none_of (where_so (is_plain family attrs.hop) announced) n n_are (eqb-true (length n) 0 ne) in
      let left : 0 < length (of_v6 family withdrawn) + length (where_so (not (is_plain family attrs.hop)) announced) =
      omega (arith, some, length-append withdrawn announced, lengths_v4 family withdrawn, lengths_where (is_plain family attrs.hop) announced, no_w, no_n) in
      let all = ten t.v1 t.v2 t.v3 t.v4 t.v5 t.v6 t.v7 t.v8 t.v14 t.v15 in
      let first : 0 < length (slot_parts all) = go (length (of_v6 family withdrawn)) refl left in
      not_zero (length (slot_parts all ++ map written_other placed.others)) (omega (arith, first, length-append (slot_parts all) (map written_other placed.others)))
    where
      go : (k : ℕ) → k ≡ length (of_v6 family withdrawn) → 0 < k + length (where_so (not (is_plain family attrs.hop)) announced) → 0 < length (slot_parts (ten t.v1 t.v2 t.v3 t.v4 t.v5 t.v6 t.v7 t.v8 t.v14 t.v15))
      go zero e lt =
          let (x, is) = there IsMpReach family placed.hop placed.multi t.reach t.v14 (omega (arith, lt)) t.multi_are t.reach_is in
          slot_some mp_reach_nlri x (ten t.v1 t.v2 t.v3 t.v4 t.v5 t.v6 t.v7 t.v8 t.v14 t.v15) is
      go (suc k) e lt =
          let (x, is) = there IsMpUnreach family [] placed.unreachable t.unreach t.v15 (omega (arith, e)) t.unreachable_are t.unreach_is in
          slot_some mp_unreach_nlri x (ten t.v1 t.v2 t.v3 t.v4 t.v5 t.v6 t.v7 t.v8 t.v14 t.v15) is

  none_passed : 0 ≡ passed_over t.reach + passed_over t.unreach
  none_passed = omega (arith, multi_known family placed.hop placed.multi t.reach t.multi_are, multi_known family [] placed.unreachable t.unreach t.unreachable_are)

  pub is_update : IsUpdate Four uses (counted w ++ (counted f ++ n)) (update_of placed t.reach)
  is_update = record {
    withdrawn_routes = w;
    path_attributes = f;
    nlri = n;
    fields = (counted w, counted f ++ n, record { joined = refl }, is_counted w w_short, (counted f, n, record { joined = refl }, is_counted f f_short, refl));
    read = read;
    attributes = are_attributes family placed f t kept (told_kept (is_plain family attrs.hop) announced attrs);
    withdrawn = placed.withdrawn;
    withdrawn_are = v4_nlri uses family withdrawn w out w_are;
    unreachable = placed.unreachable;
    unreachable_are = multi_nlri uses family [] placed.unreachable t.unreach (all_v6 (IsAlike family (uses_ids uses family)) family withdrawn out) t.unreachable_are;
    all_withdrawn = refl;
    plain_are = plain_nlri uses family attrs.hop announced n into n_are;
    plain_attrs_are = refl;
    multi_are = multi_nlri uses family placed.hop placed.multi t.reach (all_where (IsAlike family (uses_ids uses family)) (not (is_plain family attrs.hop)) announced into) t.multi_are;
    multi_attrs_are = refl;
    mark_is = unmarked (length w == 0) (length n == 0) (read.count == 0) (read.count == 1) (empty_family t.unreach) (multi_full family [] placed.unreachable t.unreach t.unreachable_are) counts;
    unread_is = none_passed;
  }

-- the side of a header is the one of its view
side_same : (a b d : Bool) → side_of_view (if a then Loc else (if b then (if d then OutPost else OutPre) else (if d then InPost else InPre))) ≡ (if a then Local else (if b then Outward else Inward))
side_same true b d = refl
side_same false true true = refl
side_same false true false = refl
side_same false false true = refl
side_same false false false = refl

side_is : (h : HeaderValue) → side_of_view (view_of h) ≡ side_of h
side_is h = side_same (h.kind == loc_rib) (is_set o_flag h.flags) (is_set l_flag h.flags)

pub uses_same : (opens : OpensValue) (h : HeaderValue) (view : View) (family : Family) → view_of h ≡ view → uses_ids (id_use opens h) family ≡ uses_path_ids opens.sent opens.received family (side_of_view view)
uses_same opens h view V4 e = ap (λ (s : Side). uses_path_ids opens.sent opens.received V4 s) (sym (side_is h) ∙ ap (λ (v : View). side_of_view v) e)
uses_same opens h view V6 e = ap (λ (s : Side). uses_path_ids opens.sent opens.received V6 s) (sym (side_is h) ∙ ap (λ (v : View). side_of_view v) e)
