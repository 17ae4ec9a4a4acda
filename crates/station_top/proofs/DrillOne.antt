-- Three numbers have one drill: of lists of octets one alone is the stream of a lane, what a lane makes of it is one, and so
-- are the replies.
use Rattle.std.proofs.Common.{◌≡◌, ℕ, zero, suc, ◌+◌, ◌<◌, ◌≤◌, Bool, true, false, List, [], ◌∷◌, ◌++◌, refl, sym, ap, subst, ◌∙◌, inl, inr, arith}
use Rattle.std.specs.List.{range_with_len}
use Rattle.std.proofs.lemmas.Bool.{cases_lt}
use Rattle.bmp_specs.specs.declared.peers.View.TheVariants.{InPre}
use Rattle.bmp_specs.specs.declared.wire.Family.TheVariants.{V4}
use Rattle.bmp_specs.specs.Meaning.{WalksBy}
use Rattle.bmp_specs.specs.MessageEffects.{strict}
use Rattle.bmp_specs.specs.Openings.{nothing_told}
use Rattle.bmp_specs.specs.Query.{cut, routers, count}
use Rattle.bmp_specs.specs.Selection.{select_all}
use Rattle.bmp_specs.specs.Values.{EntryValue, opened}
use Rattle.bmp_specs.proofs.MessageOne.{stream_one, strict_exact}
use Rattle.bmp_specs.proofs.QueryReplies.{reply_one}
use Rattle.bmp_writer.specs.PeerMessage.{mark_update}
use Rattle.bmp_writer.specs.Written.{peer_down_type, route_monitoring_type}
use Rattle.bmp_specs.specs.TreatAsWithdraw.{no_attributes}
use Rattle.cut_publisher.specs.declared.history.Event.{Event}
use Rattle.cut_publisher.specs.History.{part}
use Rattle.drill_streams.specs.Drawn.{attrs_of, choice_of, peer_of, prefix_of, word_at}
use Rattle.drill_streams.specs.DrillStream.{IsDrillStream, IsMessageAt, is_up}
use Rattle.drill_streams.specs.Messages.{IsMessageOf, IsUp, closed_remotely, lane_name}
use Rattle.drill_streams.specs.Peers.{peer_info, peer_key}
use Rattle.query_eval.specs.Replies.{lanes_from, lanes_of}
use Rattle.relay_out.proofs.OneForm.{IsOne, octets_of, parts_one, peer_message_one}
use Rattle.relay_out.proofs.OneMessage.{routes_one, told_one, up_one}
use Rattle.rib_model.specs.declared.entry.Entry.{Entry}
use Rattle.rib_model.specs.Entries.{entry_values}
use Rattle.station_run.specs.Drill.{IsDrilled}
use Rattle.station_top.specs.Drill.{AreReplies, IsDrillText}

-- the message of a word
message_one : (up : Bool) (w : ℕ) → IsOne (IsMessageOf up w)
message_one up w a b oa ob x y = elim (cases_lt (choice_of w) 2) [
  | inl low ↦ elim (cases_lt (choice_of w) 1) [
    | inl none ↦ turned (omega (arith, none)) up refl
    | inr one ↦ marked (omega (arith, low, one))
  ]
  | inr high ↦ elim (cases_lt (choice_of w) 6) [
    | inl most ↦ routes_one (peer_key (peer_of w)) InPre (prefix_of w ∷ []) [] no_attributes a b oa ob (x.withdrawal high (omega (arith, most))) (y.withdrawal high (omega (arith, most)))
    | inr least ↦ routes_one (peer_key (peer_of w)) InPre [] (prefix_of w ∷ []) (attrs_of w) a b oa ob (x.announcement least) (y.announcement least)
  ]
]
  where
    turned : choice_of w ≡ 0 → (t : Bool) → up ≡ t → a ≡ b
    turned none true is = peer_message_one peer_down_type (peer_key (peer_of w)) InPre (closed_remotely ∷ []) a b oa ob (x.down none is) (y.down none is)
    turned none false is = up_one (peer_key (peer_of w)) (peer_info (peer_of w)) a b oa ob (x.up none is) (y.up none is)

    marked : choice_of w ≡ 1 → a ≡ b
    marked one = peer_message_one route_monitoring_type (peer_key (peer_of w)) InPre (mark_update V4) a b oa ob (x.mark one) (y.mark one)

-- the stream of a lane
drill_stream_one : (seed lane messages : ℕ) → IsOne (IsDrillStream seed lane messages)
drill_stream_one seed lane messages a b oa ob x y =
    let xs = octets_of x.initiation (x.ups ++ x.drawn) a x.joined oa in
    let ys = octets_of y.initiation (y.ups ++ y.drawn) b y.joined ob in
    let xr = octets_of x.ups x.drawn (x.ups ++ x.drawn) refl xs.1 in
    let yr = octets_of y.ups y.drawn (y.ups ++ y.drawn) refl ys.1 in
    let initiation : x.initiation ≡ y.initiation = told_one (lane_name lane) [] x.initiation y.initiation xs.0 ys.0 x.initiation_is y.initiation_is in
    let ups : x.ups ≡ y.ups = parts_one IsUp (λ p. up_one (peer_key p) (peer_info p)) (0 ∷ 1 ∷ 2 ∷ 3 ∷ []) x.ups y.ups xr.0 yr.0 x.ups_are y.ups_are in
    let drawn : x.drawn ≡ y.drawn = parts_one (IsMessageAt seed lane) (λ i. message_one (is_up seed lane (peer_of (word_at seed lane i)) i) (word_at seed lane i)) (range_with_len 0 messages) x.drawn y.drawn xr.1 yr.1 x.drawn_are y.drawn_are in
    x.joined ∙ (λ i. initiation i ++ (ups i ++ drawn i)) ∙ sym y.joined

-- what a lane makes of its stream
entries_one : (seed messages lane : ℕ) (es fs : List EntryValue) (p : IsDrilled seed messages lane es) (q : IsDrilled seed messages lane fs) → es ≡ fs
entries_one seed messages lane es fs p q =
    let bytes : p.bytes ≡ q.bytes = drill_stream_one seed lane messages p.bytes q.bytes p.octets q.octets p.stream q.stream in
    let walk = subst (λ (l : List ℕ). WalksBy strict l p.taken.messages p.taken.offset p.taken.verdict) bytes p.taken.walk in
    let one = stream_one strict strict_exact q.bytes p.taken.messages q.taken.messages p.taken.offset q.taken.offset p.taken.verdict q.taken.verdict walk q.taken.walk in
    p.taken.is ∙ ap (λ (ms : List EntryValue). opened nothing_told ∷ ms) one.0 ∙ sym q.taken.is

module _ (seed lanes messages : ℕ) where
  -- what all lanes do
  lanes_one : (h k : List (Event Entry)) (ps : (lane : ℕ) → lane < lanes → IsDrilled seed messages lane (entry_values (part lane h))) (qs : (lane : ℕ) → lane < lanes → IsDrilled seed messages lane (entry_values (part lane k)))
      → (first n : ℕ) → first + n ≤ lanes → lanes_from first n h ≡ lanes_from first n k
  lanes_one h k ps qs first zero fits = refl
  lanes_one h k ps qs first (suc n) fits =
      let below : first < lanes = omega (arith, fits) in
      let here = entries_one seed messages first (entry_values (part first h)) (entry_values (part first k)) (ps first below) (qs first below) in
      let rest = lanes_one h k ps qs (suc first) n (omega (arith, fits)) in
      λ i. here i ∷ rest i

  pub text_one : (a b : List ℕ) (s : IsDrillText seed lanes messages a) (t : IsDrillText seed lanes messages b) → a ≡ b
  text_one a b s t =
      let same : lanes_of lanes s.history ≡ lanes_of lanes t.history = lanes_one s.history t.history s.parts t.parts 0 lanes (omega arith) in
      let told = lanes_of lanes t.history in
      let r : AreReplies told a = subst (λ (l : List (List EntryValue)). AreReplies l a) same s.replies in
      let u = t.replies in
      let first = reply_one told cut r.first u.first r.of_cut u.of_cut in
      let second = reply_one told routers r.second u.second r.of_routers u.of_routers in
      let third = reply_one told (count select_all) r.third u.third r.of_count u.of_count in
      r.spelled ∙ (λ i. first i ++ (second i ++ third i)) ∙ sym u.spelled
