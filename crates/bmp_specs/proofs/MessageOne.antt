-- A body has one meaning at most under a state, and leaves one state; so a stream is walked in one way.
use Rattle.std.proofs.Common.{◌≡◌, ℕ, ◌+◌, List, [], length, take, drop, Option, Some, None, refl, sym, ap, ◌∙◌, subst}
use Rattle.std.specs.Prelude.{MatchOption}
use Rattle.bmp_specs.specs.MessageBody.{HasPeer, IsMessage, IsRouteMonitoring, MessageType, OfPeer, OfType, ReadingState, id_use, message_type, width_of, with_peer, initiation_message, peer_down_notification, peer_up_notification, route_mirroring, route_monitoring, statistics_report, termination_message, unassigned}
use Rattle.bmp_specs.specs.Meaning.{Meaning, IsExact, WalksBy}
use Rattle.bmp_specs.specs.MessageEffects.{IsMessageEntry, effects_of, strict}
use Rattle.bmp_specs.specs.PeerHeader.{HeaderValue, header_size, key_of, view_of}
use Rattle.bmp_specs.specs.Statistics.{IsStatistics}
use Rattle.bmp_specs.specs.Update.{IsUpdate}
use Rattle.bmp_specs.specs.Values.{BgpMessageValue, DownInfoValue, EntryValue, InitiationValue, KeyValue, MessageValue, OpensValue, PeerUpValue, StatisticsValue, UpdateValue, initiation, mirrored_routes, of_unknown_type, peer_down, peer_up, routes, statistics}
use Rattle.bmp_specs.specs.Walk.{Verdict}
use Rattle.bmp_specs.proofs.BgpMessageCode.{IsBgpMessage-one}
use Rattle.bmp_specs.proofs.BodiesOne.{IsInitiation-one, IsMirroring-one, IsPeerDown-one, IsPeerUp-one, IsStatistics-one}
use Rattle.bmp_specs.proofs.OneHead.{header_one, same_entry}
use Rattle.bmp_specs.proofs.UpdateOne.{IsUpdate-one}
use Rattle.bmp_specs.proofs.WalkOne.{walk_one}

pub IsRouteMonitoring-one : (opens : OpensValue) (h : HeaderValue) (rest : List ℕ) (u v : UpdateValue) → IsRouteMonitoring opens h rest u → IsRouteMonitoring opens h rest v → u ≡ v
IsRouteMonitoring-one opens h rest u v p q =
    let same : p.message.body ≡ q.message.body = ap (λ (m : BgpMessageValue). m.body) (IsBgpMessage-one rest p.message q.message p.is q.is) in
    IsUpdate-one (width_of h) (id_use opens h) q.message.body u v (subst (λ (l : List ℕ). IsUpdate (width_of h) (id_use opens h) l u) same p.body_is) q.body_is

-- a message, and the state after it
pub record SameMessage (m n : MessageValue) (s t : ReadingState) : Type 0 where
  pub message : m ≡ n
  pub next : s ≡ t

routes_one : (found : Option OpensValue) (h : HeaderValue) (key : KeyValue) (rest : List ℕ) (m n : MessageValue) (none : MessageValue)
    → MatchOption found (m ≡ none) (λ opens. (u : UpdateValue) × IsRouteMonitoring opens h rest u × (m ≡ routes key (view_of h) u))
    → MatchOption found (n ≡ none) (λ opens. (u : UpdateValue) × IsRouteMonitoring opens h rest u × (n ≡ routes key (view_of h) u)) → m ≡ n
routes_one None h key rest m n none p q = p ∙ sym q
routes_one (Some opens) h key rest m n none (u, p, e) (v, q, f) = e ∙ ap (λ (x : UpdateValue). routes key (view_of h) x) (IsRouteMonitoring-one opens h rest u v p q) ∙ sym f

statistics_one : (found : Option OpensValue) (key : KeyValue) (rest : List ℕ) (m n : MessageValue) (none : MessageValue)
    → MatchOption found (m ≡ none) (λ opens. (s : StatisticsValue) × IsStatistics rest s × (m ≡ statistics key s))
    → MatchOption found (n ≡ none) (λ opens. (s : StatisticsValue) × IsStatistics rest s × (n ≡ statistics key s)) → m ≡ n
statistics_one None key rest m n none p q = p ∙ sym q
statistics_one (Some opens) key rest m n none (s, p, e) (t, q, f) = e ∙ ap (λ (x : StatisticsValue). statistics key x) (IsStatistics-one rest s t p q) ∙ sym f

of_peer_one : (kind : MessageType) (state : ReadingState) (h : HeaderValue) (key : KeyValue) (rest : List ℕ) (m n : MessageValue) (s t : ReadingState)
    → OfPeer kind state h key rest m s → OfPeer kind state h key rest n t → SameMessage m n s t
of_peer_one route_monitoring state h key rest m n s t (a, p) (b, q) = record { message = routes_one (state key) h key rest m n _ p q; next = a ∙ sym b }
of_peer_one statistics_report state h key rest m n s t (a, p) (b, q) = record { message = statistics_one (state key) key rest m n _ p q; next = a ∙ sym b }
of_peer_one peer_down_notification state h key rest m n s t (d, p, x, a) (e, q, y, b) = record {
  message = x ∙ ap (λ (i : DownInfoValue). peer_down key i) (IsPeerDown-one rest d e p q) ∙ sym y;
  next = a ∙ sym b;
}
of_peer_one peer_up_notification state h key rest m n s t (u, p, x, a) (v, q, y, b) =
    let same : u ≡ v = IsPeerUp-one h rest u v p q in
    record {
      message = x ∙ ap (λ (i : PeerUpValue). peer_up key i) same ∙ sym y;
      next = a ∙ ap (λ (i : PeerUpValue). with_peer state key (Some (record { sent = i.info.sent; received = i.info.received }))) same ∙ sym b;
    }
of_peer_one route_mirroring state h key rest m n s t (j, p, x, a) (k, q, y, b) = record {
  message = x ∙ ap (λ (i : ℕ). mirrored_routes i) (IsMirroring-one rest j k p q) ∙ sym y;
  next = a ∙ sym b;
}
of_peer_one initiation_message state h key rest m n s t p q = absurd p
of_peer_one termination_message state h key rest m n s t p q = absurd p
of_peer_one unassigned state h key rest m n s t p q = absurd p

by_key_one : (found : Option KeyValue) (kind : MessageType) (state : ReadingState) (h : HeaderValue) (rest : List ℕ) (m n none : MessageValue) (s t : ReadingState)
    → MatchOption found ((m ≡ none) × (s ≡ state)) (λ key. OfPeer kind state h key rest m s)
    → MatchOption found ((n ≡ none) × (t ≡ state)) (λ key. OfPeer kind state h key rest n t) → SameMessage m n s t
by_key_one None kind state h rest m n none s t p q = record { message = p.0 ∙ sym q.0; next = p.1 ∙ sym q.1 }
by_key_one (Some key) kind state h rest m n none s t p q = of_peer_one kind state h key rest m n s t p q

has_peer_one : (kind : MessageType) (state : ReadingState) (body : List ℕ) (m n : MessageValue) (s t : ReadingState) → HasPeer kind state body m s → HasPeer kind state body n t → SameMessage m n s t
has_peer_one kind state body m n s t p q =
    let same : p.header ≡ q.header = header_one (take header_size body) p.header q.header p.is q.is in
    by_key_one (key_of q.header) kind state q.header (drop header_size body) m n _ s t
    (subst (λ (h : HeaderValue). MatchOption (key_of h) ((m ≡ of_unknown_type) × (s ≡ state)) (λ key. OfPeer kind state h key (drop header_size body) m s)) same p.means) q.means

pub of_type_one : (kind : MessageType) (state : ReadingState) (body : List ℕ) (m n : MessageValue) (s t : ReadingState) → OfType kind state body m s → OfType kind state body n t → SameMessage m n s t
of_type_one initiation_message state body m n s t (i, p, x, a) (j, q, y, b) = record {
  message = x ∙ ap (λ (v : InitiationValue). initiation v) (IsInitiation-one body i j p q) ∙ sym y;
  next = a ∙ sym b;
}
of_type_one termination_message state body m n s t (p, x, a) (q, y, b) = record { message = x ∙ sym y; next = a ∙ sym b }
of_type_one unassigned state body m n s t (x, a) (y, b) = record { message = x ∙ sym y; next = a ∙ sym b }
of_type_one route_monitoring state body m n s t p q = has_peer_one route_monitoring state body m n s t p q
of_type_one statistics_report state body m n s t p q = has_peer_one statistics_report state body m n s t p q
of_type_one peer_down_notification state body m n s t p q = has_peer_one peer_down_notification state body m n s t p q
of_type_one peer_up_notification state body m n s t p q = has_peer_one peer_up_notification state body m n s t p q
of_type_one route_mirroring state body m n s t p q = has_peer_one route_mirroring state body m n s t p q

-- a body means one message, and leaves one state
pub IsMessage-one : (state s t : ReadingState) (kind : ℕ) (body : List ℕ) (m n : MessageValue) → IsMessage state kind body m s → IsMessage state kind body n t → (m ≡ n) × (s ≡ t)
IsMessage-one state s t kind body m n p q = let same = of_type_one (message_type kind) state body m n s t p q in (same.message, same.next)

-- a body has one entry, and leaves one state
pub IsMessageEntry-one : (state s t : ReadingState) (kind : ℕ) (body : List ℕ) (e f : EntryValue) → IsMessageEntry state kind body e s → IsMessageEntry state kind body f t → (e ≡ f) × (s ≡ t)
IsMessageEntry-one state s t kind body e f p q =
    let same = IsMessage-one state s t kind body p.value q.value p.means q.means in
    (p.entry_is ∙ same_entry kind body (effects_of p.value) (effects_of q.value) p.head q.head (ap effects_of same.0) p.is_head q.is_head ∙ sym q.entry_is, same.1)

-- the meaning by the RFCs is exact
pub strict_exact : IsExact strict
strict_exact = IsMessageEntry-one

-- a stream has one list of entries, one offset and one verdict, under any exact meaning
pub stream_one : (meaning : Meaning) → IsExact meaning → (bytes : List ℕ) (es fs : List EntryValue) (o p : ℕ) (v w : Verdict) → WalksBy meaning bytes es o v → WalksBy meaning bytes fs p w
    → (es ≡ fs) × (o ≡ p) × (v ≡ w)
stream_one meaning exact bytes es fs o p v w a b = walk_one meaning.Means exact meaning.start bytes es fs o p v w a b
