-- From what a reader gives to the message that its bytes mean by the RFCs, and from bytes that it refuses to none.
use Rattle.std.proofs.Common.{◌≡◌, ℕ, ◌<◌, ◌==◌, true, false, List, [], ◌∷◌, Option, Some, None, refl, subst, arith}
use Rattle.std.specs.Prelude.{MatchOption}
use Rattle.std.proofs.lemmas.Bool.Decides.{nat_tests}
use Rattle.std.specs.Option.{is_some}
use Rattle.bmp_specs.specs.MessageBody.{HasPeer, IsRouteMonitoring, OfPeer, OfType, ReadingState, message_type, route_monitoring, statistics_report, unassigned}
use Rattle.bmp_specs.specs.MessageEffects.{effects_of}
use Rattle.bmp_specs.specs.PeerHeader.{HeaderValue, view_of}
use Rattle.bmp_specs.specs.Statistics.{IsStatistics}
use Rattle.bmp_specs.specs.Values.{EffectValue, KeyValue, MessageValue, OpensValue, StatisticsValue, UpdateValue, routes, statistics, of_unknown_peer, orphan}
use Rattle.bmp_message.specs.Effects.{HasEffects, ReadsNothing}
use Rattle.bmp_message.specs.Types.{message_type_of}
use Rattle.bmp_message.specs.declared.types.PeerMessage.{PeerMessage}
use Rattle.bmp_message.specs.declared.types.PeerMessage.TheVariants.{RouteMonitoring, StatisticsReport, PeerDown, PeerUp, RouteMirroring}

-- Route Monitoring

orphan_routes_at : (found : Option OpensValue) (h : HeaderValue) (key : KeyValue) (rest : List ℕ) → found ≡ None
    → MatchOption found (of_unknown_peer ≡ of_unknown_peer) (λ opens. (u : UpdateValue) × IsRouteMonitoring opens h rest u × (of_unknown_peer ≡ routes key (view_of h) u))
orphan_routes_at None h key rest e = refl
orphan_routes_at (Some opens) h key rest e = absurd cc

pub orphan_routes : (state : ReadingState) (h : HeaderValue) (key : KeyValue) (rest : List ℕ) (effects : List EffectValue) → state key ≡ None → effects ≡ orphan ∷ []
    → HasEffects (OfPeer route_monitoring state h key rest) effects state
orphan_routes state h key rest effects none e = record { value = of_unknown_peer; means = (refl, orphan_routes_at (state key) h key rest none); effects_are = e }

known_routes_at : (found : Option OpensValue) (opens : OpensValue) (h : HeaderValue) (key : KeyValue) (rest : List ℕ) (u : UpdateValue) → found ≡ Some opens → IsRouteMonitoring opens h rest u
    → MatchOption found (routes key (view_of h) u ≡ of_unknown_peer) (λ o. (v : UpdateValue) × IsRouteMonitoring o h rest v × (routes key (view_of h) u ≡ routes key (view_of h) v))
known_routes_at None opens h key rest u e is = absurd cc
known_routes_at (Some o) opens h key rest u e is = let same : opens ≡ o = cc in (u, subst (λ (x : OpensValue). IsRouteMonitoring x h rest u) same is, refl)

pub known_routes : (state : ReadingState) (h : HeaderValue) (key : KeyValue) (rest : List ℕ) (opens : OpensValue) → state key ≡ Some opens → (effects : List EffectValue)
    → (u : UpdateValue) × IsRouteMonitoring opens h rest u × (effects ≡ effects_of (routes key (view_of h) u)) → HasEffects (OfPeer route_monitoring state h key rest) effects state
known_routes state h key rest opens found effects (u, is, e) = record { value = routes key (view_of h) u; means = (refl, known_routes_at (state key) opens h key rest u found is); effects_are = e }

no_routes_at : (found : Option OpensValue) (opens : OpensValue) (h : HeaderValue) (key : KeyValue) (rest : List ℕ) (m none : MessageValue) → found ≡ Some opens → ((u : UpdateValue) → IsRouteMonitoring opens h rest u → ⊥)
    → MatchOption found (m ≡ none) (λ o. (u : UpdateValue) × IsRouteMonitoring o h rest u × (m ≡ routes key (view_of h) u)) → ⊥
no_routes_at None opens h key rest m none e not p = absurd cc
no_routes_at (Some o) opens h key rest m none e not (u, is, f) = let same : o ≡ opens = cc in not u (subst (λ (x : OpensValue). IsRouteMonitoring x h rest u) same is)

pub no_routes : (state : ReadingState) (h : HeaderValue) (key : KeyValue) (rest : List ℕ) (opens : OpensValue) → state key ≡ Some opens → ((u : UpdateValue) → IsRouteMonitoring opens h rest u → ⊥)
    → ReadsNothing (HasEffects (OfPeer route_monitoring state h key rest))
no_routes state h key rest opens found not effects next p = no_routes_at (state key) opens h key rest p.value of_unknown_peer found not p.means.1

-- a Statistics Report

orphan_statistics_at : (found : Option OpensValue) (key : KeyValue) (rest : List ℕ) → is_some found ≡ false
    → MatchOption found (of_unknown_peer ≡ of_unknown_peer) (λ opens. (s : StatisticsValue) × IsStatistics rest s × (of_unknown_peer ≡ statistics key s))
orphan_statistics_at None key rest e = refl
orphan_statistics_at (Some opens) key rest e = absurd cc

pub orphan_statistics : (state : ReadingState) (h : HeaderValue) (key : KeyValue) (rest : List ℕ) (effects : List EffectValue) → is_some (state key) ≡ false → effects ≡ orphan ∷ []
    → HasEffects (OfPeer statistics_report state h key rest) effects state
orphan_statistics state h key rest effects none e = record { value = of_unknown_peer; means = (refl, orphan_statistics_at (state key) key rest none); effects_are = e }

known_statistics_at : (found : Option OpensValue) (key : KeyValue) (rest : List ℕ) (s : StatisticsValue) → is_some found ≡ true → IsStatistics rest s
    → MatchOption found (statistics key s ≡ of_unknown_peer) (λ opens. (t : StatisticsValue) × IsStatistics rest t × (statistics key s ≡ statistics key t))
known_statistics_at None key rest s e is = absurd cc
known_statistics_at (Some opens) key rest s e is = (s, is, refl)

pub known_statistics : (state : ReadingState) (h : HeaderValue) (key : KeyValue) (rest : List ℕ) → is_some (state key) ≡ true → (effects : List EffectValue)
    → (s : StatisticsValue) × IsStatistics rest s × (effects ≡ effects_of (statistics key s)) → HasEffects (OfPeer statistics_report state h key rest) effects state
known_statistics state h key rest up effects (s, is, e) = record { value = statistics key s; means = (refl, known_statistics_at (state key) key rest s up is); effects_are = e }

no_statistics_at : (found : Option OpensValue) (key : KeyValue) (rest : List ℕ) (m none : MessageValue) → is_some found ≡ true → ((s : StatisticsValue) → IsStatistics rest s → ⊥)
    → MatchOption found (m ≡ none) (λ opens. (s : StatisticsValue) × IsStatistics rest s × (m ≡ statistics key s)) → ⊥
no_statistics_at None key rest m none e not p = absurd cc
no_statistics_at (Some opens) key rest m none e not (s, is, f) = not s is

pub no_statistics : (state : ReadingState) (h : HeaderValue) (key : KeyValue) (rest : List ℕ) → is_some (state key) ≡ true → ((s : StatisticsValue) → IsStatistics rest s → ⊥)
    → ReadsNothing (HasEffects (OfPeer statistics_report state h key rest))
no_statistics state h key rest up not effects next p = no_statistics_at (state key) key rest p.value of_unknown_peer up not p.means.1

-- message types

other : (kind n : ℕ) → n < kind → (kind == n) ≡ false
other kind n above = grind (arith, nat_tests)

-- the types above 6 aren't assigned
pub unassigned_above : (kind : ℕ) → 6 < kind → message_type kind ≡ unassigned
unassigned_above kind above =
    rw (
      other kind 0 (omega arith),
      other kind 1 (omega arith),
      other kind 2 (omega arith),
      other kind 3 (omega arith),
      other kind 4 (omega arith),
      other kind 5 (omega arith),
      other kind 6 (omega arith),
    )

-- a message with a Per-Peer Header is of one of these types
pub of_peer_type : (kind : PeerMessage) (state : ReadingState) (body : List ℕ) → HasPeer (message_type_of kind) state body ≡ OfType (message_type_of kind) state body
of_peer_type RouteMonitoring state body = refl
of_peer_type StatisticsReport state body = refl
of_peer_type PeerDown state body = refl
of_peer_type PeerUp state body = refl
of_peer_type RouteMirroring state body = refl
