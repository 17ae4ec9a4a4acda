-- The effects of a message speak of no RIB that its peer doesn't have.
use Rattle.std.proofs.Common.{◌≡◌, ℕ, List, [], ◌∷◌, ◌++◌, Bool, true, false, map, cond, Option, Some, None, refl, sym, subst, All}
use Rattle.std.specs.Prelude.{MatchOption}
use Rattle.std.proofs.lemmas.List.Elements.{All-nil, All-cons, All-append}
use Rattle.bmp_specs.specs.declared.peers.View.{View}
use Rattle.bmp_specs.specs.MessageBody.{HasPeer, IsMessage, IsRouteMonitoring, MessageType, OfPeer, OfType, ReadingState, message_type, initiation_message, peer_down_notification, peer_up_notification, route_mirroring, route_monitoring, statistics_report, termination_message, unassigned}
use Rattle.bmp_specs.specs.MessageEffects.{HasViewOfKey, effect_of, effects_of, route_effects, unread_effect}
use Rattle.bmp_specs.specs.PeerHeader.{HeaderValue, IsViewOf, key_of, view_of}
use Rattle.bmp_specs.specs.Statistics.{IsStatistics}
use Rattle.bmp_specs.specs.Values.{EffectValue, KeyValue, MessageValue, NlriValue, OpensValue, StatValue, StatisticsValue, UpdateValue, announce, initiation, mark, mirrored_routes, named, described, of_unknown_peer, of_unknown_type, peer_down, peer_up, routes, statistic, statistics, termination, withdraw, up, down, orphan, mirrored, passed, unread}
use Rattle.bmp_specs.proofs.PeerViews.{view_among}

-- what holds of each effect of a list
abbrev pub HaveViews : List EffectValue → Type 0
HaveViews effects = All HasViewOfKey effects

pub alone : (e : EffectValue) → HasViewOfKey e → HaveViews (e ∷ [])
alone e p = All-cons HasViewOfKey e [] p (All-nil HasViewOfKey)

pub join : (a b : List EffectValue) → HaveViews a → HaveViews b → HaveViews (a ++ b)
join a b p q = All-append HasViewOfKey a b p q

each : {V : Type 0} (f : V → EffectValue) → ((v : V) → HasViewOfKey (f v)) → (vs : List V) → HaveViews (map f vs)
each f p [] = All-nil HasViewOfKey
each f p (v ∷ vs) = All-cons HasViewOfKey (f v) (map f vs) (p v) (each f p vs)

some : {V : Type 0} (f : V → EffectValue) → ((v : V) → HasViewOfKey (f v)) → (found : Option V) → HaveViews (effect_of f found)
some f p None = All-nil HasViewOfKey
some f p (Some v) = alone (f v) (p v)

counted : (zero : Bool) (n : ℕ) → HaveViews (cond zero [] (unread n ∷ []))
counted true n = All-nil HasViewOfKey
counted false n = alone (unread n) tt

unread_views : (n : ℕ) → HaveViews (unread_effect n)
unread_views n = counted _ n

routes_views : (key : KeyValue) (view : View) (u : UpdateValue) → IsViewOf key view → HaveViews (route_effects key view u)
routes_views key view u p = join _ _ (join _ _ (join _ _
    (each (λ (n : NlriValue). withdraw key view n) (λ n. p) u.withdrawn)
    (each (λ (n : NlriValue). announce key view n u.plain_attrs) (λ n. p) u.plain))
    (each (λ (n : NlriValue). announce key view n u.multi_attrs) (λ n. p) u.multi))
    (some (λ family. mark key view family) (λ family. p) u.mark)

-- the routes of a message have a view of their peer's
abbrev pub HasRoutesOfKey : MessageValue → Type 0
HasRoutesOfKey (routes key view u) = IsViewOf key view
HasRoutesOfKey _ = Unit {0}

pub effects_views : (m : MessageValue) → HasRoutesOfKey m → HaveViews (effects_of m)
effects_views (initiation i) p = join _ _ (join _ _ (some named (λ n. tt) i.name) (some described (λ n. tt) i.descr)) (unread_views i.unread)
effects_views termination p = All-nil HasViewOfKey
effects_views (peer_up key u) p = All-cons HasViewOfKey (up key u.info) (unread_effect u.unread) tt (unread_views u.unread)
effects_views (peer_down key d) p = alone (down key d) tt
effects_views (routes key view u) p = join _ _ (routes_views key view u p) (unread_views u.unread)
effects_views (statistics key s) p = join _ _ (each (λ (stat : StatValue). statistic key stat) (λ stat. tt) s.stats) (unread_views s.unread)
effects_views (mirrored_routes n) p = All-cons HasViewOfKey mirrored (unread_effect n) tt (unread_views n)
effects_views of_unknown_peer p = alone orphan tt
effects_views of_unknown_type p = alone passed tt

of_peer : (kind : MessageType) (state : ReadingState) (h : HeaderValue) (key : KeyValue) (rest : List ℕ) (m : MessageValue) (next : ReadingState) → IsViewOf key (view_of h) → OfPeer kind state h key rest m next → HasRoutesOfKey m
of_peer route_monitoring state h key rest m next view (a, p) = at (state key) p
  where
    at : (found : Option OpensValue) → MatchOption found (m ≡ of_unknown_peer) (λ opens. (u : UpdateValue) × IsRouteMonitoring opens h rest u × (m ≡ routes key (view_of h) u)) → HasRoutesOfKey m
    at None e = subst HasRoutesOfKey (sym e) tt
    at (Some opens) (u, is, e) = subst HasRoutesOfKey (sym e) view
of_peer statistics_report state h key rest m next view (a, p) = at (state key) p
  where
    at : (found : Option OpensValue) → MatchOption found (m ≡ of_unknown_peer) (λ opens. (s : StatisticsValue) × IsStatistics rest s × (m ≡ statistics key s)) → HasRoutesOfKey m
    at None e = subst HasRoutesOfKey (sym e) tt
    at (Some opens) (s, is, e) = subst HasRoutesOfKey (sym e) tt
of_peer peer_down_notification state h key rest m next view (d, p, e, a) = subst HasRoutesOfKey (sym e) tt
of_peer peer_up_notification state h key rest m next view (u, p, e, a) = subst HasRoutesOfKey (sym e) tt
of_peer route_mirroring state h key rest m next view (n, p, e, a) = subst HasRoutesOfKey (sym e) tt
of_peer initiation_message state h key rest m next view p = absurd p
of_peer termination_message state h key rest m next view p = absurd p
of_peer unassigned state h key rest m next view p = absurd p

by_key : (found : Option KeyValue) (kind : MessageType) (state : ReadingState) (h : HeaderValue) (rest : List ℕ) (m : MessageValue) (next : ReadingState) → key_of h ≡ found
    → MatchOption found ((m ≡ of_unknown_type) × (next ≡ state)) (λ key. OfPeer kind state h key rest m next) → HasRoutesOfKey m
by_key None kind state h rest m next e p = subst HasRoutesOfKey (sym p.0) tt
by_key (Some key) kind state h rest m next e p = of_peer kind state h key rest m next (view_among h key e) p

has_peer : (kind : MessageType) (state : ReadingState) (body : List ℕ) (m : MessageValue) (next : ReadingState) → HasPeer kind state body m next → HasRoutesOfKey m
has_peer kind state body m next p = by_key (key_of p.header) kind state p.header _ m next refl p.means

pub of_type : (kind : MessageType) (state : ReadingState) (body : List ℕ) (m : MessageValue) (next : ReadingState) → OfType kind state body m next → HasRoutesOfKey m
of_type initiation_message state body m next (i, p, e, a) = subst HasRoutesOfKey (sym e) tt
of_type termination_message state body m next (p, e, a) = subst HasRoutesOfKey (sym e) tt
of_type unassigned state body m next (e, a) = subst HasRoutesOfKey (sym e) tt
of_type route_monitoring state body m next p = has_peer route_monitoring state body m next p
of_type statistics_report state body m next p = has_peer statistics_report state body m next p
of_type peer_down_notification state body m next p = has_peer peer_down_notification state body m next p
of_type peer_up_notification state body m next p = has_peer peer_up_notification state body m next p
of_type route_mirroring state body m next p = has_peer route_mirroring state body m next p

pub IsMessage-views : (state next : ReadingState) (kind : ℕ) (body : List ℕ) (m : MessageValue) → IsMessage state kind body m next → All HasViewOfKey (effects_of m)
IsMessage-views state next kind body m p = effects_views m (of_type (message_type kind) state body m next p)
