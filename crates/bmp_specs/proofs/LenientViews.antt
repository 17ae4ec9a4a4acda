-- The effects of a message in the lenient reading speak of no RIB that its peer doesn't have.
use Rattle.std.proofs.Common.{◌≡◌, ◌⊎◌, ℕ, inl, inr, List, [], ◌∷◌, drop, Option, Some, None, refl, sym, subst, All}
use Rattle.std.specs.Prelude.{MatchOption}
use Rattle.std.proofs.lemmas.List.Elements.{All-nil}
use Rattle.bmp_specs.specs.ImpliedPeerUp.{implied_info}
use Rattle.bmp_specs.specs.LenientBody.{HasPeerLeniently, IsAsStrict, IsLenientEntry, IsNoReport, IsOrphan, IsUnreadable, OfPeerLeniently, OfTypeLeniently, TellsRoutes, TellsStatistics, implied_up}
use Rattle.bmp_specs.specs.LenientState.{LenientState, opens_for}
use Rattle.bmp_specs.specs.MessageBody.{MessageType, message_type, initiation_message, peer_down_notification, peer_up_notification, route_mirroring, route_monitoring, statistics_report, termination_message, unassigned}
use Rattle.bmp_specs.specs.MessageEffects.{HasViewOfKey, effects_of}
use Rattle.bmp_specs.specs.PeerHeader.{HeaderValue, IsViewOf, header_size, key_of, view_of}
use Rattle.bmp_specs.specs.Session.{effects_in}
use Rattle.bmp_specs.specs.Values.{EffectValue, EntryValue, KeyValue, OpensValue, mirrored_routes, orphan, passed, peer_down, peer_up, routes, statistics, up}
use Rattle.bmp_specs.proofs.MessageViews.{HaveViews, alone, effects_views, join, of_type}
use Rattle.bmp_specs.proofs.PeerViews.{view_among}

up_views : (found : Option OpensValue) (key : KeyValue) (h : HeaderValue) → HaveViews (implied_up found key h)
up_views None key h = alone (up key (implied_info h)) tt
up_views (Some opens) key h = All-nil HasViewOfKey

module _ (state next : LenientState) (effects : List EffectValue) where
  orphan_views : IsOrphan state effects next → HaveViews effects
  orphan_views o = subst HaveViews (sym o.effects_are) (alone orphan tt)

  module _ (h : HeaderValue) (key : KeyValue) (rest : List ℕ) (view : IsViewOf key (view_of h)) where
    told_views : (found : Option OpensValue) → MatchOption found (IsOrphan state effects next) (λ opens. TellsRoutes state opens h key rest effects next ⊎ IsUnreadable state opens h key rest effects next) → HaveViews effects
    told_views None o = orphan_views o
    told_views (Some opens) (inr p) = orphan_views p.orphaned
    told_views (Some opens) (inl p) = subst HaveViews (sym p.effects_are) (join (implied_up (state.opens key) key h) (effects_of (routes key (view_of h) p.update)) (up_views (state.opens key) key h) (effects_views (routes key (view_of h) p.update) view))

    report_views : (found : Option OpensValue) → MatchOption found (IsOrphan state effects next) (λ opens. TellsStatistics state key rest effects next ⊎ IsNoReport state key rest effects next) → HaveViews effects
    report_views None o = orphan_views o
    report_views (Some opens) (inr p) = orphan_views p.orphaned
    report_views (Some opens) (inl p) = subst HaveViews (sym p.effects_are) (effects_views (statistics key p.report) tt)

    peer_views : (kind : MessageType) → OfPeerLeniently kind state h key rest effects next → HaveViews effects
    peer_views route_monitoring p = told_views (opens_for state h key) p
    peer_views statistics_report p = report_views (state.opens key) p
    peer_views peer_down_notification (d, p, e, a) = subst HaveViews (sym e) (effects_views (peer_down key d) tt)
    peer_views peer_up_notification (u, p, e, a) = subst HaveViews (sym e) (effects_views (peer_up key u) tt)
    peer_views route_mirroring (n, p, e, a) = subst HaveViews (sym e) (effects_views (mirrored_routes n) tt)
    peer_views initiation_message p = absurd p
    peer_views termination_message p = absurd p
    peer_views unassigned p = absurd p

  key_views : (found : Option KeyValue) (kind : MessageType) (h : HeaderValue) (rest : List ℕ) → key_of h ≡ found
      → MatchOption found ((effects ≡ passed ∷ []) × (next ≡ state)) (λ key. OfPeerLeniently kind state h key rest effects next) → HaveViews effects
  key_views None kind h rest e p = subst HaveViews (sym p.0) (alone passed tt)
  key_views (Some key) kind h rest e p = peer_views h key rest (view_among h key e) kind p

  header_views : (kind : MessageType) (body : List ℕ) → HasPeerLeniently kind state body effects next → HaveViews effects
  header_views kind body p = key_views (key_of p.header) kind p.header (drop header_size body) refl p.means

  strict_views : (kind : MessageType) (body : List ℕ) → IsAsStrict kind state body effects next → HaveViews effects
  strict_views kind body p = subst HaveViews (sym p.effects_are) (effects_views p.value (of_type kind state.opens body p.value state.opens p.means))

  type_views : (kind : MessageType) (body : List ℕ) → OfTypeLeniently kind state body effects next → HaveViews effects
  type_views initiation_message body p = strict_views initiation_message body p
  type_views termination_message body p = strict_views termination_message body p
  type_views unassigned body p = strict_views unassigned body p
  type_views route_monitoring body p = header_views route_monitoring body p
  type_views statistics_report body p = header_views statistics_report body p
  type_views peer_down_notification body p = header_views peer_down_notification body p
  type_views peer_up_notification body p = header_views peer_up_notification body p
  type_views route_mirroring body p = header_views route_mirroring body p

pub lenient_views : (state next : LenientState) (kind : ℕ) (body : List ℕ) (entry : EntryValue) → IsLenientEntry state kind body entry next → All HasViewOfKey (effects_in entry)
lenient_views state next kind body entry p = subst (λ (e : EntryValue). All HasViewOfKey (effects_in e)) (sym p.entry_is) (type_views state next p.effects (message_type kind) body p.means)
