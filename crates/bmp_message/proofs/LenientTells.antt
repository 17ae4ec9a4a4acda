-- From what a reader gives to what a body means leniently, and from bytes that it refuses to nothing.
use Rattle.std.proofs.Common.{◌≡◌, ◌⊎◌, ℕ, Bool, true, false, true≢false, cond, inl, inr, List, [], ◌∷◌, ◌++◌, Option, Some, None, refl, sym, ap, subst, ◌∙◌}
use Rattle.std.specs.Prelude.{MatchOption}
use Rattle.std.specs.Option.{option_or}
use Rattle.bmp_specs.specs.ImpliedPeerUp.{implied_info, implied_opens}
use Rattle.bmp_specs.specs.LenientBody.{HasPeerLeniently, IsLenientUpdate, IsNoReport, IsOrphan, IsUnreadable, OfPeerLeniently, OfTypeLeniently, TellsRoutes, TellsStatistics, implied_up}
use Rattle.bmp_specs.specs.LenientState.{LenientState, is_untold, opens_for, with_shown}
use Rattle.bmp_specs.specs.MessageBody.{route_monitoring, statistics_report}
use Rattle.bmp_specs.specs.MessageEffects.{effects_of}
use Rattle.bmp_specs.specs.PeerHeader.{HeaderValue, view_of}
use Rattle.bmp_specs.specs.Statistics.{IsStatistics}
use Rattle.bmp_specs.specs.UpdateForms.{FormsValue}
use Rattle.bmp_specs.specs.Values.{EffectValue, KeyValue, OpensValue, StatisticsValue, UpdateValue, orphan, routes, up}
use Rattle.bmp_message.specs.Effects.{ReadsNothing}
use Rattle.bmp_message.specs.Types.{message_type_of}
use Rattle.bmp_message.specs.declared.types.PeerMessage.{PeerMessage}
use Rattle.bmp_message.specs.declared.types.PeerMessage.TheVariants.{RouteMonitoring, StatisticsReport, PeerDown, PeerUp, RouteMirroring}

module _ (s : LenientState) where
  orphaned : IsOrphan s (orphan ∷ []) s
  orphaned = record { effects_are = refl; next_is = refl }

  module _ (h : HeaderValue) (key : KeyValue) (rest : List ℕ) where
    -- Route Monitoring

    -- what routes mean under these OPEN messages
    abbrev RoutesUnder : List EffectValue → LenientState → Option OpensValue → Type 0
    RoutesUnder effects next found = MatchOption found (IsOrphan s effects next) (λ opens. TellsRoutes s opens h key rest effects next ⊎ IsUnreadable s opens h key rest effects next)

    up_opens : (opens : OpensValue) → s.opens key ≡ Some opens → opens_for s h key ≡ Some opens
    up_opens opens e = ap (λ (o : Option OpensValue). option_or o (cond (is_untold s key) (Some (implied_opens h)) None)) e

    untold_opens : s.opens key ≡ None → is_untold s key ≡ true → opens_for s h key ≡ Some (implied_opens h)
    untold_opens none untold = ap (λ (o : Option OpensValue). option_or o (cond (is_untold s key) (Some (implied_opens h)) None)) none ∙ ap (λ (b : Bool). cond b (Some (implied_opens h)) None) untold

    no_opens : s.opens key ≡ None → is_untold s key ≡ false → opens_for s h key ≡ None
    no_opens none told = ap (λ (o : Option OpensValue). option_or o (cond (is_untold s key) (Some (implied_opens h)) None)) none ∙ ap (λ (b : Bool). cond b (Some (implied_opens h)) None) told

    -- of a peer that isn't up
    pub orphan_routes : s.opens key ≡ None → is_untold s key ≡ false → OfPeerLeniently route_monitoring s h key rest (orphan ∷ []) s
    orphan_routes none told = subst (λ (found : Option OpensValue). RoutesUnder (orphan ∷ []) s found) (sym (no_opens none told)) orphaned

    -- of a Loc-RIB of which nothing was known
    pub tells_first : (next : LenientState) → s.opens key ≡ None → is_untold s key ≡ true → (taken : FormsValue) (u : UpdateValue) → IsLenientUpdate (implied_opens h) h rest (s.shown key (view_of h)) taken u
        → next ≡ with_shown s key (view_of h) (implied_opens h) taken → OfPeerLeniently route_monitoring s h key rest (up key (implied_info h) ∷ effects_of (routes key (view_of h) u)) next
    tells_first next none untold taken u is after =
        let effects = effects_of (routes key (view_of h) u) in
        let tells : TellsRoutes s (implied_opens h) h key rest (up key (implied_info h) ∷ effects) next = record {
          taken = taken;
          update = u;
          is = is;
          effects_are = ap (λ (o : Option OpensValue). implied_up o key h ++ effects) (sym none);
          next_is = after;
        } in
        subst (λ (found : Option OpensValue). RoutesUnder (up key (implied_info h) ∷ effects) next found) (sym (untold_opens none untold)) (inl tells)

    unreadable : (opens : OpensValue) → opens_for s h key ≡ Some opens → is_untold s key ≡ true → ((taken : FormsValue) (u : UpdateValue) → IsLenientUpdate opens h rest (s.shown key (view_of h)) taken u → ⊥)
        → OfPeerLeniently route_monitoring s h key rest (orphan ∷ []) s
    unreadable opens found untold none = subst (λ (o : Option OpensValue). RoutesUnder (orphan ∷ []) s o) (sym found) (inr (record { untold = untold; none = none; orphaned = orphaned }))

    pub unreadable_known : (opens : OpensValue) → s.opens key ≡ Some opens → is_untold s key ≡ true → ((taken : FormsValue) (u : UpdateValue) → IsLenientUpdate opens h rest (s.shown key (view_of h)) taken u → ⊥)
        → OfPeerLeniently route_monitoring s h key rest (orphan ∷ []) s
    unreadable_known opens is_up untold none = unreadable opens (up_opens opens is_up) untold none

    pub unreadable_first : s.opens key ≡ None → is_untold s key ≡ true → ((taken : FormsValue) (u : UpdateValue) → IsLenientUpdate (implied_opens h) h rest (s.shown key (view_of h)) taken u → ⊥)
        → OfPeerLeniently route_monitoring s h key rest (orphan ∷ []) s
    unreadable_first is_down untold none = unreadable (implied_opens h) (untold_opens is_down untold) untold none

    told_not : is_untold s key ≡ false → is_untold s key ≡ true → ⊥
    told_not told untold = true≢false (sym untold ∙ told)

    -- what can't be read of a peer that was told of
    pub no_routes_of : (opens : OpensValue) → s.opens key ≡ Some opens → is_untold s key ≡ false → ((taken : FormsValue) (u : UpdateValue) → IsLenientUpdate opens h rest (s.shown key (view_of h)) taken u → ⊥)
        → ReadsNothing (OfPeerLeniently route_monitoring s h key rest)
    no_routes_of opens is_up told none effects next p =
        let here : TellsRoutes s opens h key rest effects next ⊎ IsUnreadable s opens h key rest effects next = subst (λ (o : Option OpensValue). RoutesUnder effects next o) (up_opens opens is_up) p in
        elim here [ inl q ↦ none q.taken q.update q.is | inr q ↦ told_not told q.untold ]

    -- a Statistics Report

    abbrev StatisticsUnder : List EffectValue → LenientState → Option OpensValue → Type 0
    StatisticsUnder effects next found = MatchOption found (IsOrphan s effects next) (λ opens. TellsStatistics s key rest effects next ⊎ IsNoReport s key rest effects next)

    pub orphan_report : s.opens key ≡ None → OfPeerLeniently statistics_report s h key rest (orphan ∷ []) s
    orphan_report none = subst (λ (o : Option OpensValue). StatisticsUnder (orphan ∷ []) s o) (sym none) orphaned

    pub no_report : (opens : OpensValue) → s.opens key ≡ Some opens → is_untold s key ≡ true → ((r : StatisticsValue) → IsStatistics rest r → ⊥) → OfPeerLeniently statistics_report s h key rest (orphan ∷ []) s
    no_report opens is_up untold none = subst (λ (o : Option OpensValue). StatisticsUnder (orphan ∷ []) s o) (sym is_up) (inr (record { untold = untold; none = none; orphaned = orphaned }))

    pub no_report_of : (opens : OpensValue) → s.opens key ≡ Some opens → is_untold s key ≡ false → ((r : StatisticsValue) → IsStatistics rest r → ⊥) → ReadsNothing (OfPeerLeniently statistics_report s h key rest)
    no_report_of opens is_up told none effects next p =
        let here : TellsStatistics s key rest effects next ⊎ IsNoReport s key rest effects next = subst (λ (o : Option OpensValue). StatisticsUnder effects next o) is_up p in
        elim here [ inl q ↦ none q.report q.is | inr q ↦ told_not told q.untold ]

-- a message with a Per-Peer Header is of one of these types
pub of_peer_type_so : (kind : PeerMessage) (s : LenientState) (body : List ℕ) → HasPeerLeniently (message_type_of kind) s body ≡ OfTypeLeniently (message_type_of kind) s body
of_peer_type_so RouteMonitoring s body = refl
of_peer_type_so StatisticsReport s body = refl
of_peer_type_so PeerDown s body = refl
of_peer_type_so PeerUp s body = refl
of_peer_type_so RouteMirroring s body = refl
