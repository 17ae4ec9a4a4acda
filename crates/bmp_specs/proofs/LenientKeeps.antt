-- A message that has a meaning by the RFCs has the same one in the lenient reading, and the states go on agreeing; or
-- it is a message of a Loc-RIB of which nothing told.
use Rattle.std.proofs.Common.{◌≡◌, ◌⊎◌, ℕ, Bool, true, false, cond, inl, inr, List, [], ◌∷◌, ◌++◌, map, take, drop, Option, Some, None, refl, sym, ap, ◌∙◌, subst}
use Rattle.std.specs.Prelude.{MatchOption}
use Rattle.std.specs.Option.{option_or}
use Rattle.bmp_specs.specs.ImpliedPeerUp.{implied_opens}
use Rattle.bmp_specs.specs.LenientBody.{HasPeerLeniently, IsAsStrict, IsLenientUpdate, IsNoReport, IsOrphan, IsUnreadable, OfPeerLeniently, OfTypeLeniently, TellsRoutes, TellsStatistics, implied_up}
use Rattle.bmp_specs.specs.LenientState.{LenientState, is_untold, opens_for, with_shown, with_told}
use Rattle.bmp_specs.specs.MessageBody.{HasPeer, IsRouteMonitoring, MessageType, OfPeer, OfType, ReadingState, with_peer, initiation_message, peer_down_notification, peer_up_notification, route_mirroring, route_monitoring, statistics_report, termination_message, unassigned}
use Rattle.bmp_specs.specs.MessageEffects.{effect_of, effects_of, unread_effect}
use Rattle.bmp_specs.specs.PeerHeader.{HeaderValue, IsHeader, header_size, key_of, view_of}
use Rattle.bmp_specs.specs.PeerUp.{Names}
use Rattle.bmp_specs.specs.Statistics.{IsStatistics}
use Rattle.bmp_specs.specs.UpdateForms.{FormsValue, as_agreed}
use Rattle.bmp_specs.specs.Values.{EffectValue, InitiationValue, KeyValue, MessageValue, NlriValue, OpensValue, StatisticsValue, StatValue, UpdateValue, announce, down, initiation, mark, mirrored, mirrored_routes, named, described, of_unknown_peer, of_unknown_type, orphan, passed, peer_down, peer_up, routes, statistic, statistics, termination, unread, up, withdraw}
use Rattle.bmp_specs.proofs.LenientAgrees.{Agrees, AreOf, agrees_read, agrees_still, agrees_told}
use Rattle.bmp_specs.proofs.LenientStrict.{lenient_update}

-- ---- the peers that effects name
join : (key : KeyValue) (a b : List EffectValue) → AreOf key a → AreOf key b → AreOf key (a ++ b)
join key [] b p q = q
join key (e ∷ a) b p q = (p.0, join key a b p.1 q)

each : {V : Type 0} (key : KeyValue) (f : V → EffectValue) → ((v : V) → ¬ (Names key (f v))) → (vs : List V) → AreOf key (map f vs)
each key f p [] = tt
each key f p (v ∷ vs) = (p v, each key f p vs)

some : {V : Type 0} (key : KeyValue) (f : V → EffectValue) → ((v : V) → ¬ (Names key (f v))) → (found : Option V) → AreOf key (effect_of f found)
some key f p None = tt
some key f p (Some v) = (p v, tt)

counted : (key : KeyValue) (zero : Bool) (n : ℕ) → AreOf key (cond zero [] (unread n ∷ []))
counted key true n = tt
counted key false n = (λ names. names, tt)

pub unread_other : (key : KeyValue) (n : ℕ) → AreOf key (unread_effect n)
unread_other key n = counted key _ n

pub routes_other : (key k : KeyValue) (view : _) (u : UpdateValue) → AreOf key (effects_of (routes k view u))
routes_other key k view u = join key _ _ (join key _ _ (join key _ _ (join key _ _
    (each key (λ (n : NlriValue). withdraw k view n) (λ n names. names) u.withdrawn)
    (each key (λ (n : NlriValue). announce k view n u.plain_attrs) (λ n names. names) u.plain))
    (each key (λ (n : NlriValue). announce k view n u.multi_attrs) (λ n names. names) u.multi))
    (some key (λ family. mark k view family) (λ family names. names) u.mark))
    (unread_other key u.unread)

pub statistics_other : (key k : KeyValue) (s : StatisticsValue) → AreOf key (effects_of (statistics k s))
statistics_other key k s = join key _ _ (each key (λ (stat : StatValue). statistic k stat) (λ stat names. names) s.stats) (unread_other key s.unread)

initiation_other : (key : KeyValue) (i : InitiationValue) → AreOf key (effects_of (initiation i))
initiation_other key i = join key _ _ (join key _ _ (some key named (λ n names. names) i.name) (some key described (λ n names. names) i.descr)) (unread_other key i.unread)

-- ---- a message and its lenient meaning
-- the message has the same effects in the lenient reading, and the states after it agree
pub record Kept (Means : List EffectValue → LenientState → Type 0) (before : List EffectValue) (m : MessageValue) (s : ReadingState) : Type 0 where
  pub next : LenientState
  pub means : Means (effects_of m) next
  pub agrees : Agrees (before ++ effects_of m) s next

kept_along : (Means : List EffectValue → LenientState → Type 0) (before : List EffectValue) (m n : MessageValue) (s t : ReadingState) → m ≡ n → s ≡ t → Kept Means before n t → Kept Means before m s
kept_along Means before m n s t e f k = subst (λ (x : ReadingState). Kept Means before m x) (sym f) (subst (λ (x : MessageValue). Kept Means before x t) (sym e) k)

-- a type of which the messages of a Loc-RIB that was not told of are orphans
abbrev pub IsOfRoutes : MessageType → Type 0
IsOfRoutes kind = (kind ≡ route_monitoring) ⊎ (kind ≡ statistics_report)

-- a message of a Loc-RIB that was not told of
pub record IsUntoldMessage (kind : MessageType) (t : LenientState) (key : KeyValue) (m : MessageValue) (s next : ReadingState) : Type 0 where
  pub type_is : IsOfRoutes kind
  pub untold : is_untold t key ≡ true
  pub value_is : m ≡ of_unknown_peer
  pub state_is : next ≡ s

-- the same, with its header
pub record IsUntoldBody (kind : MessageType) (t : LenientState) (body : List ℕ) (m : MessageValue) (s next : ReadingState) : Type 0 where
  pub header : HeaderValue
  pub is_header : IsHeader (take header_size body) header
  pub key : KeyValue
  pub key_is : key_of header ≡ Some key
  pub message : IsUntoldMessage kind t key m s next

module _ (before : List EffectValue) (s : ReadingState) (t : LenientState) (agrees : Agrees before s t) where
  module _ (h : HeaderValue) (key : KeyValue) (rest : List ℕ) (m : MessageValue) (next : ReadingState) (stays : next ≡ s) where
    orphan_still : Agrees (before ++ orphan ∷ []) s t
    orphan_still = agrees_still before s t agrees (orphan ∷ []) (λ k. (λ names. names, tt))

    opens_are : (found : Option OpensValue) → is_untold t key ≡ false → t.opens key ≡ found → opens_for t h key ≡ found
    opens_are None told is = ap (λ (o : Option OpensValue). option_or o (cond (is_untold t key) (Some (implied_opens h)) None)) is ∙ ap (λ (b : Bool). cond b (Some (implied_opens h)) None) told
    opens_are (Some opens) told is = ap (λ (o : Option OpensValue). option_or o (cond (is_untold t key) (Some (implied_opens h)) None)) is

    routes_kept : (found : Option OpensValue) → s key ≡ found → is_untold t key ≡ false → MatchOption found (m ≡ of_unknown_peer) (λ opens. (u : UpdateValue) × IsRouteMonitoring opens h rest u × (m ≡ routes key (view_of h) u))
        → Kept (OfPeerLeniently route_monitoring t h key rest) before m next
    routes_kept None is told e =
        let opens = opens_are None told (agrees.opens key told ∙ is) in
        let orphaned : IsOrphan t (orphan ∷ []) t = record { effects_are = refl; next_is = refl } in
        let means = subst (λ (found : Option OpensValue). MatchOption found (IsOrphan t (orphan ∷ []) t) (λ opens. TellsRoutes t opens h key rest (orphan ∷ []) t ⊎ IsUnreadable t opens h key rest (orphan ∷ []) t)) (sym opens) orphaned in
        kept_along (OfPeerLeniently route_monitoring t h key rest) before m of_unknown_peer next s e stays (record { next = t; means = means; agrees = orphan_still })
    routes_kept (Some opens) is told (u, reads, e) =
        let up = agrees.opens key told ∙ is in
        let after = with_shown t key (view_of h) opens as_agreed in
        let effects = effects_of (routes key (view_of h) u) in
        let tells : TellsRoutes t opens h key rest effects after = record {
          taken = as_agreed;
          update = u;
          is = subst (λ (f : FormsValue). IsLenientUpdate opens h rest f as_agreed u) (sym (agrees.shown key (view_of h) told)) (lenient_update opens h rest u reads);
          effects_are = ap (λ (o : Option OpensValue). implied_up o key h ++ effects) (sym up);
          next_is = refl;
        } in
        let means = subst (λ (found : Option OpensValue). MatchOption found (IsOrphan t effects after) (λ opens. TellsRoutes t opens h key rest effects after ⊎ IsUnreadable t opens h key rest effects after)) (sym (opens_are (Some opens) told up)) (inl tells) in
        kept_along (OfPeerLeniently route_monitoring t h key rest) before m (routes key (view_of h) u) next s e stays
        (record { next = after; means = means; agrees = agrees_read before s t agrees effects key (view_of h) opens (λ k. routes_other k key (view_of h) u) is })

    reports_kept : (found : Option OpensValue) → s key ≡ found → is_untold t key ≡ false → MatchOption found (m ≡ of_unknown_peer) (λ opens. (r : StatisticsValue) × IsStatistics rest r × (m ≡ statistics key r))
        → Kept (OfPeerLeniently statistics_report t h key rest) before m next
    reports_kept None is told e =
        let orphaned : IsOrphan t (orphan ∷ []) t = record { effects_are = refl; next_is = refl } in
        let means = subst (λ (found : Option OpensValue). MatchOption found (IsOrphan t (orphan ∷ []) t) (λ opens. TellsStatistics t key rest (orphan ∷ []) t ⊎ IsNoReport t key rest (orphan ∷ []) t)) (sym (agrees.opens key told ∙ is)) orphaned in
        kept_along (OfPeerLeniently statistics_report t h key rest) before m of_unknown_peer next s e stays (record { next = t; means = means; agrees = orphan_still })
    reports_kept (Some opens) is told (r, reads, e) =
        let effects = effects_of (statistics key r) in
        let tells : TellsStatistics t key rest effects t = record { report = r; is = reads; effects_are = refl; next_is = refl } in
        let means = subst (λ (found : Option OpensValue). MatchOption found (IsOrphan t effects t) (λ opens. TellsStatistics t key rest effects t ⊎ IsNoReport t key rest effects t)) (sym (agrees.opens key told ∙ is)) (inl tells) in
        kept_along (OfPeerLeniently statistics_report t h key rest) before m (statistics key r) next s e stays
        (record { next = t; means = means; agrees = agrees_still before s t agrees effects (λ k. statistics_other k key r) })

    unknown : (P : OpensValue → Type 0) → is_untold t key ≡ true → MatchOption (s key) (m ≡ of_unknown_peer) P → m ≡ of_unknown_peer
    unknown P untold p = subst (λ (found : Option OpensValue). MatchOption found (m ≡ of_unknown_peer) P) (agrees.none key untold) p

  module _ (h : HeaderValue) (key : KeyValue) (rest : List ℕ) (m : MessageValue) (next : ReadingState) where
    -- a message of one peer, which was not told of or was
    of_peer_keeps : (kind : MessageType) (untold : Bool) → is_untold t key ≡ untold → OfPeer kind s h key rest m next
        → Kept (OfPeerLeniently kind t h key rest) before m next ⊎ IsUntoldMessage kind t key m s next
    of_peer_keeps route_monitoring true is (a, p) = inr (record { type_is = inl refl; untold = is; value_is = unknown h key rest m next a (λ opens. (u : UpdateValue) × IsRouteMonitoring opens h rest u × (m ≡ routes key (view_of h) u)) is p; state_is = a })
    of_peer_keeps route_monitoring false is (a, p) = inl (routes_kept h key rest m next a (s key) refl is p)
    of_peer_keeps statistics_report true is (a, p) = inr (record { type_is = inr refl; untold = is; value_is = unknown h key rest m next a (λ opens. (r : StatisticsValue) × IsStatistics rest r × (m ≡ statistics key r)) is p; state_is = a })
    of_peer_keeps statistics_report false is (a, p) = inl (reports_kept h key rest m next a (s key) refl is p)
    of_peer_keeps peer_down_notification b is (d, p, e, a) = inl (kept_along (OfPeerLeniently peer_down_notification t h key rest) before m (peer_down key d) next (with_peer s key None) e a
        (record { next = with_told t key None; means = (d, p, refl, refl); agrees = agrees_told before s t agrees (down key d ∷ []) key None (λ k other. (other, tt)) }))
    of_peer_keeps peer_up_notification b is (u, p, e, a) =
        let opens : Option OpensValue = Some (record { sent = u.info.sent; received = u.info.received }) in
        inl (kept_along (OfPeerLeniently peer_up_notification t h key rest) before m (peer_up key u) next (with_peer s key opens) e a
        (record { next = with_told t key opens; means = (u, p, refl, refl); agrees = agrees_told before s t agrees (up key u.info ∷ unread_effect u.unread) key opens (λ k other. (other, unread_other k u.unread)) }))
    of_peer_keeps route_mirroring b is (n, p, e, a) = inl (kept_along (OfPeerLeniently route_mirroring t h key rest) before m (mirrored_routes n) next s e a
        (record { next = t; means = (n, p, refl, refl); agrees = agrees_still before s t agrees (mirrored ∷ unread_effect n) (λ k. (λ names. names, unread_other k n)) }))
    of_peer_keeps initiation_message b is p = absurd p
    of_peer_keeps termination_message b is p = absurd p
    of_peer_keeps unassigned b is p = absurd p

  -- what follows the header is of one peer, or of none
  by_key_keeps : (kind : MessageType) (h : HeaderValue) (rest : List ℕ) (m : MessageValue) (next : ReadingState) (found : Option KeyValue) → key_of h ≡ found
      → MatchOption found ((m ≡ of_unknown_type) × (next ≡ s)) (λ key. OfPeer kind s h key rest m next)
      → Kept (λ effects after. MatchOption found ((effects ≡ passed ∷ []) × (after ≡ t)) (λ key. OfPeerLeniently kind t h key rest effects after)) before m next
      ⊎ ((key : KeyValue) × (key_of h ≡ Some key) × IsUntoldMessage kind t key m s next)
  by_key_keeps kind h rest m next None is (e, a) =
      let Means : List EffectValue → LenientState → Type 0 = λ effects after. (effects ≡ passed ∷ []) × (after ≡ t) in
      inl (kept_along Means before m of_unknown_type next s e a (record { next = t; means = (refl, refl); agrees = agrees_still before s t agrees (passed ∷ []) (λ k. (λ names. names, tt)) }))
  by_key_keeps kind h rest m next (Some key) is p = elim (of_peer_keeps h key rest m next kind (is_untold t key) refl p) [ inl k ↦ inl k | inr o ↦ inr (key, is, o) ]

  has_peer_keeps : (kind : MessageType) (body : List ℕ) (m : MessageValue) (next : ReadingState) → HasPeer kind s body m next
      → Kept (HasPeerLeniently kind t body) before m next ⊎ IsUntoldBody kind t body m s next
  has_peer_keeps kind body m next p = elim (by_key_keeps kind p.header (drop header_size body) m next (key_of p.header) refl p.means) [
    | inl k ↦ inl (record { next = k.next; means = record { header = p.header; is = p.is; means = k.means }; agrees = k.agrees })
    | inr o ↦ inr (record { header = p.header; is_header = p.is; key = o.0; key_is = o.1; message = o.2 })
  ]

  -- a message of any type
  pub of_type_keeps : (kind : MessageType) (body : List ℕ) (m : MessageValue) (next : ReadingState) → OfType kind s body m next
      → Kept (OfTypeLeniently kind t body) before m next ⊎ IsUntoldBody kind t body m s next
  of_type_keeps initiation_message body m next (i, p, e, a) =
      let means : IsAsStrict initiation_message t body (effects_of (initiation i)) t = record { value = initiation i; means = (i, p, refl, refl); effects_are = refl; next_is = refl } in
      inl (kept_along (IsAsStrict initiation_message t body) before m (initiation i) next s e a (record { next = t; means = means; agrees = agrees_still before s t agrees (effects_of (initiation i)) (λ k. initiation_other k i) }))
  of_type_keeps termination_message body m next (p, e, a) =
      let means : IsAsStrict termination_message t body [] t = record { value = termination; means = (p, refl, refl); effects_are = refl; next_is = refl } in
      inl (kept_along (IsAsStrict termination_message t body) before m termination next s e a (record { next = t; means = means; agrees = agrees_still before s t agrees [] (λ k. tt) }))
  of_type_keeps unassigned body m next (e, a) =
      let means : IsAsStrict unassigned t body (passed ∷ []) t = record { value = of_unknown_type; means = (refl, refl); effects_are = refl; next_is = refl } in
      inl (kept_along (IsAsStrict unassigned t body) before m of_unknown_type next s e a (record { next = t; means = means; agrees = agrees_still before s t agrees (passed ∷ []) (λ k. (λ names. names, tt)) }))
  of_type_keeps route_monitoring body m next p = has_peer_keeps route_monitoring body m next p
  of_type_keeps statistics_report body m next p = has_peer_keeps statistics_report body m next p
  of_type_keeps peer_down_notification body m next p = has_peer_keeps peer_down_notification body m next p
  of_type_keeps peer_up_notification body m next p = has_peer_keeps peer_up_notification body m next p
  of_type_keeps route_mirroring body m next p = has_peer_keeps route_mirroring body m next p
